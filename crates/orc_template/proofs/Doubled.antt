-- Texts whose braces are doubled, as bytes and as characters.
use Rattle.std.proofs.Common.{◌≡◌, ℕ, ◌≤◌, ◌==◌, Bool, true, false, cond, List, [], ◌∷◌, ◌++◌, encode_utf8, encode_utf8_all, IsUtf8, refl, sym, ap, subst, ◌∙◌, arith, append-nil}
use Rattle.std.proofs.Math.Dec.{ltb}
use Rattle.std.specs.Str.{chars, all_scalars}
use Rattle.std.specs.List.{flat_map}
use Rattle.std.proofs.lemmas.Bool.{eqb-true, and_parts, and_from, ltb-true, ltb-false}
use Rattle.std.proofs.lemmas.Grind.{flat_map-append}
use Rattle.std.proofs.lemmas.Str.{encode_ascii, encodes-append, chars-encodes, encodes-chars, scalars-chars}
use Rattle.orc_path.proofs.Plain.{are_wide-encode}
use Rattle.orc_path.proofs.Written.{flat_wide}
use Rattle.orc_template.specs.Spelled.{brace_doubled}

-- a byte that is no brace
pub no_brace : (b : ℕ) → (b == 123) ≡ false → (b == 125) ≡ false → brace_doubled b ≡ b ∷ []
no_brace b h k = ap (λ t. cond t (123 ∷ 123 ∷ []) (cond (b == 125) (125 ∷ 125 ∷ []) (b ∷ []))) h ∙ ap (λ t. cond t (125 ∷ 125 ∷ []) (b ∷ [])) k

high_no_brace : (b : ℕ) → 128 ≤ b → brace_doubled b ≡ b ∷ []
high_no_brace b h = no_brace b (grind arith) (grind arith)

-- of the bytes of one character
pub character_doubled : (c : ℕ) → flat_map brace_doubled (encode_utf8 c) ≡ encode_utf8_all (brace_doubled c)
character_doubled c = on (c == 123) (c == 125) refl refl
  where
    plain : brace_doubled c ≡ c ∷ [] → (t : Bool) → ltb c 128 ≡ t → flat_map brace_doubled (encode_utf8 c) ≡ encode_utf8 c
    plain is true low = ap (flat_map brace_doubled) (encode_ascii c (ltb-true c 128 low)) ∙ append-nil (brace_doubled c) ∙ is ∙ sym (encode_ascii c (ltb-true c 128 low))
    plain is false high = flat_wide brace_doubled high_no_brace (encode_utf8 c) (are_wide-encode c (ltb-false c 128 high))

    on : (a b : Bool) → (c == 123) ≡ a → (c == 125) ≡ b → flat_map brace_doubled (encode_utf8 c) ≡ encode_utf8_all (brace_doubled c)
    on true b h k = subst (λ x. flat_map brace_doubled (encode_utf8 x) ≡ encode_utf8_all (brace_doubled x)) (sym (eqb-true c 123 h))
        (let one : encode_utf8 123 ≡ 123 ∷ [] = encode_ascii 123 (omega arith) in rw one refl)
    on false true h k = subst (λ x. flat_map brace_doubled (encode_utf8 x) ≡ encode_utf8_all (brace_doubled x)) (sym (eqb-true c 125 k))
        (let one : encode_utf8 125 ≡ 125 ∷ [] = encode_ascii 125 (omega arith) in rw one refl)
    on false false h k = let is = no_brace c h k in plain is (ltb c 128) refl ∙ sym (append-nil (encode_utf8 c)) ∙ ap encode_utf8_all (sym is)

characters_doubled : (cs : List ℕ) → flat_map brace_doubled (encode_utf8_all cs) ≡ encode_utf8_all (flat_map brace_doubled cs)
characters_doubled [] = refl
characters_doubled (c ∷ cs) =
    flat_map-append brace_doubled (encode_utf8 c) (encode_utf8_all cs)
    ∙ ap (λ x. x ++ flat_map brace_doubled (encode_utf8_all cs)) (character_doubled c)
    ∙ ap (λ x. encode_utf8_all (brace_doubled c) ++ x) (characters_doubled cs)
    ∙ sym (encodes-append (brace_doubled c) (flat_map brace_doubled cs))

pub scalars_append : (xs ys : List ℕ) → all_scalars xs ≡ true → all_scalars ys ≡ true → all_scalars (xs ++ ys) ≡ true
scalars_append [] ys h k = k
scalars_append (x ∷ xs) ys h k = let parts = and_parts _ _ h in and_from _ _ parts.0 (scalars_append xs ys parts.1 k)

doubled_scalars : (cs : List ℕ) → all_scalars cs ≡ true → all_scalars (flat_map brace_doubled cs) ≡ true
doubled_scalars [] h = refl
doubled_scalars (c ∷ cs) h =
    let parts = and_parts _ _ h in
    scalars_append (brace_doubled c) (flat_map brace_doubled cs) (on (c == 123) (c == 125) refl refl (and_from _ _ parts.0 refl)) (doubled_scalars cs parts.1)
  where
    on : (a b : Bool) → (c == 123) ≡ a → (c == 125) ≡ b → all_scalars (c ∷ []) ≡ true → all_scalars (brace_doubled c) ≡ true
    on true b e k s = rw e refl
    on false true e k s = rw (e, k) refl
    on false false e k s = rw (e, k) s

-- the characters of a text with doubled braces are those of the text with doubled braces
module _ (text : List ℕ) (is : IsUtf8 text) where
  as_characters : flat_map brace_doubled text ≡ encode_utf8_all (flat_map brace_doubled (chars text))
  as_characters = ap (flat_map brace_doubled) (sym (encodes-chars text is)) ∙ characters_doubled (chars text)

  scalars : all_scalars (flat_map brace_doubled (chars text)) ≡ true
  scalars = doubled_scalars (chars text) (scalars-chars text is)

  pub doubled_utf8 : IsUtf8 (flat_map brace_doubled text)
  doubled_utf8 = (flat_map brace_doubled (chars text), (scalars, sym as_characters))

  pub doubled_chars : chars (flat_map brace_doubled text) ≡ flat_map brace_doubled (chars text)
  doubled_chars = ap chars as_characters ∙ chars-encodes (flat_map brace_doubled (chars text)) scalars
