-- The texts of paths and values are plain texts.
use Rattle.std.proofs.Common.{◌≡◌, ℕ, ◌<◌, ◌≤◌, Bool, true, false, ◌==◌, ◌&&◌, cond, nat_lt, List, [], ◌∷◌, ◌++◌, encode_utf8, encode_utf8_all, refl, sym, subst, arith}
use Rattle.std.proofs.Math.Dec.{ltb}
use Rattle.std.specs.Prelude.{IsUtf8, codes, chars}
use Rattle.std.specs.List.{flat_map, list_all}
use Rattle.std.specs.Str.{all_scalars}
use Rattle.std.specs.Char.{IsScalar}
use Rattle.std.proofs.lemmas.Bool.{and_parts, ltb-true, ltb-false, false≢true}
use Rattle.std.proofs.lemmas.Grind.{flat_map-append}
use Rattle.std.proofs.lemmas.Str.{encode_ascii}
use Rattle.orc_text.specs.Characters.{is_plain_character, is_plain_text}
use Rattle.orc_path.specs.Alphabet.{is_name_start, is_name_byte, is_identifier, is_qualified, is_qualified_rest, is_key, is_value}
use Rattle.orc_path.specs.Steps.{PathStep, is_first_step, is_later_step, is_path}
use Rattle.orc_path.specs.Texts.{escape, key_text, step_text, path_text, value_escape, value_text}
use Rattle.orc_path.specs.inside.Reading.{is_key_byte}
use Rattle.orc_path.proofs.Parts.{start_is_name_byte}
use Rattle.orc_text.proofs.Plain.{is_plain_text-nil, is_plain_text-append, is_plain_text-encode, plain_parts, spelled}
use Rattle.orc_path.proofs.Plain.{is_plain_text-byte, is_key_byte-character, are_wide-encode}
use Rattle.orc_path.proofs.Written.{flat_wide, escape-wide, value_escape-wide}

abbrev IsPlain : List ℕ → Type 0
IsPlain xs = is_plain_text xs ≡ true

flat_plain : {X : Type 0} (f : X → List ℕ) (p : X → Bool) → ((x : X) → p x ≡ true → IsPlain (f x)) → (xs : List X) → list_all p xs ≡ true → IsPlain (flat_map f xs)
flat_plain f p each [] h = is_plain_text-nil
flat_plain f p each (x ∷ xs) h =
    let parts = and_parts (p x) (list_all p xs) h in
    is_plain_text-append (f x) (flat_map f xs) (each x parts.0) (flat_plain f p each xs parts.1)

led_plain : (b : ℕ) (bs : List ℕ) → b < 128 → is_key_byte b ≡ true → IsPlain bs → IsPlain (b ∷ bs)
led_plain b bs l k h = is_plain_text-append (b ∷ []) bs (is_plain_text-byte b l k) h

-- Names

name_byte_low : (b : ℕ) → is_name_byte b ≡ true → b < 128
name_byte_low b h = grind arith

name_byte_key : (b : ℕ) → is_name_byte b ≡ true → is_key_byte b ≡ true
name_byte_key b h = grind arith

colon_low : (b : ℕ) → (b == 58) ≡ true → b < 128
colon_low b h = grind arith

colon_key : (b : ℕ) → (b == 58) ≡ true → is_key_byte b ≡ true
colon_key b h = grind arith

named_plain : (b : ℕ) (bs : List ℕ) → is_name_byte b ≡ true → IsPlain bs → IsPlain (b ∷ bs)
named_plain b bs h k = led_plain b bs (name_byte_low b h) (name_byte_key b h) k

name_bytes_plain : (bs : List ℕ) → list_all is_name_byte bs ≡ true → IsPlain bs
name_bytes_plain [] h = is_plain_text-nil
name_bytes_plain (b ∷ bs) h = let parts = and_parts (is_name_byte b) (list_all is_name_byte bs) h in named_plain b bs parts.0 (name_bytes_plain bs parts.1)

identifier_plain : (bs : List ℕ) → is_identifier bs ≡ true → IsPlain bs
identifier_plain [] h = absurd (false≢true h)
identifier_plain (b ∷ bs) h =
    let parts = and_parts (is_name_start b) (list_all is_name_byte bs) h in
    named_plain b bs (start_is_name_byte b parts.0) (name_bytes_plain bs parts.1)

rest_plain : (bs : List ℕ) → is_qualified_rest bs ≡ true → IsPlain bs
rest_plain [] h = absurd (false≢true h)
rest_plain (b ∷ bs) h = at (b == 58) refl (rest_plain bs) h
  where
    at : (t : Bool) → (b == 58) ≡ t → (is_qualified_rest bs ≡ true → IsPlain bs)
        → cond t (is_identifier bs) (is_name_byte b && is_qualified_rest bs) ≡ true → IsPlain (b ∷ bs)
    at true e more k = led_plain b bs (colon_low b e) (colon_key b e) (identifier_plain bs k)
    at false e more k = let parts = and_parts (is_name_byte b) (is_qualified_rest bs) k in named_plain b bs parts.0 (more parts.1)

qualified_plain : (bs : List ℕ) → is_qualified bs ≡ true → IsPlain bs
qualified_plain [] h = absurd (false≢true h)
qualified_plain (b ∷ bs) h =
    let parts = and_parts (is_name_start b) (is_qualified_rest bs) h in
    named_plain b bs (start_is_name_byte b parts.0) (rest_plain bs parts.1)

-- Keys and values

module _ (f : ℕ → List ℕ) (low : (b : ℕ) → b < 128 → is_key_byte b ≡ true → IsPlain (f b)) (high : (b : ℕ) → 128 ≤ b → f b ≡ b ∷ []) where
  escaped_plain : (t : Bool) (c : ℕ) → ltb c 128 ≡ t → IsScalar c → is_plain_character c ≡ true → IsPlain (flat_map f (encode_utf8 c))
  escaped_plain true c e s h =
      let ascii = ltb-true c 128 e in
      subst (λ xs. IsPlain (flat_map f xs)) (sym (encode_ascii c ascii))
      (is_plain_text-append (f c) [] (low c ascii (is_key_byte-character c h)) is_plain_text-nil)
  escaped_plain false c e s h = subst IsPlain (sym (flat_wide f high (encode_utf8 c) (are_wide-encode c (ltb-false c 128 e)))) (is_plain_text-encode c s h)

  characters_plain : (cs : List ℕ) → all_scalars cs ≡ true → list_all is_plain_character cs ≡ true → IsPlain (flat_map f (encode_utf8_all cs))
  characters_plain [] s h = is_plain_text-nil
  characters_plain (c ∷ cs) s h =
      let scalars = and_parts _ _ s in
      let parts = and_parts _ _ h in
      subst IsPlain (sym (flat_map-append f (encode_utf8 c) (encode_utf8_all cs)))
      (is_plain_text-append (flat_map f (encode_utf8 c)) (flat_map f (encode_utf8_all cs))
      (escaped_plain (ltb c 128) c refl scalars.0 parts.0) (characters_plain cs scalars.1 parts.1))

  all_escaped_plain : (xs : List ℕ) → IsPlain xs → IsPlain (flat_map f xs)
  all_escaped_plain xs h = let s = spelled xs h in subst (λ x. IsPlain (flat_map f x)) s.text (characters_plain (chars xs) s.scalars s.plain)

-- one of the two
either_plain : (t : Bool) (xs ys : List ℕ) → IsPlain xs → IsPlain ys → IsPlain (cond t xs ys)
either_plain true xs ys h k = h
either_plain false xs ys h k = k

-- a backslash and a byte
behind_backslash : (c : ℕ) → (is_key_byte c && nat_lt c 128) ≡ true → IsPlain (92 ∷ c ∷ [])
behind_backslash c h = let parts = and_parts _ _ h in led_plain 92 (c ∷ []) (omega arith) refl (is_plain_text-byte c (ltb-true c 128 parts.1) parts.0)

escape_plain : (b : ℕ) → b < 128 → is_key_byte b ≡ true → IsPlain (escape b)
escape_plain b l h =
    either_plain (b == 92) _ _ (behind_backslash 92 refl)
    (either_plain (b == 93) _ _ (behind_backslash 93 refl)
    (either_plain (b == 32) _ _ (behind_backslash 115 refl)
    (either_plain (b == 9) _ _ (behind_backslash 116 refl)
    (either_plain (b == 10) _ _ (behind_backslash 110 refl)
    (either_plain (b == 13) _ _ (behind_backslash 114 refl) (is_plain_text-byte b l h))))))

value_escape_plain : (b : ℕ) → b < 128 → is_key_byte b ≡ true → IsPlain (value_escape b)
value_escape_plain b l h =
    either_plain (b == 92) _ _ (behind_backslash 92 refl)
    (either_plain (b == 9) _ _ (behind_backslash 116 refl)
    (either_plain (b == 10) _ _ (behind_backslash 110 refl)
    (either_plain (b == 13) _ _ (behind_backslash 114 refl) (is_plain_text-byte b l h))))

-- the text of a value is a plain text
pub is_plain_text-value_text : (value : List ℕ) → is_value value ≡ true → is_plain_text (value_text value) ≡ true
is_plain_text-value_text value h = all_escaped_plain value_escape value_escape_plain value_escape-wide value h

key_plain : (key : List ℕ) → is_key key ≡ true → IsPlain (key_text key)
key_plain key h =
    is_plain_text-append (codes "[" ++ flat_map escape key) (codes "]")
    (is_plain_text-append (codes "[") (flat_map escape key) (is_plain_text-byte 91 (omega arith) refl) (all_escaped_plain escape escape_plain escape-wide key h))
    (is_plain_text-byte 93 (omega arith) refl)

-- Steps

step_plain : (s : PathStep) → IsPlain s.node → list_all is_key s.keys ≡ true → IsPlain (step_text s)
step_plain s node keys = led_plain 47 (s.node ++ flat_map key_text s.keys) (omega arith) refl (is_plain_text-append s.node (flat_map key_text s.keys) node (flat_plain key_text is_key key_plain s.keys keys))

later_plain : (s : PathStep) → is_later_step s ≡ true → IsPlain (step_text s)
later_plain s h = let parts = and_parts (is_identifier s.node) (list_all is_key s.keys) h in step_plain s (identifier_plain s.node parts.0) parts.1

first_plain : (s : PathStep) → is_first_step s ≡ true → IsPlain (step_text s)
first_plain s h = let parts = and_parts (is_qualified s.node) (list_all is_key s.keys) h in step_plain s (qualified_plain s.node parts.0) parts.1

pub is_plain_text-path_text : (p : List PathStep) → is_path p ≡ true → is_plain_text (path_text p) ≡ true
is_plain_text-path_text [] h = is_plain_text-byte 47 (omega arith) refl
is_plain_text-path_text (s ∷ ss) h =
    let parts = and_parts (is_first_step s) (list_all is_later_step ss) h in
    is_plain_text-append (step_text s) (flat_map step_text ss) (first_plain s parts.0) (flat_plain step_text is_later_step later_plain ss parts.1)

-- the text of a path is UTF-8
pub IsUtf8-path_text : (p : List PathStep) → is_path p ≡ true → IsUtf8 (path_text p)
IsUtf8-path_text p h = (plain_parts (path_text p) (is_plain_text-path_text p h)).0
