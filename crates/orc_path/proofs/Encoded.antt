-- The bytes of a character in UTF-8.
use Rattle.std.proofs.Common.{◌≡◌, ℕ, ◌+◌, ◌-◌, ◌/◌, ◌%◌, ◌<◌, ◌≤◌, Bool, true, false, nat_le, List, [], ◌∷◌, ◌++◌, refl, ap, ap₂, ◌∙◌, arith}
use Rattle.std.proofs.Math.Dec.{ltb}
use Rattle.std.specs.List.{list_all}
use Rattle.std.specs.Char.{encode_utf8}
use Rattle.std.proofs.lemmas.Bool.{cond-true, cond-false, le-ltb, lt-ltb, le-leb, ltb-true, ltb-false, and_from}

-- no byte is one of ASCII
abbrev pub are_wide : List ℕ → Bool
are_wide bytes = list_all (λ byte. nat_le 128 byte) bytes

two : (c : ℕ) → 128 ≤ c → c < 2048 → encode_utf8 c ≡ (192 + c / 64) ∷ (128 + c % 64) ∷ []
unfolding encode_utf8
two c l h = cond-false _ _ _ (le-ltb c 128 l) ∙ cond-true _ _ _ (lt-ltb c 2048 h)

three : (c : ℕ) → 2048 ≤ c → c < 65536 → encode_utf8 c ≡ (224 + c / 4096) ∷ (128 + (c / 64) % 64) ∷ (128 + c % 64) ∷ []
unfolding encode_utf8
three c l h = cond-false _ _ _ (le-ltb c 128 (omega arith)) ∙ cond-false _ _ _ (le-ltb c 2048 l) ∙ cond-true _ _ _ (lt-ltb c 65536 h)

four : (c : ℕ) → 65536 ≤ c → encode_utf8 c ≡ (240 + c / 262144) ∷ (128 + (c / 4096) % 64) ∷ (128 + (c / 64) % 64) ∷ (128 + c % 64) ∷ []
unfolding encode_utf8
four c l = cond-false _ _ _ (le-ltb c 128 (omega arith)) ∙ cond-false _ _ _ (le-ltb c 2048 (omega arith)) ∙ cond-false _ _ _ (le-ltb c 65536 l)

-- the character that differs in the last byte alone, where that is the least that can follow
abbrev pub fellow : ℕ → ℕ
fellow c = c - c % 64

-- a character of several bytes: those before its last one are its fellow's too
pub record IsWide (c : ℕ) : Type 0 where
  pub front : List ℕ
  pub bytes : encode_utf8 c ≡ front ++ (128 + c % 64) ∷ []
  pub other : encode_utf8 (fellow c) ≡ front ++ 128 ∷ []
  pub wide : are_wide front ≡ true

wide : (b : ℕ) → 128 ≤ b → nat_le 128 b ≡ true
wide b h = le-leb 128 b h

last : (a b : ℕ) (front : List ℕ) → a ≡ b → front ++ a ∷ [] ≡ front ++ b ∷ []
last a b front e = ap (λ x. front ++ x ∷ []) e

wide_two : (c : ℕ) → 128 ≤ c → c < 2048 → IsWide c
wide_two c l h = record {
  front = (192 + c / 64) ∷ [];
  bytes = two c l h;
  other = two (fellow c) (omega arith) (omega arith)
      ∙ ap₂ (λ a b. a ∷ b ∷ []) (let e : 192 + fellow c / 64 ≡ 192 + c / 64 = omega arith in e) (let e : 128 + fellow c % 64 ≡ 128 = omega arith in e);
  wide = and_from _ _ (wide (192 + c / 64) (omega arith)) refl;
}

wide_three : (c : ℕ) → 2048 ≤ c → c < 65536 → IsWide c
wide_three c l h =
    let first : 224 + fellow c / 4096 ≡ 224 + c / 4096 = omega arith in
    let second : 128 + (fellow c / 64) % 64 ≡ 128 + (c / 64) % 64 = omega arith in
    let third : 128 + fellow c % 64 ≡ 128 = omega arith in
    record {
      front = (224 + c / 4096) ∷ (128 + (c / 64) % 64) ∷ [];
      bytes = three c l h;
      other = three (fellow c) (omega arith) (omega arith)
          ∙ ap₂ (λ a b. a ∷ b ∷ (128 + fellow c % 64) ∷ []) first second
          ∙ ap (λ b. (224 + c / 4096) ∷ (128 + (c / 64) % 64) ∷ b ∷ []) third;
      wide = and_from _ _ (wide (224 + c / 4096) (omega arith)) (and_from _ _ (wide (128 + (c / 64) % 64) (omega arith)) refl);
    }

wide_four : (c : ℕ) → 65536 ≤ c → IsWide c
wide_four c l =
    let first : 240 + fellow c / 262144 ≡ 240 + c / 262144 = omega arith in
    let second : 128 + (fellow c / 4096) % 64 ≡ 128 + (c / 4096) % 64 = omega arith in
    let third : 128 + (fellow c / 64) % 64 ≡ 128 + (c / 64) % 64 = omega arith in
    let fourth : 128 + fellow c % 64 ≡ 128 = omega arith in
    record {
      front = (240 + c / 262144) ∷ (128 + (c / 4096) % 64) ∷ (128 + (c / 64) % 64) ∷ [];
      bytes = four c l;
      other = four (fellow c) (omega arith)
          ∙ ap₂ (λ a b. a ∷ b ∷ (128 + (fellow c / 64) % 64) ∷ (128 + fellow c % 64) ∷ []) first second
          ∙ ap₂ (λ a b. (240 + c / 262144) ∷ (128 + (c / 4096) % 64) ∷ a ∷ b ∷ []) third fourth;
      wide = and_from _ _ (wide (240 + c / 262144) (omega arith)) (and_from _ _ (wide (128 + (c / 4096) % 64) (omega arith)) (and_from _ _ (wide (128 + (c / 64) % 64) (omega arith)) refl));
    }

-- each character that is none of ASCII is one of several bytes
pub is_wide : (c : ℕ) → 128 ≤ c → IsWide c
is_wide c l = by (ltb c 2048) (ltb c 65536) refl refl
  where
    by : (t u : Bool) → ltb c 2048 ≡ t → ltb c 65536 ≡ u → IsWide c
    by true u e f = wide_two c l (ltb-true c 2048 e)
    by false true e f = wide_three c (ltb-false c 2048 e) (ltb-true c 65536 f)
    by false false e f = wide_four c (ltb-false c 65536 f)
