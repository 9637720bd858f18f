-- Characters with escapes.
use Rattle.std.proofs.Common.{◌≡◌, ℕ, ◌<◌, ◌≤◌, true, List, [], ◌∷◌, ◌++◌, encode_utf8, refl, ap, ◌∙◌, arith, append-nil}
use Rattle.std.specs.List.{flat_map}
use Rattle.std.proofs.lemmas.Bool.{and_parts, leb-true}
use Rattle.std.proofs.lemmas.Str.{encode_ascii}
use Rattle.orc_path.specs.Texts.{escape, value_escape}
use Rattle.orc_path.proofs.Encoded.{are_wide}
use Rattle.orc_path.proofs.Plain.{are_wide-encode}

-- a character of ASCII is one byte
flat_low : (f : ℕ → List ℕ) (c : ℕ) → c < 128 → flat_map f (encode_utf8 c) ≡ f c
flat_low f c low = ap (flat_map f) (encode_ascii c low) ∙ append-nil (f c)

pub flat_wide : (f : ℕ → List ℕ) → ((b : ℕ) → 128 ≤ b → f b ≡ b ∷ []) → (bs : List ℕ) → are_wide bs ≡ true → flat_map f bs ≡ bs
flat_wide f alone [] h = refl
flat_wide f alone (b ∷ bs) h = let parts = and_parts _ _ h in ap (λ x. x ++ flat_map f bs) (alone b (leb-true 128 b parts.0)) ∙ ap (λ x. b ∷ x) (flat_wide f alone bs parts.1)

-- a byte of another one stands for itself
pub escape-wide : (b : ℕ) → 128 ≤ b → escape b ≡ b ∷ []
escape-wide b l = grind arith

pub value_escape-wide : (b : ℕ) → 128 ≤ b → value_escape b ≡ b ∷ []
value_escape-wide b l = grind arith

pub escaped_low : (c : ℕ) → c < 128 → flat_map escape (encode_utf8 c) ≡ escape c
escaped_low c low = flat_low escape c low

pub escaped_high : (c : ℕ) → 128 ≤ c → flat_map escape (encode_utf8 c) ≡ encode_utf8 c
escaped_high c high = flat_wide escape escape-wide (encode_utf8 c) (are_wide-encode c high)

pub value_escaped_low : (c : ℕ) → c < 128 → flat_map value_escape (encode_utf8 c) ≡ value_escape c
value_escaped_low c low = flat_low value_escape c low

pub value_escaped_high : (c : ℕ) → 128 ≤ c → flat_map value_escape (encode_utf8 c) ≡ encode_utf8 c
value_escaped_high c high = flat_wide value_escape value_escape-wide (encode_utf8 c) (are_wide-encode c high)
