-- A canonical text is made of plain characters.
use Rattle.std.proofs.Common.{◌≡◌, ℕ, ◌<◌, ◌^◌, ◌/◌, ◌%◌, ℤ, pos, Bool, true, false, cond, nat_le, ◌==◌, List, [], ◌∷◌, Option, Some, None, Ok, refl, sym, subst, arith}
use Rattle.std.specs.Prelude.{◌&&◌, ◌||◌, unsigned_abs, int_lt}
use Rattle.std.proofs.lemmas.Bool.{and_parts}
use Rattle.std.proofs.lemmas.Bool.Decides.{nat_tests}
use Rattle.std.proofs.lemmas.Nat.{mod_below}
use Rattle.std.proofs.lemmas.Slice.Eq.{bytes_eq-Decides}
use Rattle.std.specs.Char.{is_ascii_digit}
use Rattle.std.specs.Fmt.{decimal}
use Rattle.std.specs.Str.Parse.{true_text, false_text}
use Rattle.orc_text.specs.Characters.{is_plain_text}
use Rattle.orc_text.proofs.Plain.{is_plain_text-nil, is_plain_text-append}
use Rattle.orc_path.proofs.Plain.{is_plain_text-byte}
use Rattle.orc_path.specs.inside.Reading.{is_key_byte}
use Rattle.orc_value.specs.declared.kind.Kind.{Kind}
use Rattle.orc_value.specs.declared.kind.Kind.TheVariants.{Int, Decimal, Str, Bool as Boolean, Enum, Empty}
use Rattle.orc_value.specs.Canon.{canon_of, kept, same_text, string_rule, bool_rule, enum_rule, empty_rule}
use Rattle.orc_value.specs.Numerals.{all_digits, sign_text}
use Rattle.orc_value.specs.Integers.{int_value, has_integer, int_text}
use Rattle.orc_value.specs.Decimals.{decimal_value, is_decimal_value, fraction_digits, fraction_text, decimal_text}
use Rattle.orc_value.proofs.CanonLaws.{number_of, is_decimal_value-abs}
use Rattle.orc_value.proofs.IntegerLaws.{has_integer-abs}
use Rattle.orc_value.proofs.Points.{decimal-digits, quotient-digits}
use Rattle.orc_value.proofs.DecimalLaws.{ten_pow_pos}
use Rattle.orc_value.proofs.RoundTrips.{fraction_digits-IsFraction}

plain_digit : (d : ℕ) → is_ascii_digit d ≡ true → is_plain_text (d ∷ []) ≡ true
plain_digit d h = is_plain_text-byte d (small d h) (byte d h)
  where
    small : (d : ℕ) → is_ascii_digit d ≡ true → d < 128
    small d h = grind (arith, nat_tests)

    byte : (d : ℕ) → is_ascii_digit d ≡ true → is_key_byte d ≡ true
    byte d h = grind (arith, nat_tests)

pub plain_digits : (ds : List ℕ) → all_digits ds ≡ true → is_plain_text ds ≡ true
plain_digits [] h = is_plain_text-nil
plain_digits (d ∷ ds) h =
    let parts = and_parts (is_ascii_digit d) (all_digits ds) h in
    is_plain_text-append (d ∷ []) ds (plain_digit d parts.0) (plain_digits ds parts.1)

plain_byte : (b : ℕ) → b < 128 → is_key_byte b ≡ true → (rest : List ℕ) → is_plain_text rest ≡ true → is_plain_text (b ∷ rest) ≡ true
plain_byte b small byte rest h = is_plain_text-append (b ∷ []) rest (is_plain_text-byte b small byte) h

plain_sign : (z : ℤ) → is_plain_text (sign_text z) ≡ true
plain_sign z = by (int_lt z (pos 0))
  where
    by : (t : Bool) → is_plain_text (cond t (45 ∷ []) []) ≡ true
    by true = is_plain_text-byte 45 (omega arith) refl
    by false = is_plain_text-nil

plain_integer : (z : ℤ) → unsigned_abs z < 2 ^ 64 → is_plain_text (int_text z) ≡ true
plain_integer z small = is_plain_text-append (sign_text z) (decimal (unsigned_abs z)) (plain_sign z) (plain_digits (decimal (unsigned_abs z)) (decimal-digits (unsigned_abs z) small))

-- ---- decimal numbers

plain_fraction : (n r : ℕ) → r < 10 ^ n → is_plain_text (fraction_text n r) ≡ true
plain_fraction n r below = by (r == 0)
  where
    by : (none : Bool) → is_plain_text (cond none (48 ∷ []) (fraction_digits n r)) ≡ true
    by true = plain_digit 48 refl
    by false = plain_digits (fraction_digits n r) (fraction_digits-IsFraction n r below).digits

plain_decimal : (n : ℕ) (z : ℤ) → unsigned_abs z < 2 ^ 64 → is_plain_text (decimal_text n z) ≡ true
plain_decimal n z small =
    let m = unsigned_abs z in
    let whole = plain_digits (decimal (m / 10 ^ n)) (quotient-digits m (10 ^ n) small) in
    let fraction = plain_fraction n (m % 10 ^ n) (mod_below m (10 ^ n) (ten_pow_pos n)) in
    is_plain_text-append (sign_text z) _ (plain_sign z)
    (is_plain_text-append (decimal (m / 10 ^ n)) _ whole (plain_byte 46 (omega arith) refl _ fraction))

-- ---- what is kept as it is

when_none : (rule : Option ℕ) (text own : List ℕ) → kept rule text ≡ Ok own → (rule ≡ None) × (text ≡ own)
when_none None text own h = (refl, cc)
when_none (Some rule) text own h = cc

no_rule : (plain : Bool) (inner : Option ℕ) → cond plain inner (Some 1) ≡ None → plain ≡ true
no_rule true inner h = refl
no_rule false inner h = cc

same : (a b : List ℕ) → same_text a b ≡ true → a ≡ b
same a b h = (bytes_eq-Decides a b).0 h

letters : (b : ℕ) → (nat_le 97 b && nat_le b 122) ≡ true → (rest : List ℕ) → is_plain_text rest ≡ true → is_plain_text (b ∷ rest) ≡ true
letters b h rest plain = plain_byte b (small b h) (byte b h) rest plain
  where
    small : (b : ℕ) → (nat_le 97 b && nat_le b 122) ≡ true → b < 128
    small b h = grind (arith, nat_tests)

    byte : (b : ℕ) → (nat_le 97 b && nat_le b 122) ≡ true → is_key_byte b ≡ true
    byte b h = grind (arith, nat_tests)

plain_true : is_plain_text true_text ≡ true
plain_true = letters 116 refl _ (letters 114 refl _ (letters 117 refl _ (letters 101 refl [] is_plain_text-nil)))

plain_false : is_plain_text false_text ≡ true
plain_false = letters 102 refl _ (letters 97 refl _ (letters 108 refl _ (letters 115 refl _ (letters 101 refl [] is_plain_text-nil))))

plain_boolean : (a b : Bool) (text : List ℕ) → same_text text true_text ≡ a → same_text text false_text ≡ b
    → cond {A = Option ℕ} (a || b) None (Some 1) ≡ None → is_plain_text text ≡ true
plain_boolean true b text at_true at_false h = subst (λ (x : List ℕ). is_plain_text x ≡ true) (sym (same text true_text at_true)) plain_true
plain_boolean false true text at_true at_false h = subst (λ (x : List ℕ). is_plain_text x ≡ true) (sym (same text false_text at_false)) plain_false
plain_boolean false false text at_true at_false h = cc

plain_empty : (t : Bool) (text : List ℕ) → same_text text [] ≡ t → cond {A = Option ℕ} t None (Some 1) ≡ None → is_plain_text text ≡ true
plain_empty true text e h = subst (λ (x : List ℕ). is_plain_text x ≡ true) (sym (same text [] e)) is_plain_text-nil
plain_empty false text e h = cc

-- a canonical text is one of keys and values
pub canon_of-plain : (kind : Kind) (text own : List ℕ) → canon_of kind text ≡ Ok own → is_plain_text own ≡ true
canon_of-plain (Int kind) text own h =
    let found = number_of int_text (has_integer kind) (int_value text) own h in
    subst (λ (x : List ℕ). is_plain_text x ≡ true) (sym found.3) (plain_integer found.0 (has_integer-abs kind found.0 found.2))
canon_of-plain (Decimal n) text own h =
    let found = number_of (decimal_text n) is_decimal_value (decimal_value n text) own h in
    subst (λ (x : List ℕ). is_plain_text x ≡ true) (sym found.3) (plain_decimal n found.0 (is_decimal_value-abs found.0 found.2))
canon_of-plain (Str lengths) text own h =
    let parts = when_none (string_rule lengths text) text own h in
    subst (λ (x : List ℕ). is_plain_text x ≡ true) parts.1 (no_rule (is_plain_text text) _ parts.0)
canon_of-plain Boolean text own h =
    let parts = when_none (bool_rule text) text own h in
    subst (λ (x : List ℕ). is_plain_text x ≡ true) parts.1 (plain_boolean (same_text text true_text) (same_text text false_text) text refl refl parts.0)
canon_of-plain (Enum names) text own h =
    let parts = when_none (enum_rule names text) text own h in
    subst (λ (x : List ℕ). is_plain_text x ≡ true) parts.1 (no_rule (is_plain_text text) _ parts.0)
canon_of-plain Empty text own h =
    let parts = when_none (empty_rule text) text own h in
    subst (λ (x : List ℕ). is_plain_text x ≡ true) parts.1 (plain_empty (same_text text []) text refl parts.0)
