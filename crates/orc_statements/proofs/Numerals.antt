-- What `parse` gives for numbers of entries.
use Rattle.std.proofs.Common.{◌≡◌, ℕ, ◌<◌, ◌^◌, ℤ, pos, negsuc, Bool, true, false, cond, List, Option, Some, None, refl, sym, ap, ◌∙◌, arith}
use Rattle.std.specs.Prelude.{unsigned_abs, option_and_then, ◌&&◌, int_le}
use Rattle.std.specs.Int.RustNames.{FitsSigned}
use Rattle.std.specs.Int.{w128}
use Rattle.std.specs.Str.Parse.{IsNumeral, without_leading_sign, signed_digits_value}
use Rattle.std.proofs.lemmas.Bool.{false≢true}
use Rattle.std.proofs.lemmas.Int.{fits_signed_from_abs}
use Rattle.orc_value.specs.Numerals.{is_numeral}
use Rattle.orc_value.specs.Integers.{int_value, is_64_bit}
use Rattle.orc_value.proofs.IntegerLaws.{IsNumeral-from, not_true, is_64_bit-abs, int_value-numeral}
use Rattle.orc_types.specs.Numbers.{is_count}
use Rattle.orc_types.specs.Ranges.{is_length}
use Rattle.orc_statements.specs.Arguments.{as_count, count_of}

within : (n : ℕ) → n < 2 ^ 64 → n < 2 ^ 127
within n h = omega arith

and_left : (a b : Bool) → (a && b) ≡ true → a ≡ true
and_left true b h = refl
and_left false b h = h

and_right : (a b : Bool) → (a && b) ≡ true → b ≡ true
and_right true b h = h
and_right false b h = absurd (false≢true h)

-- a length has 64 bits
length_is_64 : (z : ℤ) → is_length z ≡ true → is_64_bit z ≡ true
length_is_64 (pos n) h = and_right (int_le (pos 0) (pos n)) (int_le (pos n) (pos 0xFFFF_FFFF_FFFF_FFFF)) h
length_is_64 (negsuc n) h = absurd (false≢true (and_left (int_le (pos 0) (negsuc n)) (int_le (negsuc n) (pos 0xFFFF_FFFF_FFFF_FFFF)) h))

-- a number that `parse` refuses has more than 64 bits
too_large : (bs : List ℕ) → ¬ (IsNumeral 10 (without_leading_sign bs) × FitsSigned w128 (signed_digits_value 10 bs)) → (b : Bool) → is_numeral (without_leading_sign bs) ≡ b → option_and_then as_count (int_value bs) ≡ None
too_large bs refused true numeral =
    let v = signed_digits_value 10 bs in
    let pick : Bool → Option ℕ = λ b. cond b (Some (unsigned_abs v)) None in
    let out : is_length v ≡ false = not_true (is_length v) (λ has. refused (IsNumeral-from (without_leading_sign bs) numeral, fits_signed_from_abs w128 v (within (unsigned_abs v) (is_64_bit-abs v (length_is_64 v has))))) in
    ap (option_and_then as_count) (int_value-numeral bs numeral) ∙ ap pick out
too_large bs refused false other =
    let pick : Bool → Option ℕ = λ b. option_and_then as_count (cond b (Some (signed_digits_value 10 bs)) None) in
    ap pick other

none_either : (b : Bool) (o : Option ℕ) → o ≡ None → None ≡ cond b o None
none_either true o h = sym h
none_either false o h = refl

pub uncounted : (bs : List ℕ) → ¬ (IsNumeral 10 (without_leading_sign bs) × FitsSigned w128 (signed_digits_value 10 bs)) → None ≡ count_of bs
uncounted bs refused = none_either (is_count bs) (option_and_then as_count (int_value bs)) (too_large bs refused (is_numeral (without_leading_sign bs)) refl)
