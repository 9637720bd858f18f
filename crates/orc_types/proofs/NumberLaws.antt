-- What `parse` gives for the numbers of bounds.
use Rattle.std.proofs.Common.{◌≡◌, ℕ, ◌<◌, ◌^◌, ℤ, Bool, true, false, cond, List, Option, Some, None, refl, sym, ap, ◌∙◌, arith}
use Rattle.std.specs.Prelude.{unsigned_abs, option_and_then}
use Rattle.std.specs.Int.RustNames.{FitsSigned}
use Rattle.std.specs.Int.{w128}
use Rattle.std.specs.Str.Parse.{IsNumeral, without_leading_sign, signed_digits_value}
use Rattle.std.proofs.lemmas.Int.{fits_signed_from_abs}
use Rattle.orc_value.specs.Numerals.{is_numeral}
use Rattle.orc_value.specs.Integers.{int_value, is_64_bit}
use Rattle.orc_value.proofs.IntegerLaws.{IsNumeral-from, not_true, is_64_bit-abs, int_value-numeral}
use Rattle.orc_types.specs.Numbers.{only_if, is_whole, written_number}

within : (n : ℕ) → n < 2 ^ 64 → n < 2 ^ 127
within n h = omega arith

-- a number that `parse` refuses has more than 64 bits
too_large : (bs : List ℕ) → ¬ (IsNumeral 10 (without_leading_sign bs) × FitsSigned w128 (signed_digits_value 10 bs)) → (b : Bool) → is_numeral (without_leading_sign bs) ≡ b → option_and_then (only_if is_64_bit) (int_value bs) ≡ None
too_large bs refused true numeral =
    let v = signed_digits_value 10 bs in
    let pick : Bool → Option ℤ = λ b. cond b (Some v) None in
    let out : is_64_bit v ≡ false = not_true (is_64_bit v) (λ has. refused (IsNumeral-from (without_leading_sign bs) numeral, fits_signed_from_abs w128 v (within (unsigned_abs v) (is_64_bit-abs v has)))) in
    ap (option_and_then (only_if is_64_bit)) (int_value-numeral bs numeral) ∙ ap pick out
too_large bs refused false other =
    let pick : Bool → Option ℤ = λ b. option_and_then (only_if is_64_bit) (cond b (Some (signed_digits_value 10 bs)) None) in
    ap pick other

none_either : (b : Bool) (o : Option ℤ) → o ≡ None → None ≡ cond b o None
none_either true o h = sym h
none_either false o h = refl

pub unread : (bs : List ℕ) → ¬ (IsNumeral 10 (without_leading_sign bs) × FitsSigned w128 (signed_digits_value 10 bs)) → None ≡ written_number bs
unread bs refused = none_either (is_whole bs) (option_and_then (only_if is_64_bit) (int_value bs)) (too_large bs refused (is_numeral (without_leading_sign bs)) refl)
