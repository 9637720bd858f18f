use Rattle.std.proofs.Common.{◌≡◌, ℕ, ℤ, List, rules, ◌<◌, ◌^◌, Bool, sym, ap, ◌∙◌, Some, subst, true, false, take, drop}
use Rattle.std.specs.Str.Parse.{starts_with_minus}
use Rattle.orc_value.specs.Numerals.{admitted, all_digits, signed}
use Rattle.orc_value.specs.Decimals.{is_decimal_value}
use Rattle.orc_value.specs.inside.Scaled.{are_zeros, units}
use Rattle.orc_value.proofs.IntegerLaws.{admitted-no}
use Rattle.orc_value.proofs.Scales.{all_digits-take}
use Rattle.orc_value.proofs.Cuts.{is_cut, fraction-digits, decimal_value-some, decimal_value-none, is_decimal_value-large, not_below}
use Rattle.std.specs.Int.RustNames.{FitsSigned}
use Rattle.std.specs.Int.{w128}
use Rattle.std.proofs.lemmas.Int.{to_z-of_z}
use mir.Val.{to_z, of_z}
use Rattle.orc_value.proofs.decimals.decimal.Goals as goal

pub returns-then-not-are_zeros : goal.returns-then-not-are_zeros
returns-then-not-are_zeros c =
    let cut = is_cut c.args.places c.args.text.now c.as_bytes-text.result.now c.without_sign.result.now c.in-Some.whole.now c.in-Some.fraction.now
    c.if-places-lt1.false c.if-places-gt18.false c.as_bytes-text.ensures.value c.without_sign.ensures c.in-Some.ensures.parts.0 c.in-Some.ensures.parts.1 c.in-Some.ensures.form in
    let others : are_zeros (drop c.args.places c.in-Some.fraction.now) ≡ false = ap are_zeros (sym c.split_at_place.ensures.far) ∙ (sym c.are_zeros.ensures ∙ c.if-not-are_zeros.true) in
    sym (ap (admitted is_decimal_value) (decimal_value-none c.args.places c.args.text.now c.in-Some.whole.now c.in-Some.fraction.now cut others))

pub scaled-requires-clause-fraction : goal.scaled-requires-clause-fraction
scaled-requires-clause-fraction c =
    let cut = is_cut c.args.places c.args.text.now c.as_bytes-text.result.now c.without_sign.result.now c.in-Some.whole.now c.in-Some.fraction.now
    c.if-places-lt1.false c.if-places-gt18.false c.as_bytes-text.ensures.value c.without_sign.ensures c.in-Some.ensures.parts.0 c.in-Some.ensures.parts.1 c.in-Some.ensures.form in
    let digits : all_digits c.in-Some.fraction.now ≡ true = ap all_digits cut.fraction_is ∙ fraction-digits c.args.text.now cut.form in
    ap all_digits c.split_at_place.ensures.near ∙ all_digits-take c.args.places c.in-Some.fraction.now digits

pub returns-in-Some-scaled : goal.returns-in-Some-scaled
returns-in-Some-scaled c =
    let cut = is_cut c.args.places c.args.text.now c.as_bytes-text.result.now c.without_sign.result.now c.in-Some.whole.now c.in-Some.fraction.now
    c.if-places-lt1.false c.if-places-gt18.false c.as_bytes-text.ensures.value c.without_sign.ensures c.in-Some.ensures.parts.0 c.in-Some.ensures.parts.1 c.in-Some.ensures.form in
    let zeros : are_zeros (drop c.args.places c.in-Some.fraction.now) ≡ true = ap are_zeros (sym c.split_at_place.ensures.far) ∙ (sym c.are_zeros.ensures ∙ c.if-not-are_zeros.false) in
    let some = decimal_value-some c.args.places c.args.text.now c.in-Some.whole.now c.in-Some.fraction.now cut zeros in
    let near : units c.args.places c.in-Some.whole.now c.split_at_place.result.0.now ≡ units c.args.places c.in-Some.whole.now (take c.args.places c.in-Some.fraction.now) =
    ap (λ (xs : List ℕ). units c.args.places c.in-Some.whole.now xs) c.split_at_place.ensures.near in
    let negative : c.is_negative.result ≡ starts_with_minus c.args.text.now = c.is_negative.ensures ∙ ap starts_with_minus c.as_bytes-text.ensures.value in
    let magnitude : c.in-Some-scaled.number ≡ units c.args.places c.in-Some.whole.now (take c.args.places c.in-Some.fraction.now) = c.in-Some-scaled.ensures.1 ∙ near in
    let value : c.with_sign.result ≡ signed (starts_with_minus c.args.text.now) (units c.args.places c.in-Some.whole.now (take c.args.places c.in-Some.fraction.now)) =
    c.with_sign.ensures ∙ (ap (λ (b : Bool). signed b c.in-Some-scaled.number) negative ∙ ap (λ (m : ℕ). signed (starts_with_minus c.args.text.now) m) magnitude) in
    let fits : FitsSigned w128 c.with_sign.result = search rules in
    let bits : to_z w128 (of_z w128 c.with_sign.result) ≡ c.with_sign.result = to_z-of_z w128 c.with_sign.result fits in
    c.in_range.ensures ∙ (ap (λ (z : ℤ). admitted is_decimal_value (Some z)) (bits ∙ value) ∙ sym (ap (admitted is_decimal_value) some))

pub returns-in-None : goal.returns-in-None
returns-in-None c =
    let cut = is_cut c.args.places c.args.text.now c.as_bytes-text.result.now c.without_sign.result.now c.in-Some.whole.now c.in-Some.fraction.now
    c.if-places-lt1.false c.if-places-gt18.false c.as_bytes-text.ensures.value c.without_sign.ensures c.in-Some.ensures.parts.0 c.in-Some.ensures.parts.1 c.in-Some.ensures.form in
    let zeros : are_zeros (drop c.args.places c.in-Some.fraction.now) ≡ true = ap are_zeros (sym c.split_at_place.ensures.far) ∙ (sym c.are_zeros.ensures ∙ c.if-not-are_zeros.false) in
    let some = decimal_value-some c.args.places c.args.text.now c.in-Some.whole.now c.in-Some.fraction.now cut zeros in
    let near : units c.args.places c.in-Some.whole.now c.split_at_place.result.0.now ≡ units c.args.places c.in-Some.whole.now (take c.args.places c.in-Some.fraction.now) =
    ap (λ (xs : List ℕ). units c.args.places c.in-Some.whole.now xs) c.split_at_place.ensures.near in
    let m = units c.args.places c.in-Some.whole.now (take c.args.places c.in-Some.fraction.now) in
    let many : ¬ (m < 2 ^ 64) = subst (λ (x : ℕ). ¬ (x < 2 ^ 64)) near c.in-None.ensures in
    let large = is_decimal_value-large (starts_with_minus c.args.text.now) m (not_below m (2 ^ 64) many) in
    sym (admitted-no is_decimal_value _ (signed (starts_with_minus c.args.text.now) m) some large)
