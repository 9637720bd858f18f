use Rattle.std.proofs.Common.{◌^◌, ◌/◌, ◌%◌, arith, sym, ◌∙◌}
use Rattle.std.proofs.lemmas.Bool.{false≢true}
use Rattle.std.specs.Fmt.{decimal}
use Rattle.orc_value.specs.Decimals.{fraction_text}
use Rattle.orc_value.proofs.Digits.{never}
use Rattle.orc_value.proofs.Points.{cut_test, cut_wrong, cut_none, quotient-digits}
use Rattle.orc_value.proofs.decimals.is_places.Goals as goal

pub returns-then-is_decimal_of : goal.returns-then-is_decimal_of
returns-then-is_decimal_of c =
    let unit = c.power_of_ten-unit.ensures.value in
    let n = c.args.number in
    let whole = rw unit at (c.is_decimal_of.ensures.0 c.if-is_decimal_of.true) in
    let fraction = rw unit at c.is_fraction_text.ensures in
    cut_test c.args.text.now c.in-Some.whole.now c.in-Some.fraction.now (decimal (n / 10 ^ c.args.places)) (fraction_text c.args.places (n % 10 ^ c.args.places)) c.is_fraction_text.result
    (quotient-digits n (10 ^ c.args.places) (omega arith)) (sym c.in-Some.ensures.point) c.in-Some.ensures.parts.0 c.in-Some.ensures.parts.1 whole fraction

pub returns-else-is_decimal_of : goal.returns-else-is_decimal_of
returns-else-is_decimal_of c =
    let unit = c.power_of_ten-unit.ensures.value in
    let n = c.args.number in
    let test = rw unit at c.is_decimal_of.ensures in
    let wrong = cut_wrong c.args.text.now (decimal (n / 10 ^ c.args.places)) (fraction_text c.args.places (n % 10 ^ c.args.places))
    (quotient-digits n (10 ^ c.args.places) (omega arith)) (λ e. false≢true (sym c.if-is_decimal_of.false ∙ test.1 (c.in-Some.ensures.parts.0 ∙ e))) in
    (λ yes. absurd (false≢true (sym c.if-is_decimal_of.false ∙ yes)), λ e. absurd (wrong e))

pub returns-in-None : goal.returns-in-None
returns-in-None c =
    let n = c.args.number in
    never (cut_none c.args.text.now (decimal (n / 10 ^ c.args.places)) (fraction_text c.args.places (n % 10 ^ c.args.places))
    (quotient-digits n (10 ^ c.args.places) (omega arith)) (sym c.in-None.ensures.point))
