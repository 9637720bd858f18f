use Rattle.std.proofs.Common.{◌<◌, ◌^◌, ◌/◌, ◌-◌, arith, length, [], take, ap}
use Rattle.std.proofs.lemmas.Fmt.{decimal_nonempty, decimal_step}
use Rattle.std.specs.Fmt.{decimal}
use Rattle.orc_value.proofs.Digits.{never, iff_trans, empty_test, by_last, wrong_last, decimal-one, decimal-ends}
use Rattle.orc_value.proofs.numerals.+is_decimal_of.Goals as goal

pub returns-in_default : goal.returns-in_default
returns-in_default t c =
    let fits : c.args.number < 2 ^ 64 = omega arith in
    let some = decimal_nonempty c.args.number fits in
    never (λ e. omega (arith, ap length e))

pub returns-then-last-number : goal.returns-then-last-number
returns-then-last-number t c =
    let fits : c.args.number < 2 ^ 64 = omega arith in
    let ends = decimal-ends c.args.number fits in
    never (wrong_last c.args.number c.args.text.now ends.0 (omega arith) ends.1 c.if-last-number.true)

pub returns-then-number-lt10 : goal.returns-then-number-lt10
returns-then-number-lt10 t c =
    iff_trans (empty_test c.is_empty.result (take (length c.args.text.now - 1) c.args.text.now) c.is_empty.ensures)
    (by_last c.args.number c.args.text.now [] (omega arith) (decimal-one c.args.number c.if-number-lt10.true) c.if-last-number.false)

pub returns-else-number-lt10 : goal.returns-else-number-lt10
returns-else-number-lt10 t c =
    let fits : c.args.number < 2 ^ 64 = omega arith in
    iff_trans c.is_decimal_of.ensures
    (by_last c.args.number c.args.text.now (decimal (c.args.number / 10)) (omega arith) (decimal_step c.args.number c.if-number-lt10.false fits) c.if-last-number.false)
