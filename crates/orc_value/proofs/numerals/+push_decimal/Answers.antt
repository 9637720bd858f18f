use Rattle.std.proofs.Common.{◌<◌, ◌^◌, arith}
use Rattle.std.proofs.lemmas.Fmt.{decimal_digit}
use Rattle.orc_value.proofs.Digits.{decimal-push}
use Rattle.orc_value.proofs.numerals.+push_decimal.Goals as goal

pub returns-then-number-lt10 : goal.returns-then-number-lt10
returns-then-number-lt10 t c = rw (decimal_digit c.args.number c.if-number-lt10.true) c.push_digit.ensures

pub returns : goal.returns
returns t c =
    let fits : c.args.number < 2 ^ 64 = omega arith in
    rw (← decimal-push c.args.number c.args.text.now c.if-number-lt10.false fits) (rw c.in_ok-push_decimal.ensures at c.push_digit-2.ensures)
