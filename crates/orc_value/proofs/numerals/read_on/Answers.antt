use Rattle.orc_value.proofs.Digits.{too_large}
use Rattle.orc_value.proofs.numerals.read_on.Goals as goal

pub returns-in_err-number : goal.returns-in_err-number
returns-in_err-number c =
    let large = too_large c.args.start c.loop-digit.number c.loop-digit.digit-index c.args.digits.now c.loop-digit-test.true c.requires c.loop-digit.invariant.reads in
    rw c.from_residual.ensures (large c.in_err-number.ensures)
