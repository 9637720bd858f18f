use Rattle.std.proofs.Common.{arith}
use Rattle.orc_journal.proofs.Headers.{common-end}
use Rattle.orc_journal.proofs.header.common.Goals as goal

pub returns-else-at-ys : goal.returns-else-at-ys
returns-else-at-ys c = omega (arith, c.loop-at.invariant.same, common-end c.args.xs.now c.args.ys.now c.loop-at.at c.if-at-ys.false)
