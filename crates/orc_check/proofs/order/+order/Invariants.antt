use Rattle.std.proofs.Common.{length}
use Rattle.orc_check.proofs.order.+order.Given as goal

abbrev pub decreases-order : goal.decreases-order
decreases-order l = length l.steps.now
