use Rattle.std.proofs.Common.{length}
use Rattle.orc_check.proofs.order.+order_plain.Given as goal

abbrev pub decreases-order_plain : goal.decreases-order_plain
decreases-order_plain l = length l.steps.now
