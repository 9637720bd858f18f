use Rattle.std.proofs.Common.{length}
use Rattle.orc_check.proofs.spot.+order_entry_at.Given as goal

abbrev pub decreases-order_entry_at : goal.decreases-order_entry_at
decreases-order_entry_at l = length l.steps.now
