use Rattle.std.proofs.Common.{length}
use Rattle.orc_check.proofs.spot.+order_entry_below.Given as goal

abbrev pub decreases-order_entry_below : goal.decreases-order_entry_below
decreases-order_entry_below l = length l.names.now
