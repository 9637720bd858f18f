use Rattle.std.proofs.Common.{length}
use Rattle.orc_check.proofs.counting.+count_down.Given as goal

abbrev pub decreases-count_down : goal.decreases-count_down
decreases-count_down l = length l.rows.now
