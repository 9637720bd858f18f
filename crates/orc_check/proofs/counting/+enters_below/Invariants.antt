use Rattle.std.proofs.Common.{length}
use Rattle.orc_check.proofs.counting.+enters_below.Given as goal

abbrev pub decreases-enters_below : goal.decreases-enters_below
decreases-enters_below l = length l.names.now
