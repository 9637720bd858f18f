use Rattle.std.proofs.Common.{length}
use Rattle.orc_check.proofs.counting.+goes_on_below.Given as goal

abbrev pub decreases-goes_on_below : goal.decreases-goes_on_below
decreases-goes_on_below l = length l.names.now
