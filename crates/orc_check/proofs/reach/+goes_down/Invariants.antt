use Rattle.std.proofs.Common.{length, ◌-◌}
use Rattle.orc_check.proofs.reach.+goes_down.Given as goal

abbrev pub decreases-goes_down : goal.decreases-goes_down
decreases-goes_down l = length l.names.now - l.above
