use Rattle.std.proofs.Common.{length}
use Rattle.orc_check.proofs.reach.+behind.Given as goal

abbrev pub decreases-behind : goal.decreases-behind
decreases-behind l = length l.steps.now
