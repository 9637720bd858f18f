use Rattle.std.proofs.Common.{length}
use Rattle.orc_check.proofs.counting.+enters.Given as goal

abbrev pub decreases-enters : goal.decreases-enters
decreases-enters l = length l.steps.now
