use Rattle.std.proofs.Common.{length}
use Rattle.orc_check.proofs.found.+with_steps.Given as goal

abbrev pub decreases-with_steps : goal.decreases-with_steps
decreases-with_steps l = length l.names.now
