use Rattle.std.proofs.Common.{length}
use Rattle.orc_check.proofs.references.+last_keys.Given as goal

abbrev pub decreases-last_keys : goal.decreases-last_keys
decreases-last_keys l = length l.steps.now
