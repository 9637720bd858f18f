use Rattle.std.proofs.Common.{length}
use Rattle.orc_check.proofs.references.+has_value.Given as goal

abbrev pub decreases-has_value : goal.decreases-has_value
decreases-has_value l = length l.texts.now
