use Rattle.std.proofs.Common.{length}
use Rattle.orc_check.proofs.references.+has_dangling_value.Given as goal

abbrev pub decreases-has_dangling_value : goal.decreases-has_dangling_value
decreases-has_dangling_value l = length l.texts.now
