use Rattle.std.proofs.Common.{length}
use Rattle.orc_check.proofs.references.+has_key.Given as goal

abbrev pub decreases-has_key : goal.decreases-has_key
decreases-has_key l = length l.keys.now
