use Rattle.std.proofs.Common.{length}
use Rattle.orc_check.proofs.references.+has_dangling_key.Given as goal

abbrev pub decreases-has_dangling_key : goal.decreases-has_dangling_key
decreases-has_dangling_key l = length l.keys.now
