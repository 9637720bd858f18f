use Rattle.std.proofs.Common.{length}
use Rattle.orc_check.proofs.references.+shares.Given as goal

abbrev pub decreases-shares : goal.decreases-shares
decreases-shares l = length l.path.now
