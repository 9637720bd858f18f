use Rattle.std.proofs.Common.{length}
use Rattle.orc_decls.proofs.served.+meets.Given as goal

abbrev pub decreases-meets : goal.decreases-meets
decreases-meets l = length l.list.now
