use Rattle.std.proofs.Common.{length}
use Rattle.orc_check.proofs.lines.+are_before.Given as goal

abbrev pub decreases-are_before : goal.decreases-are_before
decreases-are_before l = length l.names.now
