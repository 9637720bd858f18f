use Rattle.std.proofs.Common.{length}
use Rattle.orc_check.proofs.references.+are_names_with.Given as goal

abbrev pub decreases-are_names_with : goal.decreases-are_names_with
decreases-are_names_with l = length l.names.now
