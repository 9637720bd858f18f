use Rattle.orc_services.proofs.Fixed.{expanded_fixed}
use Rattle.orc_services.proofs.laws.expanded_is_fixed_by_reads.Goals as goal

pub returns : goal.returns
returns c = expanded_fixed c.expansions_are_fixed_by_reads.ensures
