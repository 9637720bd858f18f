use Rattle.orc_services.proofs.Fixed.{expanded_stands}
use Rattle.orc_services.proofs.laws.expanded_stands.Goals as goal

pub returns : goal.returns
returns c = expanded_stands c.expanded_is_fixed_by_reads.ensures c.untouched_is_shared.ensures
