use Rattle.orc_schema.proofs.Lawful.{first_link_fault_is_least}
use Rattle.orc_schema.proofs.laws.first_link_fault_is_least.Goals as goal

pub returns : goal.returns
returns c = first_link_fault_is_least
