use Rattle.orc_template.proofs.FirstFaults.{least_named}
use Rattle.orc_template.proofs.laws.least_fault_is_named.Goals as goal

pub returns : goal.returns
returns c = least_named
