use Rattle.orc_yang.proofs.OneFault.{one_fault}
use Rattle.orc_yang.proofs.laws.has_one_fault.Goals as goal

pub returns : goal.returns
returns c = one_fault
