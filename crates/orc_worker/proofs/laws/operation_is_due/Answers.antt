use Rattle.orc_worker.proofs.Sound.{due_always}
use Rattle.orc_worker.proofs.laws.operation_is_due.Goals as goal

pub returns : goal.returns
returns c = due_always
