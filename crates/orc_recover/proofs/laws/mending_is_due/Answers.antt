use Rattle.orc_recover.proofs.Ending.{due_always}
use Rattle.orc_recover.proofs.laws.mending_is_due.Goals as goal

pub returns : goal.returns
returns c = due_always
