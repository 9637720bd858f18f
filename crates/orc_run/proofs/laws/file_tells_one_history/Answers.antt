use Rattle.orc_run.proofs.Histories.{one_history}
use Rattle.orc_run.proofs.laws.file_tells_one_history.Goals as goal

pub returns : goal.returns
returns c = one_history
