use Rattle.orc_queue.proofs.Mutual.{fit_other}
use Rattle.orc_queue.proofs.laws.fitting_is_mutual.Goals as goal

pub returns : goal.returns
returns c = fit_other
