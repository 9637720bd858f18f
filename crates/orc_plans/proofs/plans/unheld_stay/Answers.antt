use Rattle.orc_plans.proofs.Standing.{unheld_stay}
use Rattle.orc_plans.proofs.plans.unheld_stay.Goals as goal

pub returns : goal.returns
returns c = unheld_stay
