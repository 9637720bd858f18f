use Rattle.orc_plans.proofs.Untouched.{untouched_stay}
use Rattle.orc_plans.proofs.plans.untouched_stay.Goals as goal

pub returns : goal.returns
returns c = untouched_stay
