use Rattle.orc_plans.proofs.Standing.{held_stay}
use Rattle.orc_plans.proofs.plans.held_stay.Goals as goal

pub returns : goal.returns
returns c = held_stay c.expanded_stands.ensures
