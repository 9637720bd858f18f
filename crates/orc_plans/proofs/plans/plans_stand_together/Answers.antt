use Rattle.orc_plans.proofs.Together.{plans_stand_together}
use Rattle.orc_plans.proofs.plans.plans_stand_together.Goals as goal

pub returns : goal.returns
returns c = plans_stand_together c.expanded_stands.ensures c.literal_is_expansion.ensures
