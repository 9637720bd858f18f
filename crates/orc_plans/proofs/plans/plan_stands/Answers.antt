use Rattle.orc_plans.proofs.Standing.{plan_stands}
use Rattle.orc_plans.proofs.plans.plan_stands.Goals as goal

pub returns : goal.returns
returns c = plan_stands c.expanded_stands.ensures c.literal_is_expansion.ensures
