use Rattle.orc_plans.proofs.Standing.{unread_plan_stands}
use Rattle.orc_plans.proofs.plans.unread_plan_stands.Goals as goal

pub returns : goal.returns
returns c = unread_plan_stands c.expanded_stands.ensures c.literal_is_expansion.ensures
