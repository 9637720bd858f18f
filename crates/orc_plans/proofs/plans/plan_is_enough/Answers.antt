use Rattle.orc_plans.proofs.Enough.{plan_is_enough}
use Rattle.orc_plans.proofs.plans.plan_is_enough.Goals as goal

pub returns : goal.returns
returns c = plan_is_enough c.literal_is_expansion.ensures
