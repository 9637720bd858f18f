use Rattle.orc_plans.proofs.Standing.{plan_refuses_first}
use Rattle.orc_plans.proofs.plans.plan_refuses_first.Goals as goal

pub returns : goal.returns
returns c = plan_refuses_first
