use Rattle.orc_plans.proofs.Standing.{planned_stands}
use Rattle.orc_plans.proofs.plans.planned_stands.Goals as goal

pub returns : goal.returns
returns c = planned_stands
