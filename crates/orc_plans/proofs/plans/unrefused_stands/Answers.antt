use Rattle.orc_plans.proofs.Unrefused.{unrefused_stands}
use Rattle.orc_plans.proofs.plans.unrefused_stands.Goals as goal

pub returns : goal.returns
returns c = unrefused_stands c.expanded_stands.ensures
