use Rattle.orc_plans.proofs.Unrefused.{unclashed_stands}
use Rattle.orc_plans.proofs.plans.unclashed_stands.Goals as goal

pub returns : goal.returns
returns c = unclashed_stands c.expanded_stands.ensures
