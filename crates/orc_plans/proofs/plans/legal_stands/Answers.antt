use Rattle.orc_plans.proofs.Unrefused.{legal_stands}
use Rattle.orc_plans.proofs.plans.legal_stands.Goals as goal

pub returns : goal.returns
returns c = legal_stands c.expanded_stands.ensures
