use Rattle.orc_plans.proofs.Together.{planned_together_fit}
use Rattle.orc_plans.proofs.plans.planned_together_fit.Goals as goal

pub returns : goal.returns
returns c = planned_together_fit c.expanded_stands.ensures c.literal_is_expansion.ensures
