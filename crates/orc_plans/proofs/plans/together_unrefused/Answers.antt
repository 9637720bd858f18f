use Rattle.orc_plans.proofs.Together.{together_unrefused}
use Rattle.orc_plans.proofs.plans.together_unrefused.Goals as goal

pub returns : goal.returns
returns c = together_unrefused c.expanded_stands.ensures c.literal_is_expansion.ensures
