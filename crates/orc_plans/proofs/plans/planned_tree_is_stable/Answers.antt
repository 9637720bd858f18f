use Rattle.orc_plans.proofs.Standing.{planned_tree_is_stable}
use Rattle.orc_plans.proofs.plans.planned_tree_is_stable.Goals as goal

pub returns : goal.returns
returns c = planned_tree_is_stable c.expanded_stands.ensures
