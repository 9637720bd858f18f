use Rattle.orc_plans.proofs.Unread.{stands_behind}
use Rattle.orc_plans.proofs.plans.expanded_stands_behind.Goals as goal

pub returns : goal.returns
returns c = stands_behind c.expanded_stands.ensures
