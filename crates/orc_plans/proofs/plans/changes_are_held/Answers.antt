use Rattle.orc_plans.proofs.Standing.{changes_are_held}
use Rattle.orc_plans.proofs.plans.changes_are_held.Goals as goal

pub returns : goal.returns
returns c = changes_are_held
