use Rattle.orc_datastore.proofs.Planning.{changes_are_targets}
use Rattle.orc_plans.proofs.plans.changes_are_targets.Goals as goal

pub returns : goal.returns
returns c = changes_are_targets
