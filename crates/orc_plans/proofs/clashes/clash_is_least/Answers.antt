use Rattle.orc_plans.proofs.FirstClash.{clash_least}
use Rattle.orc_plans.proofs.clashes.clash_is_least.Goals as goal

pub returns : goal.returns
returns c = clash_least
