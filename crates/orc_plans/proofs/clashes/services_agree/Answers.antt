use Rattle.orc_plans.proofs.Agreeing.{living_agree}
use Rattle.orc_plans.proofs.clashes.services_agree.Goals as goal

pub returns : goal.returns
returns c = living_agree
