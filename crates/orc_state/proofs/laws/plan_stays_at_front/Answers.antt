use Rattle.orc_state.proofs.Fronts.{stays_at_front}
use Rattle.orc_state.proofs.laws.plan_stays_at_front.Goals as goal

pub returns : goal.returns
returns c = stays_at_front
