use Rattle.orc_state.proofs.Fronts.{is_at_front}
use Rattle.orc_state.proofs.laws.plan_is_at_front.Goals as goal

pub returns : goal.returns
returns c = is_at_front
