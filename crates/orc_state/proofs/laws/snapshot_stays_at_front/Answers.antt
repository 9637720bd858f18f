use Rattle.orc_state.proofs.Fronts.{snapshot_stays}
use Rattle.orc_state.proofs.laws.snapshot_stays_at_front.Goals as goal

pub returns : goal.returns
returns c = snapshot_stays
