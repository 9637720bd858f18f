use Rattle.orc_state.proofs.OneConflict.{conflict_is_one}
use Rattle.orc_state.proofs.laws.conflict_is_one.Goals as goal

pub returns : goal.returns
returns c = conflict_is_one
