use Rattle.orc_state.proofs.Ready.{passed_can_commit}
use Rattle.orc_state.proofs.laws.passed_can_commit.Goals as goal

pub returns : goal.returns
returns c = passed_can_commit
