use Rattle.orc_laws.proofs.Removals.{legal_without}
use Rattle.orc_laws.proofs.histories.legal_without_trace.Goals as goal

pub returns : goal.returns
returns c = legal_without
