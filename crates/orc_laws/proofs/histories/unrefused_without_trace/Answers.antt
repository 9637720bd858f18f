use Rattle.orc_laws.proofs.Removals.{unrefused_without}
use Rattle.orc_laws.proofs.histories.unrefused_without_trace.Goals as goal

pub returns : goal.returns
returns c = unrefused_without
