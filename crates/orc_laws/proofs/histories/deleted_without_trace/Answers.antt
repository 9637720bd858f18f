use Rattle.orc_laws.proofs.Traces.{deleted_leaves_no_trace}
use Rattle.orc_laws.proofs.histories.deleted_without_trace.Goals as goal

pub returns : goal.returns
returns c = deleted_leaves_no_trace
