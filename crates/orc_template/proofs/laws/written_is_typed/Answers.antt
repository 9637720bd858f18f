use Rattle.orc_template.proofs.TypedWritten.{written_typed}
use Rattle.orc_template.proofs.laws.written_is_typed.Goals as goal

pub returns : goal.returns
returns c = written_typed
