use Rattle.orc_path.proofs.Values.{values_are_read}
use Rattle.orc_path.proofs.laws.values_are_read.Goals as goal

pub returns : goal.returns
returns c = values_are_read
