use Rattle.orc_path.proofs.PathOf.{paths_are_read}
use Rattle.orc_path.proofs.laws.paths_are_read.Goals as goal

pub returns : goal.returns
returns c = paths_are_read
