use Rattle.orc_types.proofs.Bounds.{numbers_read_back}
use Rattle.orc_types.proofs.laws.numbers_read_back.Goals as goal

pub returns : goal.returns
returns c = numbers_read_back
