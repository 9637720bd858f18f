use Rattle.orc_types.proofs.LengthNarrowing.{lengths_narrow}
use Rattle.orc_types.proofs.laws.lengths_narrow.Goals as goal

pub returns : goal.returns
returns c = lengths_narrow
