use Rattle.orc_types.proofs.Narrowing.{ranges_narrow}
use Rattle.orc_types.proofs.laws.ranges_narrow.Goals as goal

pub returns : goal.returns
returns c = ranges_narrow
