use Rattle.orc_types.proofs.Distinct.{enums_differ}
use Rattle.orc_types.proofs.laws.enums_differ.Goals as goal

pub returns : goal.returns
returns c = enums_differ
