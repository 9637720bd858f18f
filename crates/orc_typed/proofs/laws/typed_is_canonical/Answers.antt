use Rattle.orc_typed.proofs.Kept.{own_of_typed}
use Rattle.orc_typed.proofs.laws.typed_is_canonical.Goals as goal

pub returns : goal.returns
returns c = own_of_typed
