use Rattle.orc_check.proofs.TypedRows.{types_are_kept}
use Rattle.orc_check.proofs.laws.valid_is_typed.Goals as goal

pub returns : goal.returns
returns c = types_are_kept
