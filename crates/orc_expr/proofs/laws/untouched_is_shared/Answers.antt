use Rattle.orc_expr.proofs.Shared.{untouched_is_shared}
use Rattle.orc_expr.proofs.laws.untouched_is_shared.Goals as goal

pub returns : goal.returns
returns c = untouched_is_shared
