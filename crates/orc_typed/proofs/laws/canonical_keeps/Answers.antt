use Rattle.orc_typed.proofs.Kept.{keeps}
use Rattle.orc_typed.proofs.laws.canonical_keeps.Goals as goal

pub returns : goal.returns
returns c = keeps
