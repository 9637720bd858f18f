use Rattle.orc_typed.proofs.Kept.{is_typed-own}
use Rattle.orc_typed.proofs.laws.canonical_is_typed.Goals as goal

pub returns : goal.returns
returns c = λ s path own it own_it inside are. is_typed-own s path own it own_it are inside
