use Rattle.std.proofs.Common.{◌+◌, ap, cond, refl}
use Rattle.std.proofs.lemmas.Bool.{lt-ltb}
use Rattle.orc_node.proofs.laws.numbers_begin_again.Goals as goal

pub returns : goal.returns
returns c = (λ last h. ap (λ b. cond b (last + 1) 1) (lt-ltb last 4294967295 h), refl)
