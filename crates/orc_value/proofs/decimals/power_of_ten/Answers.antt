use Rattle.orc_value.proofs.DecimalLaws.{ten_pow_pos}
use Rattle.orc_value.proofs.decimals.power_of_ten.Goals as goal

pub returns-clause-positive : goal.returns-clause-positive
returns-clause-positive c = rw c.pow.ensures (ten_pow_pos c.from.result)
