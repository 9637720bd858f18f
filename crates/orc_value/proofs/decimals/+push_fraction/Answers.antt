use Rattle.std.proofs.Common.{arith}
use Rattle.orc_value.proofs.DecimalLaws.{fraction-below_ten}
use Rattle.orc_value.proofs.decimals.+push_fraction.Goals as goal

pub push_digit-requires : goal.push_digit-requires
push_digit-requires t c =
    rw c.power_of_ten-unit.ensures.value (fraction-below_ten c.args.places c.args.rest c.requires.below_one (omega arith))
