use Rattle.std.proofs.Common.{arith, ◌<◌, ◌/◌}
use Rattle.orc_value.proofs.DecimalLaws.{fraction-below_ten}
use Rattle.orc_value.proofs.decimals.+is_fraction.Goals as goal

pub overflow_cast-rest : goal.overflow_cast-rest
overflow_cast-rest t c =
    let small : c.args.rest / c.power_of_ten-unit.result < 10 = rw c.power_of_ten-unit.ensures.value (fraction-below_ten c.args.places c.args.rest c.requires.below_one (omega arith)) in
    omega arith

pub overflow_add-rest : goal.overflow_add-rest
overflow_add-rest t c =
    let small : c.args.rest / c.power_of_ten-unit.result < 10 = rw c.power_of_ten-unit.ensures.value (fraction-below_ten c.args.places c.args.rest c.requires.below_one (omega arith)) in
    omega arith
