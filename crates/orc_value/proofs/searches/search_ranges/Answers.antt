use Rattle.std.proofs.Common.{◌≡◌, ℤ, false, sym, subst, ◌∙◌, arith}
use Rattle.std.specs.Prelude.{int_le}
use Rattle.std.specs.Int.{w128}
use Rattle.std.proofs.lemmas.Int.{ints, to_z-of_z}
use Rattle.orc_value.specs.Integers.{in_ranges}
use Rattle.orc_value.proofs.Halves.{in_front, in_back, front_apart, back_apart, int_trans, int_total}
use Rattle.orc_value.proofs.searches.search_ranges.Goals as goal

pub loop-front-preserved-then-number-middle : goal.loop-front-preserved-then-number-middle
loop-front-preserved-then-number-middle c =
    let cut = c.in-Some.ensures in
    let so_far = c.loop-front.invariant in
    let same = to_z-of_z w128 c.args.number c.ranges.number in
    let low : int_le c.in-Some.middle.now.0 c.args.number ≡ false = grind (arith, ints, c.if-number-middle.true) in
    let value = in_front int_le int_trans int_total c.loop-front.rest.now c.in-Some.front.now c.in-Some.middle.now c.in-Some.back.now c.args.number cut so_far.apart low in
    record {
      apart = front_apart int_le int_trans int_total c.loop-front.rest.now c.in-Some.front.now c.in-Some.middle.now c.in-Some.back.now c.args.number cut so_far.apart;
      value = subst (λ (z : ℤ). in_ranges c.in-Some.front.now z ≡ in_ranges c.loop-front.rest.now z) (sym same) value ∙ so_far.value;
    }

pub loop-front-preserved : goal.loop-front-preserved
loop-front-preserved c =
    let cut = c.in-Some.ensures in
    let so_far = c.loop-front.invariant in
    let same = to_z-of_z w128 c.args.number c.ranges.number in
    let high : int_le c.args.number c.in-Some.middle.now.1 ≡ false = grind (arith, ints, c.if-middle-number.true) in
    let value = in_back int_le int_trans int_total c.loop-front.rest.now c.in-Some.front.now c.in-Some.middle.now c.in-Some.back.now c.args.number cut so_far.apart high in
    record {
      apart = back_apart int_le int_trans int_total c.loop-front.rest.now c.in-Some.front.now c.in-Some.middle.now c.in-Some.back.now c.args.number cut so_far.apart;
      value = subst (λ (z : ℤ). in_ranges c.in-Some.back.now z ≡ in_ranges c.loop-front.rest.now z) (sym same) value ∙ so_far.value;
    }
