use Rattle.std.proofs.Common.{◌≡◌, false, ◌∙◌, arith}
use Rattle.std.specs.Prelude.{nat_le}
use Rattle.std.proofs.lemmas.Bool.Decides.{nat_tests}
use Rattle.orc_value.proofs.Halves.{in_front, in_back, front_apart, back_apart, nat_trans, nat_total}
use Rattle.orc_value.proofs.searches.search_lengths.Goals as goal

pub loop-front-preserved-then-count-middle : goal.loop-front-preserved-then-count-middle
loop-front-preserved-then-count-middle c =
    let cut = c.in-Some.ensures in
    let so_far = c.loop-front.invariant in
    let low : nat_le c.in-Some.middle.now.0 c.args.count ≡ false = grind (arith, nat_tests, c.if-count-middle.true) in
    let value = in_front nat_le nat_trans nat_total c.loop-front.rest.now c.in-Some.front.now c.in-Some.middle.now c.in-Some.back.now c.args.count cut so_far.apart low in
    record {
      apart = front_apart nat_le nat_trans nat_total c.loop-front.rest.now c.in-Some.front.now c.in-Some.middle.now c.in-Some.back.now c.args.count cut so_far.apart;
      value = value ∙ so_far.value;
    }

pub loop-front-preserved : goal.loop-front-preserved
loop-front-preserved c =
    let cut = c.in-Some.ensures in
    let so_far = c.loop-front.invariant in
    let high : nat_le c.args.count c.in-Some.middle.now.1 ≡ false = grind (arith, nat_tests, c.if-middle-count.true) in
    let value = in_back nat_le nat_trans nat_total c.loop-front.rest.now c.in-Some.front.now c.in-Some.middle.now c.in-Some.back.now c.args.count cut so_far.apart high in
    record {
      apart = back_apart nat_le nat_trans nat_total c.loop-front.rest.now c.in-Some.front.now c.in-Some.middle.now c.in-Some.back.now c.args.count cut so_far.apart;
      value = value ∙ so_far.value;
    }
