use Rattle.std.proofs.Common.{nat_lt, ap, ◌∙◌, arith, lt-ltb}
use Rattle.orc_hub_parts.specs.declared.log.Unsettled.{Unsettled}
use Rattle.orc_hub_parts.proofs.Positions.{first_at, none_at}
use Rattle.orc_hub_parts.proofs.log.place_for.Goals as goal

pub returns-then-t-unsettled : goal.returns-then-t-unsettled
returns-then-t-unsettled c = record {
  place = first_at (λ (one : Unsettled). nat_lt c.args.t one.t) c.args.unsettled.now c.loop-place.place c.index-unsettled-place.result c.loop-place-test.true
      c.index-unsettled-place.is
      (ap (λ (one : Unsettled). nat_lt c.args.t one.t) c.index-unsettled-place.is ∙ lt-ltb c.args.t _ c.if-t-unsettled.true) c.loop-place.invariant;
  within = c.loop-place.auto.place-end;
}

pub returns : goal.returns
returns c = record {
  place = none_at (λ (one : Unsettled). nat_lt c.args.t one.t) c.args.unsettled.now c.loop-place.place c.loop-place-test.false c.loop-place.invariant;
  within = omega arith;
}
