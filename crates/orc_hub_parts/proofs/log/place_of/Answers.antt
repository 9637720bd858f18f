use Rattle.std.proofs.Common.{ap, ◌∙◌, eq-eqb}
use Rattle.orc_hub_parts.specs.Logs.{has_number}
use Rattle.orc_hub_parts.proofs.Positions.{found, not_found}
use Rattle.orc_hub_parts.proofs.log.place_of.Goals as goal

pub returns-then-unsettled-place : goal.returns-then-unsettled-place
returns-then-unsettled-place c =
    found (has_number c.args.t) c.args.unsettled.now c.loop-place.place c.index-unsettled-place.result c.loop-place-test.true c.index-unsettled-place.is
    (ap (has_number c.args.t) c.index-unsettled-place.is ∙ eq-eqb _ _ c.if-unsettled-place.true) c.loop-place.invariant

pub returns : goal.returns
returns c = not_found (has_number c.args.t) c.args.unsettled.now c.loop-place.place c.loop-place-test.false c.loop-place.invariant
