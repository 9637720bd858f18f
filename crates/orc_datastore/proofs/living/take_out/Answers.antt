use Rattle.std.proofs.Common.{List, sym, subst, ap, ◌∙◌, arith}
use Rattle.std.specs.Prelude.{Option}
use Rattle.orc_datastore.specs.inside.Placed.{AreNoted, filled, place_among}
use Rattle.orc_datastore.specs.declared.service.Service.{Service}
use Rattle.orc_datastore.proofs.Placed.{filled-less, filled-same, noted_less, place_same, placed-noted, placed_within}
use Rattle.orc_datastore.proofs.living.take_out.Goals as goal

pub empty_slot-requires : goal.empty_slot-requires
empty_slot-requires c =
    let slots = c.args.slots.now.items in
    let places = c.args.places.now in
    omega (
      arith,
      c.args.slots.now.ok.0,
      placed_within slots (place_among slots places) (placed-noted slots places c.requires) c.args.id.now c.in-Some.place (place_same c.as_slice.result.now c.args.slots.now.items c.args.places.now c.args.id.now _ c.as_slice.ensures.value c.in-Some.ensures),
    )

pub returns-in-Some-clause-noted : goal.returns-in-Some-clause-noted
returns-in-Some-clause-noted c =
    subst (λ (slots : List (Option Service)). AreNoted slots c.args.places.now) (sym c.empty_slot.ensures.items)
    (noted_less c.args.slots.now.items c.args.places.now c.in-Some.place c.requires)

pub returns-in-Some-clause-left : goal.returns-in-Some-clause-left
returns-in-Some-clause-left c =
    let slots = c.args.slots.now.items in
    let places = c.args.places.now in
    ap (λ (l : List (Option Service)). filled l) c.empty_slot.ensures.items
    ∙ filled-less slots (place_among slots places) (placed-noted slots places c.requires) c.args.id.now c.in-Some.place (place_same c.as_slice.result.now c.args.slots.now.items c.args.places.now c.args.id.now _ c.as_slice.ensures.value c.in-Some.ensures)

pub returns-in-None-clause-left : goal.returns-in-None-clause-left
returns-in-None-clause-left c =
    let slots = c.args.slots.now.items in
    let places = c.args.places.now in
    filled-same slots (place_among slots places) (placed-noted slots places c.requires) c.args.id.now (place_same c.as_slice.result.now c.args.slots.now.items c.args.places.now c.args.id.now _ c.as_slice.ensures.value c.in-None.ensures)
