use Rattle.std.proofs.Common.{ap, ◌∙◌, arith}
use Rattle.std.specs.List.{find}
use Rattle.orc_datastore.specs.States.{has_id}
use Rattle.orc_datastore.specs.inside.Placed.{place_among}
use Rattle.orc_datastore.proofs.Placed.{found_at, found_none, got, place_same, placed-noted, placed_within}
use Rattle.orc_datastore.proofs.living.Living.find.Goals as goal

pub index-requires : goal.index-requires
index-requires c =
    let slots = c.self.inside.slots.items in
    let places = c.self.inside.places in
    omega (
      arith,
      c.self.inside.slots.ok.0,
      placed_within slots (place_among slots places) (placed-noted slots places c.self.invariant) c.args.id.now c.in-Some.place (place_same c.as_slice.result.now c.self.inside.slots.items c.self.inside.places c.args.id.now _ c.as_slice.ensures.value c.in-Some.ensures),
    )

pub returns-in-Some : goal.returns-in-Some
returns-in-Some c =
    let slots = c.self.inside.slots.items in
    let places = place_among slots c.self.inside.places in
    let placed = placed-noted slots c.self.inside.places c.self.invariant in
    let id = c.args.id.now in
    let within = placed_within slots places placed id c.in-Some.place (place_same c.as_slice.result.now c.self.inside.slots.items c.self.inside.places c.args.id.now _ c.as_slice.ensures.value c.in-Some.ensures) in
    c.as_ref.ensures.value
    ∙ found_at slots places placed id c.in-Some.place c.index.result.now (place_same c.as_slice.result.now c.self.inside.slots.items c.self.inside.places c.args.id.now _ c.as_slice.ensures.value c.in-Some.ensures)
    (got slots c.in-Some.place c.index.result.now within c.index.ensures)
    ∙ ap (find (has_id id)) c.self.view_is

pub returns-in-None : goal.returns-in-None
returns-in-None c =
    let slots = c.self.inside.slots.items in
    let places = c.self.inside.places in
    found_none slots (place_among slots places) (placed-noted slots places c.self.invariant) c.args.id.now (place_same c.as_slice.result.now c.self.inside.slots.items c.self.inside.places c.args.id.now _ c.as_slice.ensures.value c.in-None.ensures)
    ∙ ap (find (has_id c.args.id.now)) c.self.view_is
