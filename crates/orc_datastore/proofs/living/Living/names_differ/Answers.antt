use Rattle.std.proofs.Common.{subst}
use Rattle.orc_datastore.specs.inside.Placed.{AreNamedOnce, place_among}
use Rattle.orc_datastore.proofs.Placed.{placed-noted, placed-once}
use Rattle.orc_datastore.proofs.living.Living.names_differ.Goals as goal

pub returns : goal.returns
returns c = subst AreNamedOnce c.self.view_is
    (let slots = c.self.inside.slots.items in
    let places = c.self.inside.places in
    placed-once slots (place_among slots places) (placed-noted slots places c.self.invariant))
