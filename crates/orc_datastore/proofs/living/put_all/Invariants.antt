use Rattle.std.proofs.Common.{◌≡◌, ◌++◌, length}
use Rattle.std.specs.Vec.Iter.{into_iter_items}
use Rattle.orc_datastore.specs.inside.Placed.{AreNoted, HasNames, HasRoom, filled}
use Rattle.orc_datastore.specs.inside.Turns.{AreFresh}
use Rattle.orc_datastore.proofs.living.put_all.Given as goal

-- those that are left can still be put in, and those in slots followed by them are all
abbrev pub invariant-loop-service : goal.invariant-loop-service
invariant-loop-service l = record {
  noted : AreNoted l.slots.items l.places;
  fresh : AreFresh (filled l.slots.items) (into_iter_items l.service-iterator);
  room : HasRoom l.slots (length (into_iter_items l.service-iterator));
  names : HasNames l.places (into_iter_items l.service-iterator);
  more : filled l.slots.items ++ into_iter_items l.service-iterator ≡ filled l.fn.slots.items ++ l.fn.services.items;
}
