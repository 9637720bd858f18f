use Rattle.std.proofs.Common.{◌≡◌, ◌+◌, ◌≤◌, length}
use Rattle.std.specs.Iterator.Adapters.{enumerate_count, enumerate_source}
use Rattle.std.specs.Vec.Iter.{into_iter_items}
use Rattle.orc_datastore.specs.inside.Keeping.{placed}
use Rattle.orc_datastore.proofs.Placing.{placed_from}
use Rattle.orc_datastore.proofs.stores.place.Given as goal

-- the changes that are left, from the device that is next, put in place give what all give
abbrev pub invariant-loop-device : goal.invariant-loop-device
invariant-loop-device l = record {
  whole : placed_from (enumerate_count l.device-iterator) l.stores.items (into_iter_items (enumerate_source l.device-iterator)) ≡ placed l.fn.stores.items l.fn.changes.items;
  room : enumerate_count l.device-iterator + length (into_iter_items (enumerate_source l.device-iterator)) ≤ length l.stores.items;
}
