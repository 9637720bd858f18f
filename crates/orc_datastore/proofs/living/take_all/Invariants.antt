use Rattle.std.proofs.Common.{◌≡◌, take}
use Rattle.orc_datastore.specs.inside.Placed.{AreNoted, KeepsRoom, filled}
use Rattle.orc_datastore.specs.inside.Turns.{left_by}
use Rattle.orc_datastore.proofs.living.take_all.Given as goal

-- those so far are gone, and there is as much room
abbrev pub invariant-loop-id : goal.invariant-loop-id
invariant-loop-id l =
    AreNoted l.slots.items l.places
    × (filled l.slots.items ≡ left_by (filled l.fn.slots.items) (take l.id-index l.ids))
    × KeepsRoom l.fn.slots l.slots
