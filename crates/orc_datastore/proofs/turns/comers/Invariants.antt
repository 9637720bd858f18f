use Rattle.std.proofs.Common.{◌≡◌, ◌++◌}
use Rattle.std.specs.List.{flat_map}
use Rattle.std.specs.Vec.Iter.{into_iter_items}
use Rattle.orc_datastore.specs.inside.Turns.{comers}
use Rattle.orc_datastore.proofs.turns.comers.Given as goal

-- those so far, and those of the turns that are left
abbrev pub invariant-loop-turn : goal.invariant-loop-turn
invariant-loop-turn l = l.services.items ++ flat_map comers (into_iter_items l.turn-iterator) ≡ flat_map comers l.fn.turns.items
