use Rattle.std.proofs.Common.{◌≡◌, map, take}
use Rattle.orc_datastore.specs.inside.Turns.{turn_id}
use Rattle.orc_datastore.proofs.turns.turn_ids.Given as goal

-- those so far
abbrev pub invariant-loop-turn : goal.invariant-loop-turn
invariant-loop-turn l = l.ids.items ≡ map turn_id (take l.turn-index l.turns)
