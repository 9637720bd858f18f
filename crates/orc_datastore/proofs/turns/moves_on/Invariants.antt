use Rattle.std.proofs.Common.{◌≡◌, ◌++◌, drop}
use Rattle.std.specs.List.{flat_map}
use Rattle.orc_refs.specs.Moves.{BringWhole}
use Rattle.orc_datastore.specs.inside.Turns.{move_of}
use Rattle.orc_datastore.proofs.turns.moves_on.Given as goal

-- those so far, and those of the turns that are left
abbrev pub invariant-loop-turn : goal.invariant-loop-turn
invariant-loop-turn l = record {
  moves : l.moves.items ++ flat_map (move_of l.live l.device) (drop l.turn-index l.turns) ≡ flat_map (move_of l.live l.device) l.turns;
  whole : BringWhole l.moves.items;
}
