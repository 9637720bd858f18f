use Rattle.std.proofs.Common.{◌≡◌, ◌++◌, drop}
use Rattle.std.specs.List.{flat_map}
use Rattle.orc_datastore.specs.inside.Turns.{edits_of}
use Rattle.orc_datastore.proofs.turns.edits_on.Given as goal

-- those so far, and those of the actions that are left
abbrev pub invariant-loop-action : goal.invariant-loop-action
invariant-loop-action l = l.edits.items ++ flat_map (edits_of l.name) (drop l.action-index l.actions) ≡ flat_map (edits_of l.name) l.actions
