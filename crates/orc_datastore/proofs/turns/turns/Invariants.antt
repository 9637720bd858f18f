use Rattle.std.proofs.Common.{◌≡◌, ◌++◌, drop}
use Rattle.std.specs.List.{flat_map}
use Rattle.orc_datastore.specs.inside.Turns.{turns_of}
use Rattle.orc_datastore.proofs.turns.turns.Given as goal

-- those so far, and those of the actions that are left
abbrev pub invariant-loop-action : goal.invariant-loop-action
invariant-loop-action l = l.turns.items ++ flat_map (turns_of l.decls.names) (drop l.action-index l.actions) ≡ flat_map (turns_of l.decls.names) l.actions
