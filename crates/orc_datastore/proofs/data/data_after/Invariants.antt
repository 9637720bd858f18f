use Rattle.std.proofs.Common.{◌≡◌, drop}
use Rattle.orc_datastore.specs.Actions.{data_after}
use Rattle.orc_datastore.proofs.data.data_after.Given as goal

-- to do the actions that are left gives the whole
abbrev pub invariant-loop-action : goal.invariant-loop-action
invariant-loop-action l = data_after (drop l.action-index l.actions) l.tree ≡ data_after l.actions l.«data»
