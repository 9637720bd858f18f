use Rattle.std.proofs.Common.{◌≡◌, take}
use Rattle.orc_datastore.specs.Plans.{services_named}
use Rattle.orc_datastore.proofs.targets.services_named.Given as goal

-- those so far
abbrev pub invariant-loop-action : goal.invariant-loop-action
invariant-loop-action l = l.ids ≡ services_named (take l.action-index l.actions)
