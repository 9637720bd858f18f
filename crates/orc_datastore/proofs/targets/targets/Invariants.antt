use Rattle.std.proofs.Common.{◌≡◌, take}
use Rattle.orc_datastore.specs.Plans.{call_targets}
use Rattle.orc_datastore.proofs.targets.targets.Given as goal

-- those so far
abbrev pub invariant-loop-action : goal.invariant-loop-action
invariant-loop-action l = l.targets ≡ call_targets (take l.action-index l.actions)
