use Rattle.std.proofs.Common.{◌≡◌, ◌++◌, drop}
use Rattle.orc_hub.specs.Mends.{resolved_on}
use Rattle.orc_hub.proofs.reconciling.resolved_on.Given as goal

abbrev pub invariant-loop-one : goal.invariant-loop-one
invariant-loop-one l = l.intents.items ++ resolved_on l.device (drop l.one-index l.unsettled) ≡ resolved_on l.device l.unsettled
