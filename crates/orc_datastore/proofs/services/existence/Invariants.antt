use Rattle.std.proofs.Common.{◌≡◌, drop}
use Rattle.orc_datastore.specs.Next.{first_service_fault}
use Rattle.orc_datastore.specs.inside.Sights.{knows_service}
use Rattle.orc_datastore.proofs.services.existence.Given as goal

-- the first one at fault is among those that are left
abbrev pub invariant-loop-action : goal.invariant-loop-action
invariant-loop-action l =
    first_service_fault (knows_service l.known) (drop l.action-index l.actions) ≡ first_service_fault (knows_service l.known) l.actions
