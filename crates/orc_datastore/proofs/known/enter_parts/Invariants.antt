use Rattle.std.proofs.Common.{◌≡◌, drop}
use Rattle.orc_datastore.specs.inside.Sights.{enter_parts}
use Rattle.orc_datastore.proofs.known.enter_parts.Given as goal

-- those so far are entered
abbrev pub invariant-loop-device : goal.invariant-loop-device
invariant-loop-device l =
    enter_parts l.service.id l.device (drop l.device l.service.parts) l.known ≡ enter_parts l.service.id 0 l.service.parts l.fn.known
