use Rattle.std.proofs.Common.{◌≡◌, take}
use Rattle.std.specs.List.{fold}
use Rattle.orc_datastore.specs.inside.Sights.{enter_living}
use Rattle.orc_datastore.proofs.known.enter_all.Given as goal

-- those so far have come
abbrev pub invariant-loop-service : goal.invariant-loop-service
invariant-loop-service l = l.known ≡ fold enter_living l.fn.known (take l.service-index l.services)
