use Rattle.std.proofs.Common.{◌≡◌, take}
use Rattle.std.specs.List.{fold}
use Rattle.orc_datastore.specs.inside.Sights.{leave_living}
use Rattle.orc_datastore.proofs.known.leave_all.Given as goal

-- those so far are gone
abbrev pub invariant-loop-id : goal.invariant-loop-id
invariant-loop-id l = l.known ≡ fold leave_living l.fn.known (take l.id-index l.ids)
