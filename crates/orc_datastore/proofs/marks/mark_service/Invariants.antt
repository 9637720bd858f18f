use Rattle.orc_datastore.specs.inside.Touching.{is_on}
use Rattle.orc_datastore.proofs.Marking.{MarkedTo}
use Rattle.orc_datastore.proofs.marks.mark_service.Given as goal

-- those of the devices so far
abbrev pub invariant-loop-device : goal.invariant-loop-device
invariant-loop-device l = MarkedTo (λ d. is_on d l.service) l.fn.marks.items l.marks.items l.device
