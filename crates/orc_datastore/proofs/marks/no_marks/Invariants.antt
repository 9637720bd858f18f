use Rattle.orc_datastore.proofs.Marking.{AreClear}
use Rattle.orc_datastore.proofs.marks.no_marks.Given as goal

-- none so far is marked
abbrev pub invariant-loop-device : goal.invariant-loop-device
invariant-loop-device l = AreClear l.marks.items l._device
