use Rattle.std.proofs.Common.{drop}
use Rattle.orc_datastore.proofs.Marking.{MarkedRows}
use Rattle.orc_datastore.proofs.marks.mark_known.Given as goal

-- those of the entries so far
abbrev pub invariant-loop-row : goal.invariant-loop-row
invariant-loop-row l = MarkedRows l.known l.id (drop l.row-index l.row-items) l.fn.marks.items l.marks.items
