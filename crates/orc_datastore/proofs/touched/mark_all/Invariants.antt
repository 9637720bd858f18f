use Rattle.std.proofs.Common.{drop}
use Rattle.orc_datastore.specs.inside.Marks.{marks_on}
use Rattle.orc_datastore.proofs.Marking.{MarkedBy}
use Rattle.orc_datastore.proofs.touched.mark_all.Given as goal

-- those of the actions so far
abbrev pub invariant-loop-action : goal.invariant-loop-action
invariant-loop-action l =
    MarkedBy (λ action d. marks_on l.decls.names l.live action d) l.actions (drop l.action-index l.actions) l.fn.marks.items l.marks.items
