use Rattle.std.proofs.Common.{drop}
use Rattle.orc_decls.specs.Devices.{name_of}
use Rattle.orc_datastore.specs.Touched.{touches_device}
use Rattle.orc_datastore.specs.inside.Sights.{knows_device}
use Rattle.orc_datastore.proofs.Marking.{MarkedBy}
use Rattle.orc_datastore.proofs.held.mark_all.Given as goal

-- those of the actions so far
abbrev pub invariant-loop-action : goal.invariant-loop-action
invariant-loop-action l =
    MarkedBy (λ action d. touches_device (name_of l.decls.names d) (knows_device l.known) d action) l.actions (drop l.action-index l.actions)
    l.fn.marks.items l.marks.items
