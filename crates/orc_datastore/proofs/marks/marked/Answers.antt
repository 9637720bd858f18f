use Rattle.std.proofs.Common.{◌∙◌}
use Rattle.orc_datastore.specs.inside.Marks.{is_marked}
use Rattle.orc_datastore.proofs.Ranges.{filter-more_yes, filter-more_no}
use Rattle.orc_datastore.proofs.marks.marked.Goals as goal
use Rattle.orc_datastore.proofs.marks.marked.Goals.{then-is_marked+in_ok-push, else-is_marked}

pub loop-device-preserved : goal.loop-device-preserved
loop-device-preserved c =
    let test = is_marked c.args.marks.now in
    let at = c.loop-device in
    elim c.if-is_marked.branch [
      | then-is_marked+in_ok-push w ↦ filter-more_yes test at.device c.is_marked.result at.devices c.if-is_marked.devices
          c.is_marked.ensures w.if-is_marked.true at.invariant (w.devices-is ∙ w.in_ok-push.ensures.ok)
      | else-is_marked w ↦ w.devices-is ∙ filter-more_no test at.device c.is_marked.result at.devices c.is_marked.ensures w.if-is_marked.false at.invariant
    ]
