use Rattle.orc_datastore.proofs.Marking.{clear_more, clear_none}
use Rattle.orc_datastore.proofs.marks.no_marks.Goals as goal

pub loop-device-init : goal.loop-device-init
loop-device-init c = clear_none _ c.new-marks.ensures.items

pub loop-device-preserved : goal.loop-device-preserved
loop-device-preserved c = clear_more c.loop-device.marks.items c.push.new.self.items _ c.loop-device.invariant c.in_ok-push.ensures.items
