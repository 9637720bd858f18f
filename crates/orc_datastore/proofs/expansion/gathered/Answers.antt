use Rattle.std.proofs.Common.{◌∙◌}
use Rattle.std.specs.FinMap.{empty}
use Rattle.orc_datastore.proofs.Spreading.{bare_part, left_parts}
use Rattle.orc_datastore.proofs.expansion.gathered.Goals as goal
use Rattle.orc_datastore.proofs.expansion.gathered.Goals.{in-Some+in_ok-push_part, in_default}

pub loop-device-preserved : goal.loop-device-preserved
loop-device-preserved c =
    let w = c.args.written.now in
    let device = c.loop-device.device in
    elim c.match-written_on.branch [
      | in-Some+in_ok-push_part p ↦
          left_parts w device c.args.devices c.loop-device.parts c.match-written_on.parts _ p.in-Some.tree.now c.loop-device-test.true p.in-Some.ensures (p.parts-is ∙ p.in_ok-push_part.ensures) c.loop-device.invariant
      | in_default p ↦
          left_parts w device c.args.devices c.loop-device.parts c.match-written_on.parts _ empty c.loop-device-test.true p.in_default.ensures (p.parts-is ∙ bare_part c.loop-device.parts device) c.loop-device.invariant
    ]
