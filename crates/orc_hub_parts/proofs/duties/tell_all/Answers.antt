use Rattle.orc_rules.specs.Duties.{duty_told}
use Rattle.orc_hub_parts.proofs.Told.{told_more}
use Rattle.orc_hub_parts.proofs.duties.tell_all.Goals as goal

pub loop-device-preserved : goal.loop-device-preserved
loop-device-preserved c =
    told_more (duty_told c.args.t c.args.commit) c.args.duties.now c.loop-device.duties c.loop-device.device c.index-duties-device.result c.tell.new.duty
    c.loop-device-test.true c.loop-device.auto.duties c.loop-device.invariant c.tell.ensures
