use Rattle.orc_rules.specs.Events.{mender_freed}
use Rattle.orc_hub_parts.proofs.Told.{told_more}
use Rattle.orc_hub.proofs.reconciling.free_all.Goals as goal

pub loop-duty-preserved : goal.loop-duty-preserved
loop-duty-preserved c =
    told_more mender_freed c.args.duties.now c.loop-duty.duties c.loop-duty.duty-index c.duty-item.result c.free.new.duty
    c.loop-duty-test.true c.loop-duty.auto.duties c.loop-duty.invariant c.free.ensures
