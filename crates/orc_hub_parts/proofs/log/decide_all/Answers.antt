use Rattle.orc_hub_parts.specs.Logs.{decided_by}
use Rattle.orc_hub_parts.proofs.Told.{told_more}
use Rattle.orc_hub_parts.proofs.log.decide_all.Goals as goal

pub loop-one-preserved : goal.loop-one-preserved
loop-one-preserved c =
    told_more (decided_by c.args.t) c.args.unsettled.now c.loop-one.unsettled c.loop-one.one-index c.one-item.result c.decide.new.one
    c.loop-one-test.true c.loop-one.auto.unsettled c.loop-one.invariant c.decide.ensures
