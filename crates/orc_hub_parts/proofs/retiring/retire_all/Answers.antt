use Rattle.orc_rules.specs.Transactions.{retired}
use Rattle.orc_hub_parts.proofs.Told.{told_more}
use Rattle.orc_hub_parts.proofs.retiring.retire_all.Goals as goal

pub loop-it-preserved : goal.loop-it-preserved
loop-it-preserved c =
    told_more (retired c.args.duties.now) c.args.active.now c.loop-it.active c.loop-it.it-index c.it-item.result c.retire.new.it
    c.loop-it-test.true c.loop-it.auto.active c.loop-it.invariant c.retire.ensures
