use Rattle.orc_rules.specs.Transactions.{in_phase}
use Rattle.orc_hub_parts.proofs.Told.{told_more}
use Rattle.orc_hub_parts.proofs.retiring.come_all.Goals as goal

pub loop-it-preserved : goal.loop-it-preserved
loop-it-preserved c =
    told_more (in_phase c.args.t c.args.phase) c.args.active.now c.loop-it.active c.loop-it.it-index c.it-item.result c.come.new.it
    c.loop-it-test.true c.loop-it.auto.active c.loop-it.invariant c.come.ensures
