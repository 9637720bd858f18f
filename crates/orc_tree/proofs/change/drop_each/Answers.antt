use Rattle.orc_tree.proofs.Changed.{drop_each-more}
use Rattle.orc_tree.proofs.change.drop_each.Goals as goal

pub loop-change-preserved : goal.loop-change-preserved
loop-change-preserved c =
    drop_each-more c.args.changes.now c.loop-change.change-index c.change-item.result c.loop-change.tree c.drop_change.new.tree _ c.loop-change-test.true c.change-item.is c.in_ok-drop_change.ensures c.loop-change.invariant
