use Rattle.orc_tree.specs.Changes.{change_fits}
use Rattle.orc_tree.proofs.Changed.{list_all-read, put_each-more}
use Rattle.orc_tree.proofs.change.put_each.Goals as goal

pub put_change-requires : goal.put_change-requires
put_change-requires c = record {
  fits = list_all-read change_fits c.args.changes.now c.loop-change.change-index c.change-item.result c.loop-change-test.true c.change-item.is c.requires.fits;
}

pub loop-change-preserved : goal.loop-change-preserved
loop-change-preserved c =
    put_each-more c.args.changes.now c.loop-change.change-index c.change-item.result c.loop-change.tree c.put_change.new.tree _ c.loop-change-test.true c.change-item.is c.in_ok-put_change.ensures c.loop-change.invariant
