use Rattle.orc_services.proofs.Writing.{all_written}
use Rattle.orc_services.proofs.writes.writes_of.Goals as goal

pub returns-clause-writes : goal.returns-clause-writes
returns-clause-writes c =
    all_written c.args.names.now c.loop-tree.left.now c.args.trees.now c.loop-tree.tree-index c.loop-tree.writes c.loop-tree-test.false c.loop-tree.invariant.0
