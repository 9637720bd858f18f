-- What is left of the block decides.
use Rattle.std.proofs.Common.{◌≡◌}
use Rattle.std.specs.Prelude.{drop}
use Rattle.orc_modules.specs.Stack.{stack, modules_of}
use Rattle.orc_modules.specs.inside.Leaves.{leaf_in_block, leaf_by, leaf_of_grouping}
use Rattle.orc_modules.proofs.leaves.leaf_in_block.Given as goal

abbrev pub invariant-loop-stmt : goal.invariant-loop-stmt
invariant-loop-stmt l = leaf_in_block (modules_of l.fn.modules) (stack l.fn.at.above.now) l.fn.name l.fn.block
    ≡ leaf_by (leaf_of_grouping (modules_of l.fn.modules) l.fn.name) (modules_of l.fn.modules) (stack l.fn.at.above.now) l.fn.name (drop l.stmt-index l.fn.block)
