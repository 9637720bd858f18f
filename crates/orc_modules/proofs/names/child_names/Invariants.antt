-- What is left of the block is still to come.
use Rattle.std.proofs.Common.{◌≡◌, ◌++◌}
use Rattle.std.specs.Prelude.{drop}
use Rattle.orc_modules.specs.Children.{brought_by, children, children_by, child_names}
use Rattle.orc_modules.specs.Stack.{stack}
use Rattle.orc_modules.proofs.names.child_names.Given as goal

abbrev pub invariant-loop-stmt : goal.invariant-loop-stmt
invariant-loop-stmt l = child_names (children l.fn.modules.most l.fn.modules.all.now (stack l.fn.above) l.fn.block)
    ≡ l.out ++ child_names (children_by (brought_by l.fn.modules.most l.fn.modules.all.now) l.fn.modules.all.now (stack l.fn.above) (drop l.stmt-index l.fn.block))
