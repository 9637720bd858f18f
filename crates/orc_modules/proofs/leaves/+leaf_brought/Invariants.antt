-- Each call goes one less deep, and what is left of the block decides.
use Rattle.std.proofs.Common.{◌≡◌, ◌-◌, ◌∷◌}
use Rattle.std.specs.Prelude.{drop}
use Rattle.orc_types.specs.Statements.{subs}
use Rattle.orc_modules.specs.Stack.{stack, modules_of}
use Rattle.orc_modules.specs.inside.Leaves.{leaf_brought, leaf_by}
use Rattle.orc_modules.proofs.leaves.+leaf_brought.Given as goal

abbrev pub decreases-leaf_brought : goal.decreases-leaf_brought
decreases-leaf_brought l = l.depth

abbrev pub invariant-loop-stmt : goal.invariant-loop-stmt
invariant-loop-stmt l = leaf_brought l.fn.depth (modules_of l.fn.modules) (stack l.fn.at.above.now) l.fn.name l.fn.block
    ≡ leaf_by (λ g. leaf_brought (l.fn.depth - 1) (modules_of l.fn.modules) (g.here ∷ g.above) l.fn.name (subs g.here)) (modules_of l.fn.modules) (stack l.fn.at.above.now) l.fn.name (drop l.stmt-index l.fn.block)
