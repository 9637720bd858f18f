-- Each call goes one less deep, and what is left of the block is still to come.
use Rattle.std.proofs.Common.{◌≡◌, ◌-◌, ◌++◌, ◌∷◌}
use Rattle.std.specs.Prelude.{drop}
use Rattle.orc_types.specs.Statements.{subs}
use Rattle.orc_modules.specs.Children.{brought, children_by, child_names}
use Rattle.orc_modules.specs.Stack.{stack}
use Rattle.orc_modules.proofs.names.+push_brought.Given as goal

abbrev pub decreases-push_brought : goal.decreases-push_brought
decreases-push_brought l = l.depth

abbrev pub invariant-loop-stmt : goal.invariant-loop-stmt
invariant-loop-stmt l = l.fn.out ++ child_names (brought l.fn.depth l.fn.modules.all.now (stack l.fn.at.above.now) l.fn.block)
    ≡ l.out ++ child_names (children_by (λ g. brought (l.fn.depth - 1) l.fn.modules.all.now (g.here ∷ g.above) (subs g.here)) l.fn.modules.all.now (stack l.fn.at.above.now) (drop l.stmt-index l.fn.block))
