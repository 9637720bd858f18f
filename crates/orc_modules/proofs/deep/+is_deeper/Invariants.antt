-- Each call goes one less deep, and what is left of the block decides.
use Rattle.std.proofs.Common.{◌≡◌, ◌-◌}
use Rattle.std.specs.Prelude.{drop}
use Rattle.std.specs.List.{list_any}
use Rattle.orc_types.specs.Statements.{subs}
use Rattle.orc_modules.specs.Children.{is_deeper, deeper_at, block_part}
use Rattle.orc_modules.specs.Stack.{stack}
use Rattle.orc_modules.proofs.deep.+is_deeper.Given as goal

abbrev pub decreases-is_deeper : goal.decreases-is_deeper
decreases-is_deeper l = l.depth

abbrev pub invariant-loop-sub : goal.invariant-loop-sub
invariant-loop-sub l = is_deeper l.fn.depth l.fn.modules.all.now (stack l.fn.at.above.now) l.fn.stmt
    ≡ list_any (λ t. deeper_at (is_deeper (l.fn.depth - 1) l.fn.modules.all.now) l.fn.modules.all.now (stack l.fn.at.above.now) t (block_part t)) (drop l.sub-index (subs l.fn.stmt))
