-- Each call goes one less deep, and what is left of the block decides.
use Rattle.std.proofs.Common.{◌≡◌, ◌-◌}
use Rattle.std.specs.Prelude.{drop}
use Rattle.std.specs.List.{list_any}
use Rattle.orc_types.specs.Statements.{subs}
use Rattle.orc_modules.specs.Stack.{stack}
use Rattle.orc_modules.specs.Children.{block_part}
use Rattle.orc_statements.specs.Gaps.{is_incomplete, gap_at}
use Rattle.orc_statements.proofs.gaps.+is_incomplete_at.Given as goal

abbrev pub decreases-is_incomplete_at : goal.decreases-is_incomplete_at
decreases-is_incomplete_at l = l.depth

abbrev pub invariant-loop-sub : goal.invariant-loop-sub
invariant-loop-sub l = is_incomplete l.fn.depth l.fn.modules.all.now (stack l.fn.at.above.now) l.fn.stmt
    ≡ list_any (λ t. gap_at (is_incomplete (l.fn.depth - 1) l.fn.modules.all.now) l.fn.modules.all.now (stack l.fn.at.above.now) t (block_part t)) (drop l.sub-index (subs l.fn.stmt))
