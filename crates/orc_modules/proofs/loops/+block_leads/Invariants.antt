-- Each call goes one less deep, and what is left of the block decides.
use Rattle.std.proofs.Common.{◌≡◌, ◌-◌}
use Rattle.std.specs.Prelude.{drop}
use Rattle.std.specs.List.{list_any}
use Rattle.orc_types.specs.Statements.{subs}
use Rattle.orc_modules.specs.Children.{block_part}
use Rattle.orc_modules.specs.Loops.{block_leads, part_leads}
use Rattle.orc_modules.specs.Stack.{stack, found}
use Rattle.orc_modules.proofs.loops.+block_leads.Given as goal

abbrev pub decreases-block_leads : goal.decreases-block_leads
decreases-block_leads l = l.depth

abbrev pub invariant-loop-sub : goal.invariant-loop-sub
invariant-loop-sub l = block_leads l.fn.depth l.fn.modules.all.now (found l.fn.goal) (stack l.fn.at.above.now) l.fn.stmt
    ≡ list_any (λ t. part_leads (block_leads (l.fn.depth - 1) l.fn.modules.all.now (found l.fn.goal)) l.fn.modules.all.now (found l.fn.goal) (stack l.fn.at.above.now) t (block_part t)) (drop l.sub-index (subs l.fn.stmt))
