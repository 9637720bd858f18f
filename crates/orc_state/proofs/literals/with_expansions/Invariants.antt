use Rattle.std.proofs.Common.{◌≡◌, ◌++◌, drop}
use Rattle.orc_plans.specs.Plans.{with_expansions}
use Rattle.orc_state.proofs.literals.with_expansions.Given as goal

-- those so far, and those of the actions that are left
abbrev pub invariant-loop-action : goal.invariant-loop-action
invariant-loop-action l =
    l.made ++ with_expansions l.names (drop l.action-index l.actions) l.left ≡ with_expansions l.names l.actions l.expansions
