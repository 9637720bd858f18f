-- Each call goes one less deep, and what is left of the block is still to come.
use Rattle.std.proofs.Common.{◌≡◌, ◌-◌, ◌+◌, ◌*◌, ◌++◌}
use Rattle.std.specs.Prelude.{drop}
use Rattle.orc_types.specs.Statements.{subs}
use Rattle.orc_modules.specs.Stack.{modules_of}
use Rattle.orc_schema.specs.Drafts.{drafts_in, drafts_below}
use Rattle.orc_schema.specs.inside.Carried.{where_of}
use Rattle.orc_schema.proofs.drafting.+drafts.Given as goal

abbrev pub decreases-push_drafts : goal.decreases-push_drafts
decreases-push_drafts l = 2 * l.depth

abbrev pub decreases-push_uses : goal.decreases-push_uses
decreases-push_uses l = 2 * l.depth + 1

abbrev pub invariant-push_drafts-loop-sub : goal.invariant-push_drafts-loop-sub
invariant-push_drafts-loop-sub l = l.fn.out ++ drafts_below l.fn.depth (modules_of l.fn.modules) (where_of l.fn.at) l.fn.stmt
    ≡ l.out ++ drafts_in (modules_of l.fn.modules) (drafts_below (l.fn.depth - 1) (modules_of l.fn.modules)) (where_of l.fn.at) (drop l.sub-index (subs l.fn.stmt))
