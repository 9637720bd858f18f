-- The sum so far.
use Rattle.std.proofs.Common.{◌≡◌, take}
use Rattle.std.specs.List.{sum_by}
use Rattle.orc_modules.specs.Statements.{leaders}
use Rattle.orc_modules.proofs.most.+leaders.Given as goal

abbrev pub invariant-loop-sub : goal.invariant-loop-sub
invariant-loop-sub l = l.below ≡ sum_by leaders (take l.sub-index l.sub-items)
