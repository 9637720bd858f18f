-- The sum so far.
use Rattle.std.proofs.Common.{◌≡◌, take}
use Rattle.std.specs.List.{sum_by}
use Rattle.orc_modules.specs.Statements.{leaders}
use Rattle.orc_modules.proofs.most.all_leaders.Given as goal

abbrev pub invariant-loop-stmt : goal.invariant-loop-stmt
invariant-loop-stmt l = l.count ≡ sum_by leaders (take l.stmt-index l.fn.modules)
