use Rattle.std.proofs.Common.{◌≡◌, ◌++◌, drop}
use Rattle.orc_change.specs.Differences.{removals}
use Rattle.orc_change.proofs.difference.push_each_absent.Given as goal

-- what is added so far, and what is left to add
abbrev pub invariant-loop-row : goal.invariant-loop-row
invariant-loop-row l = l.changes ++ removals (drop l.row-index l.rows) l.to ≡ l.fn.changes ++ removals l.rows l.to
