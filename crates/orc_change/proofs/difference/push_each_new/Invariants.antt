use Rattle.std.proofs.Common.{◌≡◌, ◌++◌, drop}
use Rattle.orc_change.specs.Differences.{new_puts}
use Rattle.orc_change.proofs.difference.push_each_new.Given as goal

-- what is added so far, and what is left to add
abbrev pub invariant-loop-row : goal.invariant-loop-row
invariant-loop-row l = l.changes ++ new_puts (drop l.row-index l.rows) l.from ≡ l.fn.changes ++ new_puts l.rows l.from
