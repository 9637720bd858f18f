use Rattle.std.proofs.Common.{◌≡◌, ◌++◌, drop}
use Rattle.orc_tree.specs.Pages.{rows_of}
use Rattle.orc_change.specs.Differences.{new_puts}
use Rattle.orc_change.proofs.difference.push_puts_of.Given as goal

-- what is added so far, and what is left to add
abbrev pub invariant-loop-page : goal.invariant-loop-page
invariant-loop-page l = l.changes ++ new_puts (rows_of (drop l.page-index l.pages)) l.from ≡ l.fn.changes ++ new_puts (rows_of l.pages) l.from
