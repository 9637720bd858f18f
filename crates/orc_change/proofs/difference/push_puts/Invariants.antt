use Rattle.std.proofs.Common.{◌≡◌, ◌++◌, drop}
use Rattle.orc_tree.specs.Pages.{chapters_rows}
use Rattle.orc_change.specs.Differences.{new_puts}
use Rattle.orc_change.proofs.difference.push_puts.Given as goal

-- what is added so far, and what is left to add
abbrev pub invariant-loop-chapter : goal.invariant-loop-chapter
invariant-loop-chapter l = l.changes ++ new_puts (chapters_rows (drop l.chapter-index l.chapters)) l.from ≡ l.fn.changes ++ new_puts (chapters_rows l.chapters) l.from
