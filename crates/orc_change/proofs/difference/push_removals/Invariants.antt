use Rattle.std.proofs.Common.{◌≡◌, ◌++◌, drop}
use Rattle.orc_tree.specs.Pages.{chapters_rows}
use Rattle.orc_change.specs.Differences.{removals}
use Rattle.orc_change.proofs.difference.push_removals.Given as goal

-- what is added so far, and what is left to add
abbrev pub invariant-loop-chapter : goal.invariant-loop-chapter
invariant-loop-chapter l = l.changes ++ removals (chapters_rows (drop l.chapter-index l.chapters)) l.to ≡ l.fn.changes ++ removals (chapters_rows l.chapters) l.to
