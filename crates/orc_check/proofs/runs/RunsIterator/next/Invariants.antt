use Rattle.std.proofs.Common.{◌≡◌, ◌++◌, length, map}
use Rattle.orc_tree.specs.Pages.{page_rows, pages_of}
use Rattle.orc_check.proofs.runs.RunsIterator.next.Given as goal

-- the runs to come stay as they were
abbrev pub invariant-loop-self : goal.invariant-loop-self
invariant-loop-self l = map page_rows (l.self-inside.pages.now ++ pages_of l.self-inside.chapters.now) ≡ l.fn.self

abbrev pub decreases-loop-self : goal.decreases-loop-self
decreases-loop-self l = length l.self-inside.chapters.now
