use Rattle.std.proofs.Common.{◌≡◌, ◌++◌, length}
use Rattle.orc_tree.specs.Pages.{rows_of}
use Rattle.orc_tree.proofs.walk.RowsIterator.next.Given as goal

-- the rows to come stay as they were
abbrev pub invariant-loop-self : goal.invariant-loop-self
invariant-loop-self l = l.self-inside.page.now ++ rows_of l.self-inside.pages ≡ l.fn.self

abbrev pub decreases-loop-self : goal.decreases-loop-self
decreases-loop-self l = length l.self-inside.pages
