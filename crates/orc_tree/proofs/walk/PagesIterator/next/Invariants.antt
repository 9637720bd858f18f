use Rattle.std.proofs.Common.{◌≡◌, ◌++◌, length}
use Rattle.orc_tree.specs.Pages.{pages_of}
use Rattle.orc_tree.proofs.walk.PagesIterator.next.Given as goal

-- the pages to come stay as they were
abbrev pub invariant-loop-self : goal.invariant-loop-self
invariant-loop-self l = l.self-inside.pages.now ++ pages_of l.self-inside.chapters.now ≡ l.fn.self

abbrev pub decreases-loop-self : goal.decreases-loop-self
decreases-loop-self l = length l.self-inside.chapters.now
