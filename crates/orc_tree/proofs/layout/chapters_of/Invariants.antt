use Rattle.std.proofs.Common.{◌≡◌, ◌++◌, length}
use Rattle.orc_tree.specs.Pages.{rows_of, AreSized, chapters_rows}
use Rattle.orc_tree.specs.inside.Places.{AreLaid}
use Rattle.orc_tree.proofs.layout.chapters_of.Given as goal

-- the chapters' rows and those of the rest are all rows
abbrev pub invariant-loop-rest : goal.invariant-loop-rest
invariant-loop-rest l = record {
  rows : chapters_rows l.chapters.items ++ rows_of l.rest.items ≡ rows_of l.fn.pages.items;
  laid : AreLaid l.chapters.items;
  sized : AreSized l.rest.items;
}

abbrev pub decreases-loop-rest : goal.decreases-loop-rest
decreases-loop-rest l = length l.rest.items
