use Rattle.std.proofs.Common.{◌≡◌, ◌++◌, length}
use Rattle.orc_tree.specs.Pages.{rows_of, AreSized}
use Rattle.orc_tree.proofs.insertion.pages_of.Given as goal

-- the pages' rows and the rest are all rows
abbrev pub invariant-loop-rest : goal.invariant-loop-rest
invariant-loop-rest l = record {
  rows : rows_of l.pages.items ++ l.rest.items ≡ l.fn.rows.items;
  sized : AreSized l.pages.items;
}

abbrev pub decreases-loop-rest : goal.decreases-loop-rest
decreases-loop-rest l = length l.rest.items
