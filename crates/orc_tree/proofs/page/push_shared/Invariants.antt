use Rattle.std.proofs.Common.{◌≡◌, ◌++◌, map, take}
use Rattle.orc_tree.specs.Pages.{page_rows, rows_of, AreSized}
use Rattle.orc_tree.proofs.page.push_shared.Given as goal

abbrev pub invariant-loop-page : goal.invariant-loop-page
invariant-loop-page l = record {
  rows : rows_of l.out.items ≡ rows_of l.fn.out.items ++ rows_of (take l.page-index l.pages);
  each : map page_rows l.out.items ≡ map page_rows l.fn.out.items ++ map page_rows (take l.page-index l.pages);
  sized : AreSized l.out.items;
}
