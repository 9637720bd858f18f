use Rattle.std.proofs.Common.{◌≡◌, take}
use Rattle.orc_tree.specs.Pages.{rows_of, AreSized, chapters_rows}
use Rattle.orc_tree.proofs.layout.share_run.Given as goal

abbrev pub invariant-loop-chapter : goal.invariant-loop-chapter
invariant-loop-chapter l = record {
  rows : rows_of l.shared.items ≡ chapters_rows (take l.chapter-index l.chapters);
  sized : AreSized l.shared.items;
}
