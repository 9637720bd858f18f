use Rattle.std.proofs.Common.{◌≡◌, take}
use Rattle.orc_tree.specs.Pages.{chapters_rows}
use Rattle.orc_tree.specs.inside.Places.{AreLaid}
use Rattle.orc_tree.proofs.chapter.share_chapters.Given as goal

abbrev pub invariant-loop-chapter : goal.invariant-loop-chapter
invariant-loop-chapter l = record {
  rows : chapters_rows l.shared.items ≡ chapters_rows (take l.chapter-index l.chapters);
  laid : AreLaid l.shared.items;
}
