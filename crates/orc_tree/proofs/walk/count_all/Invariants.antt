use Rattle.std.proofs.Common.{◌≡◌, length, take}
use Rattle.orc_text.specs.Counts.{capped}
use Rattle.orc_tree.specs.Pages.{chapters_rows}
use Rattle.orc_tree.proofs.walk.count_all.Given as goal

abbrev pub invariant-loop-chapter : goal.invariant-loop-chapter
invariant-loop-chapter l = l.count ≡ capped (length (chapters_rows (take l.chapter-index l.chapters)))
