use Rattle.std.proofs.Common.{◌≡◌, ◌++◌, ap, ◌∙◌}
use Rattle.orc_tree.specs.Pages.{rows_of, chapter_pages, chapter_rows}
use Rattle.orc_tree.proofs.Maps.{Rows}
use Rattle.orc_tree.proofs.Paged.{Pages}
use Rattle.orc_change.specs.Differences.{removals}
use Rattle.orc_change.proofs.Exact.{removals-append}
use Rattle.orc_change.proofs.Walked.{part_more}
use Rattle.orc_change.proofs.difference.push_removals.Goals as goal

pub loop-chapter-preserved : goal.loop-chapter-preserved
loop-chapter-preserved c =
    let other = c.args.to.now in
    let chapter = c.chapter-item.result in
    let pages_are : c.as_slice.result.now ≡ chapter_pages chapter = c.as_slice.ensures ∙ ap (λ x. x.pages) c.deref.ensures in
    part_more chapter_rows (λ (rows : Rows). removals rows other) (removals-append other) c.args.chapters.now c.loop-chapter.chapter-index chapter c.loop-chapter.changes _ _ c.loop-chapter-test.true c.chapter-item.is
    (c.in_ok-at.ensures ∙ ap (λ (ps : Pages). c.loop-chapter.changes ++ removals (rows_of ps) other) pages_are) c.loop-chapter.invariant
