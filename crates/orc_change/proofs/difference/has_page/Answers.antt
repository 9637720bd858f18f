use Rattle.std.proofs.Common.{◌≡◌, sym, ap, subst, ◌∙◌, arith}
use Rattle.orc_tree.specs.Pages.{page_rows, rows_of, chapter_pages, chapter_rows, chapters_rows}
use Rattle.orc_tree.proofs.Paged.{Pages}
use Rattle.orc_tree.proofs.Chaptered.{chapters_rows-pages}
use Rattle.orc_change.specs.inside.Held.{AreHeld}
use Rattle.orc_change.proofs.Exact.{entries_are}
use Rattle.orc_change.proofs.Walked.{part_held}
use Rattle.orc_change.proofs.difference.has_page.Goals as goal

pub returns : goal.returns
returns c =
    let m = c.args.tree.now in
    let chapters = c.chapters-chapters.result.now in
    let chapter = c.index-chapters-at.result in
    let pages = c.as_slice-pages.result.now in
    let page = c.index-pages-at.result in
    let pages_are : pages ≡ chapter_pages chapter = c.as_slice-pages.ensures ∙ ap (λ x. x.pages) c.deref.ensures in
    let rows_are : c.as_slice.result.now ≡ page_rows page = c.as_slice.ensures ∙ ap (λ p. p.rows) c.deref-2.ensures in
    let whole : AreHeld m (chapters_rows chapters) = subst (AreHeld m) (sym (sym (chapters_rows-pages chapters) ∙ c.chapters-chapters.ensures.rows)) (entries_are m) in
    let held : AreHeld m (rows_of pages) = subst (λ (ps : Pages). AreHeld m (rows_of ps)) (sym pages_are) (part_held chapter_rows m chapters c.args.at.chapter chapter whole (omega arith) c.index-chapters-at.is) in
    λ same. subst (AreHeld m) (sym rows_are ∙ c.same_rows.ensures same) (part_held page_rows m pages c.args.at.page page held (omega arith) c.index-pages-at.is)
