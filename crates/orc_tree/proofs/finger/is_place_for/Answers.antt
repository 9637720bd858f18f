use Rattle.std.proofs.Common.{◌≡◌, ap, sym, ◌∙◌, arith}
use Rattle.std.proofs.lemmas.List.{get_or_read}
use Rattle.orc_tree.specs.Pages.{chapter_pages, page_rows}
use Rattle.orc_tree.specs.inside.Places.{starts_behind}
use Rattle.orc_tree.proofs.Fingers.{place_here}
use Rattle.orc_tree.proofs.finger.is_place_for.Goals as goal

pub are_behind-requires-clause-pages : goal.are_behind-requires-clause-pages
are_behind-requires-clause-pages c d =
    let chapter = c.index-chapters-finger.result in
    ap chapter_pages (sym (get_or_read c.args.chapters.now c.args.finger.chapter chapter (omega arith) c.index-chapters-finger.is d)) ∙ sym (c.as_slice-pages.ensures ∙ ap (λ x. x.pages) c.deref.ensures)

pub returns : goal.returns
returns c are =
    let q = c.args.steps.now in
    let rows_are : c.as_slice.result.now ≡ page_rows c.index-pages-finger.result = c.as_slice.ensures ∙ ap (λ p. p.rows) c.deref-2.ensures in
    place_here q c.args.chapters.now c.args.finger.chapter c.args.finger.page c.as_slice-pages.result.now c.requires.sorted (omega arith) (λ d. ap chapter_pages (sym (get_or_read c.args.chapters.now c.args.finger.chapter c.index-chapters-finger.result (omega arith) c.index-chapters-finger.is d)) ∙ sym (c.as_slice-pages.ensures ∙ ap (λ x. x.pages) c.deref.ensures))
    c.index-pages-finger.result c.requires.laid (omega arith) c.index-pages-finger.is
    (ap (starts_behind q) (sym rows_are) ∙ sym c.starts_behind.ensures ∙ c.if-starts_behind.false) (c.are_behind.ensures are)
