use Rattle.std.proofs.Common.{◌≡◌, ◌+◌, ap, sym, subst, ◌∙◌, arith}
use Rattle.orc_tree.specs.Pages.{rows_of, page_rows, chapter_rows, AreSized}
use Rattle.orc_tree.specs.inside.Places.{starts_behind}
use Rattle.orc_tree.proofs.Paged.{Pages}
use Rattle.orc_tree.proofs.Chaptered.{IsLaid-at}
use Rattle.orc_tree.proofs.Fingers.{behind_chapter, behind_none, behind_page}
use Rattle.orc_tree.proofs.finger.are_behind.Goals as goal

pub returns-then-finger-pages : goal.returns-then-finger-pages
returns-then-finger-pages c ends =
    let q = c.args.steps.now in
    let rows_are : c.as_slice.result.now ≡ page_rows c.index-pages-finger.result = c.as_slice.ensures ∙ ap (λ p. p.rows) c.deref.ensures in
    behind_page q c.args.chapters.now c.args.finger.chapter c.args.finger.page c.args.pages.now c.requires.sorted c.requires.chapter c.requires.pages
    c.index-pages-finger.result (omega arith) c.index-pages-finger.is (ap (starts_behind q) (sym rows_are) ∙ sym c.starts_behind.ensures ∙ ends)

pub first_behind-requires : goal.first_behind-requires
first_behind-requires c =
    subst AreSized (sym (c.as_slice-then-finger-chapters.ensures ∙ ap (λ x. x.pages) c.deref-then-finger-chapters.ensures))
    (IsLaid-at c.args.chapters.now (c.args.finger.chapter + 1) c.index-chapters-finger.result c.requires.laid (omega arith) c.index-chapters-finger.is).0

pub returns-then-finger-chapters : goal.returns-then-finger-chapters
returns-then-finger-chapters c ends =
    let q = c.args.steps.now in
    let rows_are : rows_of c.as_slice-then-finger-chapters.result.now ≡ chapter_rows c.index-chapters-finger.result = ap (λ (ps : Pages). rows_of ps) (c.as_slice-then-finger-chapters.ensures ∙ ap (λ x. x.pages) c.deref-then-finger-chapters.ensures) in
    behind_chapter q c.args.chapters.now c.args.finger.chapter c.args.finger.page c.args.pages.now c.requires.sorted c.requires.chapter c.requires.pages
    c.index-chapters-finger.result (omega arith) (omega arith) c.index-chapters-finger.is (ap (starts_behind q) (sym rows_are) ∙ sym c.first_behind.ensures ∙ ends)

pub returns : goal.returns
returns c _ =
    behind_none c.args.steps.now c.args.chapters.now c.args.finger.chapter c.args.finger.page c.args.pages.now c.requires.sorted c.requires.chapter c.requires.pages (omega arith) (omega arith)
