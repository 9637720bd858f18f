use Rattle.std.proofs.Common.{◌≡◌, ◌+◌, suc, true, drop, ap, sym, subst, ◌∙◌, arith}
use Rattle.std.specs.FinMap.{is_sorted}
use Rattle.std.proofs.lemmas.List.{take_rest}
use Rattle.orc_path.specs.Order.{path_cmp}
use Rattle.orc_tree.specs.Pages.{rows_of, chapter_pages, AreSized, chapter_rows, chapters_rows}
use Rattle.orc_tree.specs.inside.Places.{IsLaid, IsRestFor}
use Rattle.orc_tree.proofs.Maps.{Rows}
use Rattle.orc_tree.proofs.Paged.{Pages, sorted_part}
use Rattle.orc_tree.proofs.Chaptered.{Chapters}
use Rattle.orc_tree.proofs.Rest.{rest_in_part}
use Rattle.orc_tree.proofs.lists.rows_from.Goals as goal

pub pages_from-requires : goal.pages_from-requires
pages_from-requires c =
    let chapters = c.args.chapters.now in
    let at = c.chapter_for-at.result in
    let chapter = c.index-chapters-at.result in
    let pages_are : c.as_slice-pages.result.now ≡ chapter_pages chapter = c.as_slice-pages.ensures ∙ ap (λ x. x.pages) c.deref.ensures in
    record {
      sorted = subst (λ (ps : Pages). is_sorted path_cmp (rows_of ps) ≡ true) (sym pages_are)
          (sorted_part chapter_rows chapters at chapter c.requires.sorted c.chapter_for-at.ensures.within c.index-chapters-at.is);
      sized = subst AreSized (sym pages_are) (subst IsLaid (sym c.index-chapters-at.is) (c.requires.laid at chapter c.chapter_for-at.ensures.within)).0;
    }

pub returns : goal.returns
returns c =
    let chapters = c.args.chapters.now in
    let at = c.chapter_for-at.result in
    let chapter = c.index-chapters-at.result in
    let q = c.args.steps.now in
    let pages_are : c.as_slice-pages.result.now ≡ chapter_pages chapter = c.as_slice-pages.ensures ∙ ap (λ x. x.pages) c.deref.ensures in
    let next : at + 1 ≡ suc at = omega arith in
    subst (λ (r : Rows). IsRestFor q (chapters_rows chapters) r) (sym c.behind.ensures)
    (rest_in_part chapter_rows q chapters at chapter (rows_of c.pages_from.result.now) _ c.chapter_for-at.ensures c.index-chapters-at.is
    (subst (λ (ps : Pages). IsRestFor q (rows_of ps) (rows_of c.pages_from.result.now)) pages_are c.pages_from.ensures)
    (ap (λ (cs : Chapters). chapters_rows cs) (take_rest chapters (at + 1)) ∙ ap (λ n. chapters_rows (drop n chapters)) next))
