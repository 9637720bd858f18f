use Rattle.std.proofs.Common.{◌≡◌, ◌++◌, ◌≤◌, length, take, drop, ap, sym, subst, ◌∙◌, arith}
use Rattle.std.specs.List.{slice_range}
use Rattle.std.specs.FinMap.{is_sorted}
use Rattle.std.proofs.lemmas.Result.{on_ok_weaker}
use Rattle.orc_path.specs.Order.{path_cmp}
use Rattle.orc_tree.specs.Pages.{page_rows, rows_of, AreSized, chapter_rows, chapters_rows}
use Rattle.orc_tree.specs.inside.Removal.{kept_of}
use Rattle.orc_tree.proofs.Maps.{Rows}
use Rattle.orc_tree.proofs.Paged.{Pages, IsPartFor-like}
use Rattle.orc_tree.proofs.Chaptered.{Chapters, some_page, some_in_span}
use Rattle.orc_tree.proofs.Removing.{kept_span, sorted_span}
use Rattle.orc_tree.proofs.chapter_removal.remove_run.Goals as goal

pub page_for-page-requires : goal.page_for-page-requires
page_for-page-requires c =
    let chapters = c.args.chapters.now.items in
    let span = slice_range chapters c.args.at c.args.end in
    let rows_are : rows_of c.in_ok-pages.pages.items ≡ chapters_rows span =
    c.in_ok-pages.ensures.rows ∙ ap (λ (cs : Chapters). chapters_rows (slice_range cs c.args.at c.args.end)) c.deref.ensures.value in
    let pages_are : c.as_slice.result.now ≡ c.in_ok-pages.pages.items = c.as_slice.ensures.value in
    let order : c.args.at ≤ c.args.end = omega (arith, c.requires.order) in
    record {
      sorted = ap (λ (ps : Pages). is_sorted path_cmp (rows_of ps)) pages_are ∙ ap (is_sorted path_cmp) rows_are
          ∙ sorted_span chapter_rows chapters c.args.at c.args.end order c.requires.sorted;
      sized = subst AreSized (sym pages_are) c.in_ok-pages.ensures.sized;
      some = some_page c.as_slice.result.now
          (subst (λ (r : Rows). 1 ≤ length r) (sym (ap (λ (ps : Pages). rows_of ps) pages_are ∙ rows_are))
          (some_in_span chapters c.args.at c.args.end c.requires.laid c.requires.order c.requires.place.among.within));
    }

pub remove-requires : goal.remove-requires
remove-requires c =
    let chapters = c.args.chapters.now.items in
    let rows_are : rows_of c.in_ok-pages.pages.items ≡ chapters_rows (slice_range chapters c.args.at c.args.end) =
    c.in_ok-pages.ensures.rows ∙ ap (λ (cs : Chapters). chapters_rows (slice_range cs c.args.at c.args.end)) c.deref.ensures.value in
    record {
      page = IsPartFor-like page_rows _ _ _ _ c.page_for-page.result (c.as_slice-2.ensures ∙ c.path.view_is) c.as_slice.ensures.value c.page_for-page.ensures;
      sorted = ap (is_sorted path_cmp) rows_are ∙ sorted_span chapter_rows chapters c.args.at c.args.end (omega (arith, c.requires.order)) c.requires.sorted;
      sized = c.in_ok-pages.ensures.sized;
    }

pub returns-clause-ok : goal.returns-clause-ok
returns-clause-ok c =
    let chapters = c.args.chapters.now.items in
    let at = c.args.at in
    let end = c.args.end in
    let p = c.args.path.now in
    let rows_are : rows_of c.in_ok-pages.pages.items ≡ chapters_rows (slice_range chapters at end) =
    c.in_ok-pages.ensures.rows ∙ ap (λ (cs : Chapters). chapters_rows (slice_range cs at end)) c.deref.ensures.value in
    on_ok_weaker c.replace_chapters.result
    (λ put_in. put_in
    ∙ ap (λ (r : Rows). chapters_rows (take at chapters) ++ (r ++ chapters_rows (drop end chapters))) (c.in_ok-remove.ensures.ok ∙ ap (kept_of p) rows_are)
    ∙ sym (kept_span chapter_rows p chapters at end c.requires.place.among.before c.requires.kept (omega (arith, c.requires.order))))
    c.replace_chapters.ensures.ok
