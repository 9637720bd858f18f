use Rattle.std.proofs.Common.{◌≡◌, ◌≤◌, length, ap, sym, subst, ◌∙◌, true}
use Rattle.std.specs.declared.alloc.Global.{Global}
use Rattle.std.specs.declared.sync.Arc.{Arc}
use Rattle.std.specs.FinMap.{is_sorted}
use Rattle.std.proofs.lemmas.List.{get_or_read}
use Rattle.orc_path.specs.Order.{path_cmp}
use Rattle.orc_tree.specs.declared.chapter.Chapter.{Chapter}
use Rattle.orc_tree.specs.Pages.{rows_of, chapter_pages, AreSized, chapter_rows}
use Rattle.orc_tree.specs.inside.Places.{IsLaid, IsPageFor}
use Rattle.orc_tree.proofs.Paged.{Pages, sorted_part}
use Rattle.orc_tree.proofs.Chaptered.{IsLaid-at, some_page}
use Rattle.orc_tree.proofs.finger.place_for.Goals as goal

pub page_for-page-requires : goal.page_for-page-requires
page_for-page-requires c =
    let chapter = c.index-chapters-chapter.result in
    let laid : IsLaid chapter = IsLaid-at c.args.chapters.now c.chapter_for-chapter.result chapter c.requires.laid c.chapter_for-chapter.ensures.within c.index-chapters-chapter.is in
    let pages_are : c.as_slice.result.now ≡ chapter_pages chapter = c.as_slice.ensures ∙ ap (λ x. x.pages) c.deref.ensures in
    record {
      sorted = subst (λ (ps : Pages). is_sorted path_cmp (rows_of ps) ≡ true) (sym pages_are)
          (sorted_part chapter_rows c.args.chapters.now c.chapter_for-chapter.result chapter c.requires.sorted c.chapter_for-chapter.ensures.within c.index-chapters-chapter.is);
      sized = subst AreSized (sym pages_are) laid.0;
      some = subst (λ (ps : Pages). 1 ≤ length ps) (sym pages_are) (some_page (chapter_pages chapter) laid.1);
    }

pub returns : goal.returns
returns c =
    let chapter = c.index-chapters-chapter.result in
    let pages_are : c.as_slice.result.now ≡ chapter_pages chapter = c.as_slice.ensures ∙ ap (λ x. x.pages) c.deref.ensures in
    record {
      among = c.chapter_for-chapter.ensures;
      inside = λ d. subst (λ (it : Arc Chapter Global). IsPageFor c.args.steps.now (chapter_pages it) c.page_for-page.result)
          (get_or_read c.args.chapters.now c.chapter_for-chapter.result chapter c.chapter_for-chapter.ensures.within c.index-chapters-chapter.is d)
          (subst (λ (ps : Pages). IsPageFor c.args.steps.now ps c.page_for-page.result) pages_are c.page_for-page.ensures);
    }
