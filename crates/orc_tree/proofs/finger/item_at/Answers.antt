use Rattle.std.proofs.Common.{◌≡◌, true, ap, sym, subst, ◌∙◌}
use Rattle.std.specs.FinMap.{find, is_sorted}
use Rattle.std.specs.declared.alloc.Global.{Global}
use Rattle.std.specs.declared.sync.Arc.{Arc}
use Rattle.orc_path.specs.Order.{path_cmp}
use Rattle.orc_tree.specs.declared.chapter.Chapter.{Chapter}
use Rattle.orc_tree.specs.Pages.{rows_of, chapter_pages, chapter_rows}
use Rattle.orc_tree.specs.inside.Places.{IsPageFor}
use Rattle.orc_tree.proofs.Paged.{Pages, sorted_part, find_in_part}
use Rattle.orc_tree.proofs.finger.item_at.Goals as goal

pub item_on-requires : goal.item_on-requires
item_on-requires c =
    let chapter = c.index-chapters-place.result in
    let pages_are : c.as_slice.result.now ≡ chapter_pages chapter = c.as_slice.ensures ∙ ap (λ x. x.pages) c.deref.ensures in
    record {
      sorted = subst (λ (ps : Pages). is_sorted path_cmp (rows_of ps) ≡ true) (sym pages_are)
          (sorted_part chapter_rows c.args.chapters.now c.args.place.chapter chapter c.requires.sorted c.requires.place.among.within c.index-chapters-place.is);
      page = subst (λ (ps : Pages). IsPageFor c.args.steps.now ps c.args.place.page) (sym pages_are)
          (subst (λ (it : Arc Chapter Global). IsPageFor c.args.steps.now (chapter_pages it) c.args.place.page) (sym c.index-chapters-place.is) (c.requires.place.inside chapter));
    }

pub returns : goal.returns
returns c =
    c.item_on.ensures ∙ ap (λ (ps : Pages). find path_cmp c.args.steps.now (rows_of ps)) (c.as_slice.ensures ∙ ap (λ x. x.pages) c.deref.ensures)
    ∙ sym (find_in_part chapter_rows c.args.steps.now c.args.chapters.now c.args.place.chapter c.index-chapters-place.result c.requires.place.among c.index-chapters-place.is)
