use Rattle.std.proofs.Common.{sym, subst, ◌∙◌}
use Rattle.std.proofs.lemmas.Result.{on_ok_weaker, on_err_weaker}
use Rattle.std.proofs.lemmas.List.Elements.{All-set}
use Rattle.std.specs.declared.alloc.Global.{Global}
use Rattle.std.specs.declared.sync.Arc.{Arc}
use Rattle.orc_tree.specs.declared.chapter.Chapter.{Chapter}
use Rattle.orc_tree.specs.Pages.{chapter_pages, chapter_rows}
use Rattle.orc_tree.specs.inside.Places.{IsLaid, IsPageFor}
use Rattle.orc_tree.specs.inside.Puts.{put_entries}
use Rattle.orc_tree.proofs.Paged.{sorted_part, rows_of-at, rows_of-changed}
use Rattle.orc_tree.proofs.Gaps.{put_all_in_part, gaps_in_part, some_after}
use Rattle.orc_tree.proofs.chapter_insertion.put_at.Goals as goal

pub put_into-requires : goal.put_into-requires
put_into-requires c =
    let chapters = c.args.chapters.now.items in
    let at = c.args.at in
    let chapter = c.index_mut.result.now in
    let within = c.requires.place.among.within in
    let laid : IsLaid chapter = subst IsLaid (sym c.index_mut.ensures.value) (c.requires.laid at chapter within) in
    record {
      page = subst (λ (it : Arc Chapter Global). IsPageFor c.args.path (chapter_pages it) c.args.page) (sym c.index_mut.ensures.value) (c.requires.place.inside chapter);
      sorted = sorted_part chapter_rows chapters at chapter c.requires.sorted within c.index_mut.ensures.value;
      sized = laid.0;
      gaps = gaps_in_part chapter_rows c.args.path c.args.missing.items chapters at chapter within c.index_mut.ensures.value c.requires.gaps;
    }

pub returns-clause-ok : goal.returns-clause-ok
returns-clause-ok c =
    let chapters = c.args.chapters.now.items in
    let at = c.args.at in
    on_ok_weaker c.put_into.result
    (λ is. rows_of-changed chapter_rows chapters at c.put_into.new.chapter _ c.requires.place.among.within is
    ∙ sym (put_all_in_part chapter_rows c.args.path c.args.item c.args.missing.items chapters at c.index_mut.result.now c.requires.place.among c.index_mut.ensures.value c.requires.gaps))
    c.put_into.ensures.ok

pub returns-clause-err : goal.returns-clause-err
returns-clause-err c =
    let chapters = c.args.chapters.now.items in
    let at = c.args.at in
    on_err_weaker c.put_into.result
    (λ is. rows_of-changed chapter_rows chapters at c.put_into.new.chapter _ c.requires.place.among.within is
    ∙ sym (rows_of-at chapter_rows chapters at c.index_mut.result.now c.requires.place.among.within c.index_mut.ensures.value))
    c.put_into.ensures.err

pub returns-clause-laid : goal.returns-clause-laid
returns-clause-laid c =
    let chapters = c.args.chapters.now.items in
    let at = c.args.at in
    let chapter = c.index_mut.result.now in
    let laid : IsLaid chapter = subst IsLaid (sym c.index_mut.ensures.value) (c.requires.laid at chapter c.requires.place.among.within) in
    All-set IsLaid chapters at c.put_into.new.chapter
    (c.put_into.ensures.sized, some_after c.put_into.result c.args.path c.args.item (put_entries c.args.missing.items (chapter_rows chapter)) (chapter_rows chapter) (chapter_rows c.put_into.new.chapter) c.put_into.ensures.ok c.put_into.ensures.err laid.1)
    c.requires.laid
