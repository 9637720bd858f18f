use Rattle.std.proofs.Common.{◌≡◌, ◌+◌, ◌≤◌, ◌++◌, suc, true, [], length, take, drop, set, ap, sym, subst, ◌∙◌, arith, eqb-true}
use Rattle.std.proofs.lemmas.List.{nil_from_length, take-set, drop-set-lt}
use Rattle.std.proofs.lemmas.List.Elements.{All-set, All-append, All-take, All-drop}
use Rattle.std.specs.declared.alloc.Global.{Global}
use Rattle.std.specs.declared.sync.Arc.{Arc}
use Rattle.orc_tree.specs.declared.chapter.Chapter.{Chapter}
use Rattle.orc_tree.specs.Pages.{rows_of, chapter_pages, chapter_rows, chapters_rows}
use Rattle.orc_tree.specs.inside.Places.{IsLaid, AreLaid, IsPageFor}
use Rattle.orc_tree.specs.inside.Removal.{kept_of, all_kept}
use Rattle.orc_tree.proofs.Maps.{Rows}
use Rattle.orc_tree.proofs.Paged.{Pages, sorted_part, rows_of-append, rows_of-at, rows_of-changed}
use Rattle.orc_tree.proofs.Chaptered.{Chapters, some_rows, some_from_test}
use Rattle.orc_tree.proofs.Removing.{kept_in_part}
use Rattle.orc_tree.proofs.Edited.{OnErr-held}
use Rattle.orc_tree.proofs.chapter_removal.remove_at_chapter.Goals as goal

pub remove_from-requires : goal.remove_from-requires
remove_from-requires c =
    let chapters = c.args.chapters.now.items in
    let at = c.args.at in
    let chapter = c.index_mut.result.now in
    let within = c.requires.place.among.within in
    let laid : IsLaid chapter = subst IsLaid (sym c.index_mut.ensures.value) (c.requires.laid at chapter within) in
    record {
      page = subst (λ (it : Arc Chapter Global). IsPageFor c.args.path.now (chapter_pages it) c.args.page) (sym c.index_mut.ensures.value) (c.requires.place.inside chapter);
      sorted = sorted_part chapter_rows chapters at chapter c.requires.sorted within c.index_mut.ensures.value;
      sized = laid.0;
    }

pub returns-in_err-none-clause-err : goal.returns-in_err-none-clause-err
returns-in_err-none-clause-err c =
    let chapters = c.args.chapters.now.items in
    OnErr-held c.from_residual.result
    (rows_of-changed chapter_rows chapters c.args.at c.remove_from.new.chapter _ c.requires.place.among.within c.in_err-none.ensures.err
    ∙ sym (rows_of-at chapter_rows chapters c.args.at c.index_mut.result.now c.requires.place.among.within c.index_mut.ensures.value))

pub returns-in_err-none-clause-laid : goal.returns-in_err-none-clause-laid
returns-in_err-none-clause-laid c =
    let chapters = c.args.chapters.now.items in
    let chapter = c.index_mut.result.now in
    let laid : IsLaid chapter = subst IsLaid (sym c.index_mut.ensures.value) (c.requires.laid c.args.at chapter c.requires.place.among.within) in
    All-set IsLaid chapters c.args.at c.remove_from.new.chapter
    (c.remove_from.ensures.sized, subst (λ (r : Rows). 1 ≤ length r) (sym c.in_err-none.ensures.err) laid.1) c.requires.laid

pub returns-then-none-clause-ok : goal.returns-then-none-clause-ok
returns-then-none-clause-ok c =
    let chapters = c.args.chapters.now.items in
    let at = c.args.at in
    let p = c.args.path.now in
    let chapter = c.index_mut.result.now in
    let new = c.remove_from.new.chapter in
    let next : at + 1 ≡ suc at = omega arith in
    let empty : chapter_pages new ≡ [] = nil_from_length (chapter_pages new) (eqb-true (length (chapter_pages new)) 0 (sym c.in_ok-none.ensures.left ∙ c.if-none.true)) in
    let gone : kept_of p (chapter_rows chapter) ≡ [] = sym c.in_ok-none.ensures.ok ∙ ap (λ (ps : Pages). rows_of ps) empty in
    ap (λ (cs : Chapters). chapters_rows cs) c.remove.ensures.by_index.2
    ∙ rows_of-append chapter_rows (take at (set chapters at new)) (drop (at + 1) (set chapters at new))
    ∙ ap (λ (cs : Chapters). chapters_rows cs ++ chapters_rows (drop (at + 1) (set chapters at new))) (take-set chapters at new)
    ∙ ap (λ (cs : Chapters). chapters_rows (take at chapters) ++ chapters_rows cs) (drop-set-lt (at + 1) chapters at new (omega arith))
    ∙ ap (λ n. chapters_rows (take at chapters) ++ chapters_rows (drop n chapters)) next
    ∙ sym (kept_in_part chapter_rows p chapters at chapter c.requires.place.among c.index_mut.ensures.value (subst (λ n. all_kept p (chapters_rows (drop n chapters)) ≡ true) next c.requires.kept)
    ∙ ap (λ (r : Rows). chapters_rows (take at chapters) ++ (r ++ chapters_rows (drop (suc at) chapters))) gone)

pub returns-then-none-clause-laid : goal.returns-then-none-clause-laid
returns-then-none-clause-laid c =
    let chapters = c.args.chapters.now.items in
    let at = c.args.at in
    let new = c.remove_from.new.chapter in
    subst AreLaid (sym c.remove.ensures.by_index.2)
    (All-append IsLaid (take at (set chapters at new)) (drop (at + 1) (set chapters at new))
    (subst AreLaid (sym (take-set chapters at new)) (All-take IsLaid at chapters c.requires.laid))
    (subst AreLaid (sym (drop-set-lt (at + 1) chapters at new (omega arith))) (All-drop IsLaid (at + 1) chapters c.requires.laid)))

pub returns-clause-ok : goal.returns-clause-ok
returns-clause-ok c =
    let chapters = c.args.chapters.now.items in
    let at = c.args.at in
    let next : at + 1 ≡ suc at = omega arith in
    rows_of-changed chapter_rows chapters at c.remove_from.new.chapter _ c.requires.place.among.within c.in_ok-none.ensures.ok
    ∙ sym (kept_in_part chapter_rows c.args.path.now chapters at c.index_mut.result.now c.requires.place.among c.index_mut.ensures.value
    (subst (λ n. all_kept c.args.path.now (chapters_rows (drop n chapters)) ≡ true) next c.requires.kept))

pub returns-clause-laid : goal.returns-clause-laid
returns-clause-laid c =
    let new = c.remove_from.new.chapter in
    let some : 1 ≤ length (chapter_pages new) = some_from_test (chapter_pages new) c.in_ok-none.none c.in_ok-none.ensures.left c.if-none.false in
    All-set IsLaid c.args.chapters.now.items c.args.at new
    (c.remove_from.ensures.sized, some_rows (chapter_pages new) c.remove_from.ensures.sized some) c.requires.laid
