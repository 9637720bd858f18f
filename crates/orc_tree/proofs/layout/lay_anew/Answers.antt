use Rattle.std.proofs.Common.{◌≡◌, ◌++◌, take, drop, refl, ap, sym, ◌∙◌}
use Rattle.std.specs.List.{slice_range}
use Rattle.std.proofs.lemmas.Result.{on_err_weaker}
use Rattle.orc_tree.specs.Pages.{rows_of, chapter_rows, chapters_rows}
use Rattle.orc_tree.specs.inside.Puts.{chapters_with}
use Rattle.orc_tree.proofs.Maps.{Rows}
use Rattle.orc_tree.proofs.Chaptered.{Chapters}
use Rattle.orc_tree.proofs.Removing.{rows_of-span}
use Rattle.orc_tree.proofs.Edited.{either_way}
use Rattle.orc_tree.proofs.layout.lay_anew.Goals as goal

pub returns-clause-rows : goal.returns-clause-rows
returns-clause-rows c =
    let chapters = c.args.chapters.now.items in
    let from = c.args.from in
    let to = c.args.to in
    let rows_are : rows_of c.in_ok-pages.pages.items ≡ chapters_rows (slice_range chapters from to) =
    c.in_ok-pages.ensures.rows ∙ ap (λ (cs : Chapters). chapters_rows (slice_range cs from to)) c.deref.ensures.value in
    either_way c.replace_chapters.result (λ (r : Rows). r ≡ chapters_rows chapters) (chapters_rows c.replace_chapters.new.chapters.items) (chapters_with chapters from to (rows_of c.in_ok-pages.pages.items)) (chapters_rows chapters)
    c.replace_chapters.ensures.ok (on_err_weaker c.replace_chapters.result (λ e. ap (λ (cs : Chapters). chapters_rows cs) e) c.replace_chapters.ensures.err)
    (ap (λ (r : Rows). chapters_rows (take from chapters) ++ (r ++ chapters_rows (drop to chapters))) rows_are ∙ sym (rows_of-span chapter_rows chapters from to c.requires.order))
    refl
