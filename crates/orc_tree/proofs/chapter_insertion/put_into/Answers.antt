use Rattle.std.proofs.Common.{rules, ◌≡◌, map, ap, ◌∙◌}
use Rattle.orc_tree.specs.Pages.{page_rows, chapter_pages}
use Rattle.orc_tree.proofs.Paged.{Pages, IsPartFor-again}
use Rattle.orc_tree.proofs.chapter_insertion.put_into.Goals as goal

pub put-done-requires-clause-page : goal.put-done-requires-clause-page
put-done-requires-clause-page c =
    let pages_are : c.into_vec-pages.result.items ≡ chapter_pages c.own_chapter.new.chapter = search rules in
    IsPartFor-again page_rows c.args.path c.into_vec-pages.result.items (chapter_pages c.args.chapter.now) c.args.page
    (ap (λ (ps : Pages). map page_rows ps) pages_are ∙ c.own_chapter.ensures.each) c.requires.page
