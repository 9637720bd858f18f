use Rattle.std.proofs.Common.{◌≡◌, ap, ◌∙◌}
use Rattle.std.specs.FinMap.{is_sorted}
use Rattle.orc_path.specs.Order.{path_cmp}
use Rattle.orc_tree.specs.Pages.{rows_of, chapter_pages, chapter_rows}
use Rattle.orc_tree.proofs.Paged.{Pages, sorted_part}
use Rattle.orc_check.specs.inside.Lent.{spot_path}
use Rattle.orc_check.proofs.Running.{lent_from}
use Rattle.orc_check.proofs.runs.runs_among.Goals as goal

pub page_for-requires-clause-sorted : goal.page_for-requires-clause-sorted
page_for-requires-clause-sorted c =
    let chapter = c.index-chapters-at.result in
    let pages_are : c.as_slice-pages.result.now ≡ chapter_pages chapter = c.as_slice-pages.ensures ∙ ap (λ x. x.pages) c.deref.ensures in
    ap (λ (ps : Pages). is_sorted path_cmp (rows_of ps)) pages_are
    ∙ sorted_part chapter_rows c.args.chapters.now c.chapter_for-at.result chapter c.requires.sorted c.chapter_for-at.ensures.within c.index-chapters-at.is

pub returns-clause-rest : goal.returns-clause-rest
returns-clause-rest c =
    (lent_from (spot_path c.args.spot.now) c.args.chapters.now c.chapter_for-at.result c.index-chapters-at.result c.page_for.result c.as_slice-pages.result.now
    c.chapter_for-at.ensures c.index-chapters-at.is (c.as_slice-pages.ensures ∙ ap (λ x. x.pages) c.deref.ensures) c.page_for.ensures).0

pub returns-clause-behind : goal.returns-clause-behind
returns-clause-behind c =
    (lent_from (spot_path c.args.spot.now) c.args.chapters.now c.chapter_for-at.result c.index-chapters-at.result c.page_for.result c.as_slice-pages.result.now
    c.chapter_for-at.ensures c.index-chapters-at.is (c.as_slice-pages.ensures ∙ ap (λ x. x.pages) c.deref.ensures) c.page_for.ensures).1
