use Rattle.std.proofs.Common.{◌≡◌, ◌++◌, ap, ◌∙◌}
use Rattle.orc_tree.specs.Pages.{page_rows}
use Rattle.orc_tree.proofs.Maps.{Rows}
use Rattle.orc_change.specs.Differences.{removals}
use Rattle.orc_change.proofs.Exact.{removals-append}
use Rattle.orc_change.proofs.Walked.{part_more}
use Rattle.orc_change.proofs.difference.push_removals_of.Goals as goal

pub loop-page-preserved : goal.loop-page-preserved
loop-page-preserved c =
    let other = c.args.to.now in
    let page = c.page-item.result in
    let rows_are : c.as_slice-rows.result.now ≡ page_rows page = c.as_slice-rows.ensures ∙ ap (λ p. p.rows) c.deref.ensures in
    part_more page_rows (λ (rows : Rows). removals rows other) (removals-append other) c.args.pages.now c.loop-page.page-index page c.loop-page.changes _ _ c.loop-page-test.true c.page-item.is
    (c.in_ok-push_absent.ensures ∙ ap (λ (rows : Rows). c.loop-page.changes ++ removals rows other) rows_are) c.loop-page.invariant
