use Rattle.std.proofs.Common.{◌≡◌, ◌++◌, take, drop, ap, sym, ◌∙◌, arith}
use Rattle.std.specs.List.{slice_range}
use Rattle.std.proofs.lemmas.Result.{on_ok_weaker}
use Rattle.orc_tree.specs.Pages.{page_rows, rows_of}
use Rattle.orc_tree.specs.inside.Removal.{kept_of}
use Rattle.orc_tree.proofs.Maps.{Rows}
use Rattle.orc_tree.proofs.Paged.{Pages}
use Rattle.orc_tree.proofs.Removing.{kept_span}
use Rattle.orc_tree.proofs.removal.remove_among.Goals as goal

pub returns-clause-ok : goal.returns-clause-ok
returns-clause-ok c =
    let pages = c.args.pages.now.items in
    let at = c.args.at in
    let end = c.args.end in
    let p = c.args.path.now in
    let rows_are : c.in_ok-rows.rows.items ≡ kept_of p (rows_of (slice_range pages at end)) =
    c.in_ok-rows.ensures ∙ ap (λ (ps : Pages). kept_of p (rows_of (slice_range ps at end))) c.deref.ensures.value in
    on_ok_weaker c.replace.result
    (λ laid. laid
    ∙ ap (λ (r : Rows). rows_of (take at pages) ++ (r ++ rows_of (drop end pages))) rows_are
    ∙ sym (kept_span page_rows p pages at end c.requires.page.before c.requires.kept (omega (arith, c.requires.order))))
    c.replace.ensures.ok
