use Rattle.std.proofs.Common.{◌≡◌, ap, ◌∙◌}
use Rattle.std.proofs.lemmas.Result.{IfOk-weaker}
use Rattle.orc_refs.specs.declared.shelf.Shelf.{Shelf}
use Rattle.orc_refs.specs.inside.Shelves.{back_rows, shelf_rows}
use Rattle.orc_refs.proofs.ShelfLaws.{back_rows-values}
use Rattle.orc_refs.proofs.shelf.rows_taken.Goals as goal

pub returns-in-Err : goal.returns-in-Err
returns-in-Err c =
    let rows = c.as_slice.result.now in
    let rows_are : back_rows rows ≡ shelf_rows c.args.shelf =
    ap back_rows c.as_slice.ensures.value ∙ ap (λ (s : Shelf). back_rows s.rows.items) c.deref.ensures ∙ ap shelf_rows c.in-Err.ensures.err in
    IfOk-weaker c.share.result _ _ (λ shared same. back_rows-values rows shared.items same ∙ rows_are) c.share.ensures
