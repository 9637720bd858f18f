use Rattle.std.proofs.Common.{ap, sym, subst, refl}
use Rattle.orc_tree.specs.Rows.{IsRowOf, IsPlaceOf}
use Rattle.orc_refs.specs.declared.shelf.Back.{Back}
use Rattle.orc_refs.specs.inside.Shelves.{back_rows}
use Rattle.orc_refs.proofs.RowLaws.{some_id}
use Rattle.orc_refs.proofs.ShelfLaws.{Kept, set_row-between, set_row-here}
use Rattle.orc_refs.proofs.shelf.with_row.Goals as goal

pub returns-in_ok-rows-in-Ok : goal.returns-in_ok-rows-in-Ok
returns-in_ok-rows-in-Ok c =
    set_row-here c.args.path c.args.ids c.args.rows.items _ c.in-Ok.at c.in_ok-rows-in-Ok.field-0 (some_id c.args.ids (sym c.if-is_empty.ensures)) c.requires
    (subst (λ (rows : Kept). IsRowOf c.args.path (back_rows rows) c.in-Ok.at) c.as_slice.ensures.value c.in-Ok.ensures.found)
    (ap (λ (b : Back). (b.path, b.ids)) c.in_ok-rows-in-Ok.ensures.ok) refl

pub returns-in_ok-insert-in-Err : goal.returns-in_ok-insert-in-Err
returns-in_ok-insert-in-Err c =
    set_row-between c.args.path c.args.ids c.args.rows.items _ c.in-Err.at c.in_ok-new-in-Err.field-0 (some_id c.args.ids (sym c.if-is_empty.ensures))
    (subst (λ (rows : Kept). IsPlaceOf c.args.path (back_rows rows) c.in-Err.at) c.as_slice.ensures.value c.in-Err.ensures.absent)
    (ap (λ (b : Back). (b.path, b.ids)) c.in_ok-new-in-Err.ensures.ok) c.in_ok-insert-in-Err.ensures.items
