use Rattle.std.proofs.Common.{subst}
use Rattle.orc_tree.specs.Rows.{IsRowOf, IsPlaceOf}
use Rattle.orc_refs.specs.inside.Shelves.{back_rows}
use Rattle.orc_refs.proofs.ShelfLaws.{Kept, set_row-absent, set_row-away}
use Rattle.orc_refs.proofs.shelf.without_row.Goals as goal

pub returns-in-Ok : goal.returns-in-Ok
returns-in-Ok c =
    set_row-away c.args.path.now c.args.rows.items _ c.in-Ok.at c.requires
    (subst (λ (rows : Kept). IsRowOf c.args.path.now (back_rows rows) c.in-Ok.at) c.as_slice.ensures.value c.in-Ok.ensures.found) c.remove.ensures.items

pub returns-in-Err : goal.returns-in-Err
returns-in-Err c =
    set_row-absent c.args.path.now c.args.rows.items c.in-Err.field-0
    (subst (λ (rows : Kept). IsPlaceOf c.args.path.now (back_rows rows) c.in-Err.field-0) c.as_slice.ensures.value c.in-Err.ensures.absent)
