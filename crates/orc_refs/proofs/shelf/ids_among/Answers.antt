use Rattle.std.proofs.Common.{◌<◌, length, ap, sym, ◌∙◌, arith}
use Rattle.orc_refs.specs.declared.shelf.Back.{Back}
use Rattle.orc_refs.specs.inside.Shelves.{back_row, back_rows}
use Rattle.orc_refs.proofs.RowLaws.{get-row, get-no_row, ids-some, ids-none}
use Rattle.orc_refs.proofs.ShelfLaws.{as_many, kept-at}
use Rattle.orc_refs.proofs.shelf.ids_among.Goals as goal

pub returns-in-Ok : goal.returns-in-Ok
returns-in-Ok c =
    let rows = c.args.rows.now in
    let row = c.index-rows-at.result in
    let found = c.in-Ok.ensures.found in
    let within : c.in-Ok.at < length rows = omega (arith, found.within, as_many rows) in
    c.as_slice.ensures ∙ ap (λ (b : Back). b.ids) c.deref.ensures
    ∙ sym (ids-some _ _ (get-row (back_rows rows) c.args.path.now c.in-Ok.at (back_row row) c.requires found (kept-at rows c.in-Ok.at row within c.index-rows-at.is)))

pub returns-in-Err : goal.returns-in-Err
returns-in-Err c = sym (ids-none _ (get-no_row (back_rows c.args.rows.now) c.args.path.now c.in-Err.field-0 c.requires c.in-Err.ensures.absent))
