use Rattle.std.proofs.Common.{◌≡◌, ap, sym, ◌∙◌}
use Rattle.std.specs.FinMap.{from_sorted, is_sorted}
use Rattle.orc_path.specs.Order.{path_cmp}
use Rattle.orc_refs.specs.Stores.{ids_in}
use Rattle.orc_refs.specs.declared.shelf.Shelf.{Shelf}
use Rattle.orc_refs.specs.inside.Shelves.{back_rows, shelf_rows}
use Rattle.orc_refs.proofs.PartLaws.{ids-no_part, ids-on_part, sorted_part}
use Rattle.orc_refs.proofs.RowLaws.{BackRows}
use Rattle.orc_refs.proofs.rack.ids_on.Goals as goal

pub returns-then-is_empty : goal.returns-then-is_empty
returns-then-is_empty c = ids-no_part shelf_rows c.args.path.now c.args.shelves.now (sym c.is_empty.ensures ∙ c.if-is_empty.true)

rows_are : (c : goal.After-as_slice) → back_rows c.as_slice.result.now ≡ shelf_rows c.index-shelves-part_for.result
rows_are c = ap back_rows c.as_slice.ensures.value ∙ ap (λ (s : Shelf). back_rows s.rows.items) c.deref.ensures

pub ids_among-requires : goal.ids_among-requires
ids_among-requires c =
    ap (is_sorted path_cmp) (rows_are c)
    ∙ sorted_part shelf_rows c.args.shelves.now c.part_for.result c.index-shelves-part_for.result c.requires.sorted c.part_for.ensures.within c.index-shelves-part_for.is

pub returns : goal.returns
returns c =
    c.ids_among.ensures ∙ ap (λ (r : BackRows). ids_in (from_sorted r) c.args.path.now) (ap back_rows c.as_slice.ensures.value ∙ ap (λ (s : Shelf). back_rows s.rows.items) c.deref.ensures)
    ∙ ids-on_part shelf_rows c.args.path.now c.args.shelves.now c.part_for.result c.index-shelves-part_for.result c.requires.sorted c.part_for.ensures c.index-shelves-part_for.is
