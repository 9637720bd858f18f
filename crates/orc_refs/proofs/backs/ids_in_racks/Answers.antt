use Rattle.std.proofs.Common.{◌≡◌, ap, sym, ◌∙◌}
use Rattle.std.specs.FinMap.{from_sorted, is_sorted}
use Rattle.orc_path.specs.Order.{path_cmp}
use Rattle.orc_refs.specs.Stores.{ids_in}
use Rattle.orc_refs.specs.declared.rack.Rack.{Rack}
use Rattle.orc_refs.specs.inside.Shelves.{rack_rows, rack_shelves, rows_on}
use Rattle.orc_refs.proofs.PartLaws.{ids-no_part, ids-on_part, sorted_part}
use Rattle.orc_refs.proofs.RowLaws.{BackRows}
use Rattle.orc_refs.proofs.ShelfLaws.{full-some}
use Rattle.orc_refs.proofs.backs.ids_in_racks.Goals as goal

pub returns-then-is_empty : goal.returns-then-is_empty
returns-then-is_empty c = ids-no_part rack_rows c.args.path.now c.args.racks.now (sym c.is_empty.ensures ∙ c.if-is_empty.true)

pub part_for-requires-clause-full : goal.part_for-requires-clause-full
part_for-requires-clause-full c = full-some c.args.racks.now c.requires.full

shelves_are : (c : goal.After-as_slice) → c.as_slice.result.now ≡ rack_shelves c.index-racks-part_for.result
shelves_are c = c.as_slice.ensures.value ∙ ap (λ (r : Rack). r.shelves.items) c.deref.ensures

pub ids_on-requires-clause-sorted : goal.ids_on-requires-clause-sorted
ids_on-requires-clause-sorted c =
    ap (is_sorted path_cmp) (ap rows_on (shelves_are c))
    ∙ sorted_part rack_rows c.args.racks.now c.part_for.result c.index-racks-part_for.result c.requires.sorted c.part_for.ensures.within c.index-racks-part_for.is

pub returns : goal.returns
returns c =
    c.ids_on.ensures ∙ ap (λ (r : BackRows). ids_in (from_sorted r) c.args.path.now) (ap rows_on (c.as_slice.ensures.value ∙ ap (λ (r : Rack). r.shelves.items) c.deref.ensures))
    ∙ ids-on_part rack_rows c.args.path.now c.args.racks.now c.part_for.result c.index-racks-part_for.result c.requires.sorted c.part_for.ensures c.index-racks-part_for.is
