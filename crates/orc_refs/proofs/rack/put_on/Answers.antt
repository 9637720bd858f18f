use Rattle.std.proofs.Common.{◌≡◌, ◌++◌, true, take, drop, ap, sym, subst, ◌∙◌}
use Rattle.std.specs.FinMap.{is_sorted}
use Rattle.std.proofs.lemmas.Result.{on_ok_weaker}
use Rattle.orc_path.specs.Order.{path_cmp}
use Rattle.orc_refs.specs.inside.Shelves.{IsPartFor, rows_on, set_row, shelf_rows}
use Rattle.orc_refs.proofs.PartLaws.{sorted_part}
use Rattle.orc_refs.proofs.RowLaws.{BackRows}
use Rattle.orc_refs.proofs.ShelfLaws.{Shelves, set_row-on_part}
use Rattle.orc_refs.proofs.rack.put_on.Goals as goal

pub with_row-requires-2 : goal.with_row-requires-2
with_row-requires-2 c =
    let shelves = c.args.shelves.now.items in
    let at = c.part_for-at.result in
    let for : IsPartFor shelf_rows c.args.path shelves at = subst (λ (ps : Shelves). IsPartFor shelf_rows c.args.path ps at) c.as_slice.ensures.value c.part_for-at.ensures in
    subst (λ (r : BackRows). is_sorted path_cmp r ≡ true) (sym c.in_ok-own.ensures) (sorted_part shelf_rows shelves at c.remove.result c.requires.sorted for.within c.remove.ensures.value)

pub returns-clause-rows : goal.returns-clause-rows
returns-clause-rows c =
    let shelves = c.args.shelves.now.items in
    let rest = c.remove.new.self.items in
    let at = c.part_for-at.result in
    let for : IsPartFor shelf_rows c.args.path shelves at = subst (λ (ps : Shelves). IsPartFor shelf_rows c.args.path ps at) c.as_slice.ensures.value c.part_for-at.ensures in
    on_ok_weaker c.insert_rows-2.result
    (λ is. is
    ∙ ap (λ (r : BackRows). rows_on (take at rest) ++ (r ++ rows_on (drop at rest))) (c.in_ok-rows-2.ensures ∙ ap (set_row c.args.path c.args.ids) c.in_ok-own.ensures)
    ∙ ap (λ (ps : Shelves). rows_on (take at ps) ++ (set_row c.args.path c.args.ids (shelf_rows c.remove.result) ++ rows_on (drop at ps))) c.remove.ensures.items
    ∙ set_row-on_part shelf_rows c.args.path c.args.ids shelves at c.remove.result for c.remove.ensures.value)
    c.insert_rows-2.ensures.rows
