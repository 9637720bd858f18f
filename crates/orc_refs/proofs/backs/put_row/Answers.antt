use Rattle.std.proofs.Common.{◌≡◌, ◌++◌, true, take, drop, ap, sym, subst, ◌∙◌}
use Rattle.std.specs.FinMap.{is_sorted}
use Rattle.std.proofs.lemmas.Result.{on_ok_weaker}
use Rattle.orc_path.specs.Order.{path_cmp}
use Rattle.orc_refs.specs.inside.Shelves.{AreFull, IsPartFor, rack_rows, rows_in, set_row}
use Rattle.orc_refs.proofs.PartLaws.{sorted_part}
use Rattle.orc_refs.proofs.RowLaws.{BackRows}
use Rattle.orc_refs.proofs.ShelfLaws.{Racks, full-some, set_row-on_part}
use Rattle.orc_refs.proofs.backs.put_row.Goals as goal

pub part_for-at-requires-clause-full : goal.part_for-at-requires-clause-full
part_for-at-requires-clause-full c = full-some c.as_slice.result.now (subst AreFull (sym c.as_slice.ensures.value) c.requires.full)

pub put_on-requires-2-clause-sorted : goal.put_on-requires-2-clause-sorted
put_on-requires-2-clause-sorted c =
    let racks = c.args.racks.now.items in
    let at = c.part_for-at.result in
    let for : IsPartFor rack_rows c.args.path racks at = subst (λ (ps : Racks). IsPartFor rack_rows c.args.path ps at) c.as_slice.ensures.value c.part_for-at.ensures in
    subst (λ (r : BackRows). is_sorted path_cmp r ≡ true) (sym c.in_ok-shelves.ensures.rows) (sorted_part rack_rows racks at c.remove.result c.requires.sorted for.within c.remove.ensures.value)

pub returns-clause-rows : goal.returns-clause-rows
returns-clause-rows c =
    let racks = c.args.racks.now.items in
    let rest = c.remove.new.self.items in
    let at = c.part_for-at.result in
    let for : IsPartFor rack_rows c.args.path racks at = subst (λ (ps : Racks). IsPartFor rack_rows c.args.path ps at) c.as_slice.ensures.value c.part_for-at.ensures in
    on_ok_weaker c.insert_shelves-2.result
    (λ is. is
    ∙ ap (λ (r : BackRows). rows_in (take at rest) ++ (r ++ rows_in (drop at rest))) (c.in_ok-put_on-2.ensures.rows ∙ ap (set_row c.args.path c.args.ids) c.in_ok-shelves.ensures.rows)
    ∙ ap (λ (ps : Racks). rows_in (take at ps) ++ (set_row c.args.path c.args.ids (rack_rows c.remove.result) ++ rows_in (drop at ps))) c.remove.ensures.items
    ∙ set_row-on_part rack_rows c.args.path c.args.ids racks at c.remove.result for c.remove.ensures.value)
    c.insert_shelves-2.ensures.rows
