use Rattle.std.proofs.Common.{◌≡◌, ◌∷◌, true, length, ap, sym, subst, ◌∙◌, arith}
use Rattle.std.specs.Vec.Iter.{into_iter_items}
use Rattle.std.specs.FinMap.{from_sorted, is_sorted}
use Rattle.orc_path.specs.Order.{path_cmp}
use Rattle.orc_refs.specs.inside.Plans.{with_rows}
use Rattle.orc_refs.specs.inside.Shelves.{rows_in, set_row}
use Rattle.orc_refs.proofs.RowLaws.{BackRows}
use Rattle.orc_refs.proofs.ShelfLaws.{map_of-set_row, sorted-set_row}
use Rattle.orc_refs.proofs.backs.put_rows.Goals as goal

pub loop-path-preserved : goal.loop-path-preserved
loop-path-preserved g c =
    let path = c.in-Some.path in
    let ids = c.in-Some.ids in
    let rest = into_iter_items c.next.new.self in
    let old = rows_in c.loop-path.racks.items in
    let taken = c.in-Some.ensures.steps in
    let first : into_iter_items c.loop-path.path-iterator ≡ (path, ids) ∷ rest = taken.0 in
    let put : rows_in c.put_row.new.racks.items ≡ set_row path ids old = c.in_ok-put_row.ensures.rows in
    record {
      sorted = subst (λ (r : BackRows). is_sorted path_cmp r ≡ true) (sym put) (sorted-set_row path ids old c.loop-path.invariant.sorted);
      full = c.in_ok-put_row.ensures.full;
      put =
          ap (λ (r : BackRows). with_rows rest (from_sorted r)) put
          ∙ ap (with_rows rest) (map_of-set_row path ids old c.loop-path.invariant.sorted)
          ∙ ap (λ (l : BackRows). with_rows l (from_sorted old)) (sym first) ∙ c.loop-path.invariant.put;
      steps = omega (arith, c.tick.ensures, ap length first, c.loop-path.invariant.steps);
    }
