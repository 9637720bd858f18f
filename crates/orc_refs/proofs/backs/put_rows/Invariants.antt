use Rattle.std.proofs.Common.{◌≡◌, ◌+◌, ◌≤◌, true, length, vec_len}
use Rattle.std.specs.Vec.Iter.{into_iter_items}
use Rattle.std.specs.FinMap.{from_sorted, is_sorted}
use Rattle.orc_path.specs.Order.{path_cmp}
use Rattle.orc_refs.specs.inside.Plans.{with_rows}
use Rattle.orc_refs.specs.inside.Shelves.{AreFull, rows_in}
use Rattle.orc_refs.proofs.backs.put_rows.Given as goal

-- to put what is left leaves what putting all leaves
abbrev pub invariant-loop-path : goal.invariant-loop-path
invariant-loop-path g l = record {
  sorted : is_sorted path_cmp (rows_in l.racks.items) ≡ true;
  full : AreFull l.racks.items;
  put : with_rows (into_iter_items l.path-iterator) (from_sorted (rows_in l.racks.items)) ≡ with_rows l.fn.rows.items (from_sorted (rows_in l.fn.racks.items));
  steps : l.steps + length (into_iter_items l.path-iterator) ≤ l.fn.steps + vec_len l.fn.rows;
}
