use Rattle.std.proofs.Common.{◌≡◌, ◌+◌, ◌≤◌, true, length, vec_len, vec_capacity}
use Rattle.std.specs.Vec.Iter.{into_iter_items}
use Rattle.std.specs.FinMap.{is_sorted}
use Rattle.orc_path.specs.Order.{path_cmp}
use Rattle.orc_tree.specs.inside.Puts.{put_entries}
use Rattle.orc_tree.proofs.sorted.enter_rows.Given as goal

-- to enter what is left leaves what entering all leaves
abbrev pub invariant-loop-way : goal.invariant-loop-way
invariant-loop-way l = record {
  sorted : is_sorted path_cmp l.rows.items ≡ true;
  entered : put_entries (into_iter_items l.way-iterator) l.rows.items ≡ put_entries l.fn.ways.items l.fn.rows.items;
  room : vec_len l.rows + length (into_iter_items l.way-iterator) ≤ vec_capacity l.rows;
  len : vec_len l.rows + length (into_iter_items l.way-iterator) ≤ vec_len l.fn.rows + vec_len l.fn.ways;
  capacity : vec_capacity l.fn.rows ≤ vec_capacity l.rows;
}
