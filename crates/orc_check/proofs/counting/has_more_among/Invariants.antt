use Rattle.std.proofs.Common.{◌≡◌, ◌++◌, true, length, nat_lt}
use Rattle.std.specs.FinMap.{is_sorted}
use Rattle.orc_path.specs.Order.{path_cmp}
use Rattle.orc_tree.specs.inside.Lists.{entries_of}
use Rattle.orc_check.specs.Validity.{plain_steps}
use Rattle.orc_check.specs.inside.Runs.{all_rows}
use Rattle.orc_check.proofs.counting.has_more_among.Given as goal

-- the list has more entries than the number where it has more than what is left of it in the runs that are left, which stand in path order
abbrev pub invariant-loop-rows : goal.invariant-loop-rows
invariant-loop-rows l = record {
  left : nat_lt l.left (length (entries_of (l.steps ++ plain_steps l.names) (all_rows l.rows-iterator)))
      ≡ nat_lt l.number (length (entries_of (l.steps ++ plain_steps l.names) (all_rows l.fn.runs)));
  sorted : is_sorted path_cmp (all_rows l.rows-iterator) ≡ true;
}
