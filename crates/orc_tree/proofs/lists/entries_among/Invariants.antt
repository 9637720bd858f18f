use Rattle.std.proofs.Common.{◌≡◌, ◌++◌, true}
use Rattle.std.specs.FinMap.{is_sorted}
use Rattle.orc_path.specs.Order.{path_cmp}
use Rattle.orc_tree.specs.inside.Lists.{entries_of}
use Rattle.orc_tree.proofs.lists.entries_among.Given as goal

-- what was found, and the entries among the rows to come, are all
abbrev pub invariant-loop-row : goal.invariant-loop-row
invariant-loop-row l = record {
  next : (goal.iterator-loop-row).can_next l.row-iterator;
  ends : (goal.iterator-loop-row).is_finite l.row-iterator;
  found : l.found.items ++ entries_of l.list l.row-iterator ≡ entries_of l.list l.fn.rows;
  sorted : is_sorted path_cmp l.row-iterator ≡ true;
}
