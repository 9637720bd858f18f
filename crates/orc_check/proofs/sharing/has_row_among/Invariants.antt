use Rattle.std.proofs.Common.{◌≡◌, true}
use Rattle.std.specs.List.{list_any}
use Rattle.std.specs.FinMap.{is_sorted}
use Rattle.orc_path.specs.Order.{path_cmp}
use Rattle.orc_check.specs.Validity.{row_has}
use Rattle.orc_check.specs.inside.Runs.{all_rows}
use Rattle.orc_check.proofs.sharing.has_row_among.Given as goal

-- one is in the runs that are left, if there is one, and these stand in path order
abbrev pub invariant-loop-rows : goal.invariant-loop-rows
invariant-loop-rows l = record {
  left : list_any (row_has l.schema l.target l.text l.path) (all_rows l.rows-iterator) ≡ list_any (row_has l.schema l.target l.text l.path) (all_rows l.fn.runs);
  sorted : is_sorted path_cmp (all_rows l.rows-iterator) ≡ true;
}
