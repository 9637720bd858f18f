use Rattle.std.proofs.Common.{◌≡◌, ◌++◌, map, true}
use Rattle.std.specs.List.{filter}
use Rattle.std.specs.FinMap.{is_sorted}
use Rattle.orc_path.specs.Order.{path_cmp, is_prefix}
use Rattle.orc_check.specs.inside.Runs.{all_rows}
use Rattle.orc_check.proofs.under.under_among.Given as goal

-- what was found, and those in the runs that are left, are all; and these stand in path order
abbrev pub invariant-loop-rows : goal.invariant-loop-rows
invariant-loop-rows l = record {
  left : map (λ row. row.now) l.found.items ++ filter (λ row. is_prefix l.steps row.0) (all_rows l.rows-iterator)
      ≡ filter (λ row. is_prefix l.steps row.0) (all_rows l.fn.runs);
  sorted : is_sorted path_cmp (all_rows l.rows-iterator) ≡ true;
}
