use Rattle.std.proofs.Common.{◌≡◌, None, true}
use Rattle.std.specs.List.{fold, flat_map}
use Rattle.std.specs.FinMap.{entries, is_sorted}
use Rattle.orc_path.specs.Order.{path_cmp}
use Rattle.orc_check.specs.Validity.{row_breaches, lesser_breach}
use Rattle.orc_check.proofs.rows.least_of_rows.Given as goal

-- no row broke anything so far, and those that are left stand in path order
abbrev pub invariant-loop-row : goal.invariant-loop-row
invariant-loop-row l = record {
  least : fold lesser_breach None (flat_map (row_breaches l.schema l.tree) l.row-iterator)
      ≡ fold lesser_breach None (flat_map (row_breaches l.schema l.tree) (entries l.tree));
  sorted : is_sorted path_cmp l.row-iterator ≡ true;
}
