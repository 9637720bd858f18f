use Rattle.std.proofs.Common.{◌≡◌, ◌≤◌, ◌-◌, length, Less, Greater}
use Rattle.std.specs.List.{AllWithin}
use Rattle.orc_path.specs.Order.{path_cmp}
use Rattle.orc_tree.proofs.sorted.search.Given as goal

-- the rows below `low` come before the path, and those from `high` on after it
abbrev pub invariant-loop-low : goal.invariant-loop-low
invariant-loop-low g l = record {
  order : l.low ≤ l.high;
  within : l.high ≤ length l.rows;
  before : AllWithin (λ row. path_cmp l.steps row.0 ≡ Greater) l.rows 0 l.low;
  behind : AllWithin (λ row. path_cmp l.steps row.0 ≡ Less) l.rows l.high (length l.rows);
}

abbrev pub decreases-loop-low : goal.decreases-loop-low
decreases-loop-low g l = l.high - l.low
