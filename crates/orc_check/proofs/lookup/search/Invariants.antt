use Rattle.std.proofs.Common.{◌≡◌, ◌≤◌, ◌-◌, length, Less, Greater}
use Rattle.std.specs.List.{AllWithin}
use Rattle.orc_path.specs.Order.{path_cmp}
use Rattle.orc_check.specs.inside.Lent.{spot_path}
use Rattle.orc_check.proofs.lookup.search.Given as goal

-- the rows below `low` come before the path, and those from `high` on after it
abbrev pub invariant-loop-low : goal.invariant-loop-low
invariant-loop-low l = record {
  order : l.low ≤ l.high;
  within : l.high ≤ length l.rows;
  before : AllWithin (λ row. path_cmp (spot_path l.spot) row.0 ≡ Greater) l.rows 0 l.low;
  behind : AllWithin (λ row. path_cmp (spot_path l.spot) row.0 ≡ Less) l.rows l.high (length l.rows);
}

abbrev pub decreases-loop-low : goal.decreases-loop-low
decreases-loop-low l = l.high - l.low
