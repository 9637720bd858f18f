use Rattle.std.proofs.Common.{◌≡◌, ◌≤◌, ◌-◌, length, Less, Greater}
use Rattle.std.specs.List.{AllWithin}
use Rattle.orc_path.specs.Order.{path_cmp}
use Rattle.orc_refs.specs.inside.Shelves.{back_rows}
use Rattle.orc_refs.proofs.shelf.place_of.Given as goal

-- the rows below `low` come before the path, and those from `high` on after it
abbrev pub invariant-loop-low : goal.invariant-loop-low
invariant-loop-low l = record {
  order : l.low ≤ l.high;
  within : l.high ≤ length l.rows;
  before : AllWithin (λ row. path_cmp l.path row.0 ≡ Greater) (back_rows l.rows) 0 l.low;
  behind : AllWithin (λ row. path_cmp l.path row.0 ≡ Less) (back_rows l.rows) l.high (length (back_rows l.rows));
}

abbrev pub decreases-loop-low : goal.decreases-loop-low
decreases-loop-low l = l.high - l.low
