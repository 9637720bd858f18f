use Rattle.std.proofs.Common.{◌≡◌, ◌≤◌, ◌-◌, length, Less, Greater}
use Rattle.std.specs.List.{AllWithin}
use Rattle.orc_path.specs.Order.{path_cmp}
use Rattle.orc_refs.specs.Moves.{rows_in}
use Rattle.orc_refs.proofs.settle.put_at.Given as goal

-- the items below `low` come before the path, and those from `high` on after it
abbrev pub invariant-loop-low : goal.invariant-loop-low
invariant-loop-low l = record {
  order : l.low ≤ l.high;
  within : l.high ≤ length l.puts;
  before : AllWithin (λ row. path_cmp l.path row.0 ≡ Greater) (rows_in l.puts) 0 l.low;
  behind : AllWithin (λ row. path_cmp l.path row.0 ≡ Less) (rows_in l.puts) l.high (length l.puts);
}

abbrev pub decreases-loop-low : goal.decreases-loop-low
decreases-loop-low l = l.high - l.low
