use Rattle.std.proofs.Common.{◌≡◌, ◌++◌, length, nat_lt}
use Rattle.std.specs.Prelude.{◌&&◌}
use Rattle.std.specs.List.{filter}
use Rattle.orc_path.specs.Order.{is_prefix}
use Rattle.orc_json.specs.Readings.{rows_below}
use Rattle.orc_json.proofs.reader.rows_below.Given as goal

abbrev pub invariant-loop-row : goal.invariant-loop-row
invariant-loop-row l =
    l.kept.items ++ filter (λ row. is_prefix l.fn.at row.0 && nat_lt (length l.fn.at) (length row.0)) l.row-iterator
    ≡ rows_below l.fn.at l.fn.tree
