use Rattle.std.proofs.Common.{◌≡◌, ◌++◌, map, drop}
use Rattle.std.specs.List.{filter}
use Rattle.orc_path.specs.Order.{is_prefix}
use Rattle.orc_check.proofs.under.push_under.Given as goal

-- what was found, and those of the rows that are left, are all
abbrev pub invariant-loop-row : goal.invariant-loop-row
invariant-loop-row l = map (λ row. row.now) l.found.items ++ filter (λ row. is_prefix l.steps row.0) (drop l.row-index l.rows)
    ≡ map (λ row. row.now) l.fn.found.items ++ filter (λ row. is_prefix l.steps row.0) l.rows
