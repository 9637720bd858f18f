use Rattle.std.proofs.Common.{◌≡◌, ◌++◌, map}
use Rattle.orc_services.specs.Expanded.{write_of, writes_to}
use Rattle.orc_services.proofs.writes.push_writes.Given as goal

-- those so far, and those of the rows that are left
abbrev pub invariant-loop-row : goal.invariant-loop-row
invariant-loop-row l = l.writes ++ map (write_of l.name) l.row-iterator ≡ l.fn.writes ++ writes_to l.name l.tree
