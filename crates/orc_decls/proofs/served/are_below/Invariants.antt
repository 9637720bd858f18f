use Rattle.std.proofs.Common.{◌≡◌}
use Rattle.std.specs.FinMap.{entries}
use Rattle.orc_decls.specs.Calls.{are_below}
use Rattle.orc_decls.proofs.served.are_below.Given as goal

-- the rows and items that are left decide
abbrev pub invariant-loop-row : goal.invariant-loop-row
invariant-loop-row l = are_below l.entry l.row-iterator l.rest ≡ are_below l.entry (entries l.tree) l.puts
