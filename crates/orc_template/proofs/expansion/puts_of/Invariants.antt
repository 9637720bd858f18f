use Rattle.std.proofs.Common.{◌≡◌, ◌++◌, map}
use Rattle.std.specs.FinMap.{entries}
use Rattle.orc_template.specs.Expansions.{row_put}
use Rattle.orc_template.proofs.expansion.puts_of.Given as goal

-- the items and those of the rows to come are all items
abbrev pub invariant-loop-row : goal.invariant-loop-row
invariant-loop-row l = l.puts ++ map row_put l.row-iterator ≡ map row_put (entries l.tree)
