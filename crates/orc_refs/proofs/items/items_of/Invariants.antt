use Rattle.std.proofs.Common.{◌≡◌, ◌++◌, map}
use Rattle.orc_refs.specs.Moves.{items_of}
use Rattle.orc_refs.proofs.items.items_of.Given as goal

-- those so far, and those of the rows that are left
abbrev pub invariant-loop-row : goal.invariant-loop-row
invariant-loop-row l = l.items ++ map (λ row. record { path = row.0; item = row.1 }) l.row-iterator ≡ items_of l.tree
