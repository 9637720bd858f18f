use Rattle.std.proofs.Common.{◌≡◌, ◌++◌}
use Rattle.std.specs.Vec.Iter.{into_iter_items}
use Rattle.orc_refs.proofs.planning.joined.Given as goal

-- what is joined, with what is left, is all
abbrev pub invariant-loop-change : goal.invariant-loop-change
invariant-loop-change l = l.removals ++ into_iter_items l.change-iterator ≡ l.fn.removals ++ l.fn.puts
