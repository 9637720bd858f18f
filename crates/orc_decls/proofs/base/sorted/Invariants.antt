use Rattle.std.proofs.Common.{◌++◌, length}
use Rattle.orc_decls.specs.inside.Orders.{KeepsOrder}
use Rattle.orc_decls.proofs.base.sorted.Given as goal

-- what was put in order, and the rest
abbrev pub invariant-loop-rest : goal.invariant-loop-rest
invariant-loop-rest l = KeepsOrder l.puts (l.sorted.items ++ l.rest)

abbrev pub decreases-loop-rest : goal.decreases-loop-rest
decreases-loop-rest l = length l.rest
