use Rattle.std.proofs.Common.{◌≡◌, ◌++◌, length}
use Rattle.orc_expr.proofs.eval.in_set.Given as goal

-- what stands in the row, with what is left, is all
abbrev pub invariant-loop-read : goal.invariant-loop-read
invariant-loop-read l = l.row.items ++ l.reads ≡ l.fn.reads

abbrev pub decreases-loop-read : goal.decreases-loop-read
decreases-loop-read l = length l.reads
