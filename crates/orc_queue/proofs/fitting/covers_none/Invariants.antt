use Rattle.std.proofs.Common.{take, All}
use Rattle.orc_expr.specs.Touches.{Covers}
use Rattle.orc_queue.proofs.fitting.covers_none.Given as goal

abbrev pub invariant-loop-read : goal.invariant-loop-read
invariant-loop-read l = All (λ reading. Covers l.target reading → ⊥) (take l.read-index l.reads)
