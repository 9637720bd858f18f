use Rattle.std.proofs.Common.{ℕ, ◌<◌}
use Rattle.orc_queue.specs.Queues.{FitsAt}
use Rattle.orc_queue.proofs.queue.Queue.first_fit.Given as goal

abbrev pub invariant-loop-place : goal.invariant-loop-place
invariant-loop-place g l = (other : ℕ) (one : g.row.W.Denot) → other < l.place → FitsAt g.A.Holds.held g.W.Holds.held l.active l.self other one → ⊥
