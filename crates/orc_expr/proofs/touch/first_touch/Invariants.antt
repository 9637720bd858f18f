use Rattle.std.proofs.Common.{take}
use Rattle.orc_expr.specs.inside.Covering.{IsBest}
use Rattle.orc_expr.proofs.touch.first_touch.Given as goal

abbrev pub invariant-loop-at : goal.invariant-loop-at
invariant-loop-at l = IsBest l.reads.reads (take l.at l.writes) l.best
