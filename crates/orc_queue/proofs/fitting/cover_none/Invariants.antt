use Rattle.std.proofs.Common.{take, All}
use Rattle.orc_queue.specs.Fitting.{CoversNone}
use Rattle.orc_queue.proofs.fitting.cover_none.Given as goal

abbrev pub invariant-loop-target : goal.invariant-loop-target
invariant-loop-target l = All (CoversNone l.reads) (take l.target-index l.targets)
