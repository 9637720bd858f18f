use Rattle.std.proofs.Common.{All, take}
use Rattle.orc_queue.specs.Fitting.{FitTogether}
use Rattle.orc_queue.proofs.queue.fits_all.Given as goal

abbrev pub invariant-loop-other : goal.invariant-loop-other
invariant-loop-other g l = All (λ other. FitTogether l.held (g.H.Holds.held other)) (take l.other-index l.others)
