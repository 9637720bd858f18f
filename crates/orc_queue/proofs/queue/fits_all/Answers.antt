use Rattle.std.proofs.Common.{IsTrue, ◌↔◌, subst}
use Rattle.orc_queue.specs.Fitting.{FitTogether}
use Rattle.orc_queue.specs.declared.held.Held.{Held}
use Rattle.orc_queue.proofs.Loops.{holds_more, fails_there, holds_all}
use Rattle.orc_queue.proofs.queue.fits_all.Goals as goal

pub returns-then-not-fits : goal.returns-then-not-fits
returns-then-not-fits g c =
    fails_there (λ other. FitTogether c.args.held.now (g.H.Holds.held other)) c.args.others.now c.loop-other.other-index c.other-item.result c.fits.result
    (subst (λ (h : Held). IsTrue c.fits.result ↔ FitTogether c.args.held.now h) c.held.ensures c.fits.ensures)
    c.loop-other-test.true c.other-item.is c.if-not-fits.true

pub loop-other-preserved : goal.loop-other-preserved
loop-other-preserved g c =
    holds_more (λ other. FitTogether c.args.held.now (g.H.Holds.held other)) c.args.others.now c.loop-other.other-index c.other-item.result c.fits.result
    (subst (λ (h : Held). IsTrue c.fits.result ↔ FitTogether c.args.held.now h) c.held.ensures c.fits.ensures)
    c.loop-other-test.true c.other-item.is c.loop-other.invariant c.if-not-fits.false

pub returns : goal.returns
returns g c = holds_all (λ other. FitTogether c.args.held.now (g.H.Holds.held other)) c.args.others.now c.loop-other.other-index c.loop-other-test.false c.loop-other.invariant
