use Rattle.orc_queue.specs.Fitting.{CoversNone}
use Rattle.orc_queue.proofs.Loops.{holds_more, fails_there, holds_all}
use Rattle.orc_queue.proofs.fitting.cover_none.Goals as goal

pub returns-then-not-covers_none : goal.returns-then-not-covers_none
returns-then-not-covers_none c =
    fails_there (CoversNone c.args.reads.now) c.args.targets.now c.loop-target.target-index c.target-item.result c.covers_none.result
    c.covers_none.ensures c.loop-target-test.true c.target-item.is c.if-not-covers_none.true

pub loop-target-preserved : goal.loop-target-preserved
loop-target-preserved c =
    holds_more (CoversNone c.args.reads.now) c.args.targets.now c.loop-target.target-index c.target-item.result c.covers_none.result
    c.covers_none.ensures c.loop-target-test.true c.target-item.is c.loop-target.invariant c.if-not-covers_none.false

pub returns : goal.returns
returns c = holds_all (CoversNone c.args.reads.now) c.args.targets.now c.loop-target.target-index c.loop-target-test.false c.loop-target.invariant
