use Rattle.std.proofs.Common.{not, ap}
use Rattle.orc_expr.specs.Touches.{Covers}
use Rattle.orc_queue.proofs.Loops.{holds_more, fails_there, turned, holds_all}
use Rattle.orc_queue.proofs.fitting.covers_none.Goals as goal

pub returns-then-covers : goal.returns-then-covers
returns-then-covers c =
    fails_there (λ reading. Covers c.args.target.now reading → ⊥) c.args.reads.now c.loop-read.read-index c.read-item.result (not c.covers.result)
    (turned c.covers.result c.covers.ensures) c.loop-read-test.true c.read-item.is (ap not c.if-covers.true)

pub loop-read-preserved : goal.loop-read-preserved
loop-read-preserved c =
    holds_more (λ reading. Covers c.args.target.now reading → ⊥) c.args.reads.now c.loop-read.read-index c.read-item.result (not c.covers.result)
    (turned c.covers.result c.covers.ensures) c.loop-read-test.true c.read-item.is c.loop-read.invariant (ap not c.if-covers.false)

pub returns : goal.returns
returns c =
    holds_all (λ reading. Covers c.args.target.now reading → ⊥) c.args.reads.now c.loop-read.read-index c.loop-read-test.false c.loop-read.invariant
