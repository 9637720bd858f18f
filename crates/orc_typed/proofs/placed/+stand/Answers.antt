use Rattle.orc_typed.specs.Typed.{stands_at}
use Rattle.orc_typed.proofs.Steps.{then_last, else_last}
use Rattle.orc_typed.proofs.placed.+stand.Goals as goal

pub returns-then-stand : goal.returns-then-stand
returns-then-stand t c =
    then_last (stands_at c.args.schema.now) c.args.steps.now c.in-Some.front.now c.in-Some.last.now c.in-Some.ensures.cases.0
    c.stand.result c.stands_at.result c.stand.ensures c.if-stand.true c.stands_at.ensures

pub returns-else-stand : goal.returns-else-stand
returns-else-stand t c =
    else_last (stands_at c.args.schema.now) c.args.steps.now c.in-Some.front.now c.in-Some.last.now c.in-Some.ensures.cases.0
    c.stand.result c.stand.ensures c.if-stand.false
