use Rattle.orc_typed.specs.Typed.{has_canonical_keys}
use Rattle.orc_typed.proofs.Steps.{then_last, else_last}
use Rattle.orc_typed.proofs.typed.+are_canonical_steps.Goals as goal

pub returns-then-are_canonical_steps : goal.returns-then-are_canonical_steps
returns-then-are_canonical_steps t c =
    then_last (has_canonical_keys c.args.schema.now) c.args.steps.now c.in-Some.front.now c.in-Some.last.now c.in-Some.ensures.cases.0
    c.are_canonical_steps.result c.has_canonical_keys.result c.are_canonical_steps.ensures c.if-are_canonical_steps.true c.has_canonical_keys.ensures

pub returns-else-are_canonical_steps : goal.returns-else-are_canonical_steps
returns-else-are_canonical_steps t c =
    else_last (has_canonical_keys c.args.schema.now) c.args.steps.now c.in-Some.front.now c.in-Some.last.now c.in-Some.ensures.cases.0
    c.are_canonical_steps.result c.are_canonical_steps.ensures c.if-are_canonical_steps.false
