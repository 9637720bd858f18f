use Rattle.std.proofs.Common.{sym, ◌∙◌}
use Rattle.orc_typed.proofs.Steps.{each_found, none_last, none_before}
use Rattle.orc_typed.proofs.canonical.+canonical_steps.Goals as goal

pub returns-in_ok-push-in-Some-3 : goal.returns-in_ok-push-in-Some-3
returns-in_ok-push-in-Some-3 t c =
    each_found c.args.schema.now c.args.steps.now c.in-Some.front.now c.in-Some.last.now c.in-Some.ensures.cases.0
    c.in-Some-2.done c.push.new.self c.in-Some-3.step (sym c.in-Some-2.is ∙ c.in_ok-done.ensures) (sym c.in-Some-3.is ∙ c.in_ok-step-in-Some-2.ensures)
    c.in_ok-push-in-Some-3.ensures.ok

pub returns-in-None-2 : goal.returns-in-None-2
returns-in-None-2 t c =
    none_last c.args.schema.now c.args.steps.now c.in-Some.front.now c.in-Some.last.now c.in-Some.ensures.cases.0
    c.in-Some-2.done (sym c.in-Some-2.is ∙ c.in_ok-done.ensures) (sym c.in-None-2.is ∙ c.in_ok-step-in-Some-2.ensures)

pub returns-in-None : goal.returns-in-None
returns-in-None t c =
    none_before c.args.schema.now c.args.steps.now c.in-Some.front.now c.in-Some.last.now c.in-Some.ensures.cases.0
    (sym c.in-None.is ∙ c.in_ok-done.ensures)
