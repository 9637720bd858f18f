use Rattle.std.proofs.Common.{Some, ap, ◌∙◌}
use Rattle.orc_path.specs.Steps.{PathStep}
use Rattle.orc_schema_nodes.proofs.Alike.{step_here, step_past}
use Rattle.orc_schema_nodes.proofs.sought.step_name.Goals as goal

pub returns-then-place-steps : goal.returns-then-place-steps
returns-then-place-steps c = ap Some (c.as_str.ensures.value ∙ ap (λ (step : PathStep). step.node) c.step.view_is)
    ∙ step_here c.args.steps.now c.args.place c.index-steps-place.result c.if-place-steps.true c.index-steps-place.is

pub returns : goal.returns
returns c = step_past c.args.steps.now c.args.place c.if-place-steps.false
