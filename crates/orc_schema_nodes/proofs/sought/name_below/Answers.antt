use Rattle.std.proofs.Common.{Some, ap, ◌∙◌, arith}
use Rattle.orc_path.specs.Steps.{PathStep}
use Rattle.orc_schema_nodes.proofs.Alike.{below_here, below_last, below_past}
use Rattle.orc_schema_nodes.proofs.sought.name_below.Goals as goal

pub returns-then-place-steps : goal.returns-then-place-steps
returns-then-place-steps c = ap Some (c.as_str.ensures.value ∙ ap (λ (step : PathStep). step.node) c.step.view_is)
    ∙ below_here c.args.last.now c.args.steps.now c.args.place c.index-steps-place.result c.if-place-steps.true c.index-steps-place.is

pub returns-then-place-steps-2 : goal.returns-then-place-steps-2
returns-then-place-steps-2 c = below_last c.args.last.now c.args.steps.now c.args.place c.if-place-steps-2.true

pub returns : goal.returns
returns c = below_past c.args.last.now c.args.steps.now c.args.place (omega arith)
