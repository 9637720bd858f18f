use Rattle.std.proofs.Common.{◌∷◌, ◌++◌, [], ap, sym, ◌∙◌}
use Rattle.orc_script.specs.Scripts.{step_on_device}
use Rattle.orc_script.specs.declared.step.ScriptStep.{ScriptStep}
use Rattle.orc_script.proofs.Placed.{on_device_step, step_more}
use Rattle.orc_script.proofs.script.Script.take_device.Goals as goal

pub returns-clause-lawful : goal.returns-clause-lawful
returns-clause-lawful c = λ most so_far.
    let d = c.args.decls.now in
    step_more d most c.args.self.now (step_on_device c.args.word c.in-Some.n) c.push.new.self so_far
    (on_device_step d c.args.word c.in_ok-name.name c.in-Some.n (sym c.in-Some.ensures))
    (c.in_ok-push.ensures.ok ∙ ap (λ (step : ScriptStep). c.args.self.now.steps ++ step ∷ []) c.step_on_device.ensures)
