use Rattle.std.proofs.Common.{IsTrue, subst}
use Rattle.orc_decls.proofs.Fits.{list_all-read}
use Rattle.orc_script.specs.Steps.{is_step}
use Rattle.orc_script.specs.declared.step.ScriptStep.{ScriptStep}
use Rattle.orc_tables.proofs.plans.planning.push_steps.Goals as goal

-- a call among the steps is one that the declarations allow
pub take_step-requires-clause-call : goal.take_step-requires-clause-call
take_step-requires-clause-call c =
    λ call same. subst (λ (s : ScriptStep). IsTrue (is_step c.args.decls.now s)) same
    (list_all-read (is_step c.args.decls.now) c.args.steps.now c.loop-step.step-index c.step-item.result c.loop-step-test.true c.step-item.is c.requires.steps)
