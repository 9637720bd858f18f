use Rattle.orc_script.specs.declared.step.ScriptStep.TheVariants.{Meta}
use Rattle.orc_script.proofs.Placed.{step_more}
use Rattle.orc_script.proofs.script.Script.take_meta.Goals as goal

pub returns-clause-lawful : goal.returns-clause-lawful
returns-clause-lawful c = λ most so_far.
    step_more c.args.decls.now most c.args.self.now (Meta c.in_ok-node.node.0 c.in_ok-node.node.1) c.push.new.self so_far
    c.in_ok-node.ensures.lawful c.in_ok-push.ensures.ok
