use Rattle.orc_call.specs.declared.call.Action.TheVariants.{Redeploy}
use Rattle.orc_script.proofs.CallLines.{acted}
use Rattle.orc_script.proofs.script.Script.take_redeploy.Goals as goal

pub returns-clause-lawful : goal.returns-clause-lawful
returns-clause-lawful c = λ most so_far here.
    acted c.args.decls.now most c.args.self.now so_far here (Redeploy c.in_ok-id.id) c.push.new.self c.in_ok-id.ensures.room
    c.in_ok-id.ensures.lawful c.in_ok-id.ensures.new c.in_ok-push.ensures.ok
