use Rattle.orc_script.proofs.Lawful.{written}
use Rattle.orc_script.proofs.script.Script.take_write.Goals as goal

pub returns-clause-lawful : goal.returns-clause-lawful
returns-clause-lawful c = λ most so_far here.
    written c.args.decls.now most c.args.self.now c.in_ok-write.write c.push.new.self so_far here c.in_ok-write.ensures.lawful c.in_ok-push.ensures.ok
