use Rattle.std.proofs.Common.{sym, refl}
use Rattle.orc_call.specs.declared.call.Action.TheVariants.{BasePut}
use Rattle.orc_script.proofs.CallLines.{acted}
use Rattle.orc_script.proofs.script.Script.take_base_put.Goals as goal

pub returns-clause-lawful : goal.returns-clause-lawful
returns-clause-lawful c = λ most so_far here.
    acted c.args.decls.now most c.args.self.now so_far here (BasePut c.in_ok-put.put) c.push.new.self (sym c.if-is_call_full.ensures)
    c.in_ok-put.ensures.lawful refl c.in_ok-push.ensures.ok
