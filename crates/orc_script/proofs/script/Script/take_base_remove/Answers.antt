use Rattle.std.proofs.Common.{sym, refl}
use Rattle.orc_call.specs.declared.call.Action.TheVariants.{BaseRemove}
use Rattle.orc_script.proofs.CallLines.{acted}
use Rattle.orc_script.proofs.script.Script.take_base_remove.Goals as goal

pub returns-clause-lawful : goal.returns-clause-lawful
returns-clause-lawful c = λ most so_far here.
    acted c.args.decls.now most c.args.self.now so_far here (BaseRemove c.in_ok-named.named.0 c.in_ok-named.named.1) c.push.new.self
    (sym c.if-is_call_full.ensures) c.in_ok-named.ensures.lawful refl c.in_ok-push.ensures.ok
