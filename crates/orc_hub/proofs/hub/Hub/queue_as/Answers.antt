use Rattle.std.proofs.Common.{refl, ap, ◌∙◌, List}
use Rattle.orc_call.specs.declared.answer.Answer.TheVariants as answer
use Rattle.orc_rules.specs.Asked.{open_of}
use Rattle.orc_rules.specs.declared.asked.Asked.{Asked}
use Rattle.orc_hub.proofs.Closed.{still_closed}
use Rattle.orc_hub.proofs.Waiting.{kept_none, waits_so}
use Rattle.orc_hub.proofs.hub.Hub.queue_as.Goals as goal

pub number-requires-clause-closed : goal.number-requires-clause-closed
number-requires-clause-closed g c =
    ap (λ (asked : List Asked). open_of asked c.args.call.caller) c.in-Ok.ensures.put
    ∙ still_closed c.args.self.now.askers c.args.call answer.Memory c.requires.closed

pub returns-in-Ok : goal.returns-in-Ok
returns-in-Ok g c =
    waits_so c.args.self.now c.args.call c.args.plan c.put.new.self c.in-Ok.ensures.put c.in-Ok.asker c.in-Ok.ensures.place
    c.in-Ok.last c.in-Ok.ensures.last
    c.number.result c.number.new.self c.number.ensures

pub returns-in-Err : goal.returns-in-Err
returns-in-Err g c = (refl, record { kept = kept_none c.args.self.now.askers c.put.new.self c.args.call c.in-Err.ensures.none c.in-Err.ensures.kept; rest = refl })
