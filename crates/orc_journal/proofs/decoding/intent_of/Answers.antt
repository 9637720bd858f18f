use Rattle.std.proofs.lemmas.Option.{MatchOption-at_none, MatchOption-at_some}
use Rattle.orc_journal.proofs.Intents.{no_call, no_devices}
use Rattle.orc_journal.proofs.decoding.intent_of.Goals as goal

pub returns-in-None : goal.returns-in-None
returns-in-None c = no_call c.args.payload.now c.in-Some.t c.in-Some.rest.now c.in-Some.ensures (MatchOption-at_none _ _ c.in-None.is c.in_ok-call.ensures)

pub returns-in-None-2 : goal.returns-in-None-2
returns-in-None-2 c =
    no_devices c.args.payload.now c.in-Some.t c.in-Some.rest.now c.in-Some-2.call c.in-Some-2.rest.now c.in-Some.ensures
    (MatchOption-at_some _ _ _ c.in-Some-2.is c.in_ok-call.ensures) (MatchOption-at_none _ _ c.in-None-2.is c.in_ok-devices-in-Some-2.ensures)
