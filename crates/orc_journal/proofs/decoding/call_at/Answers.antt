use Rattle.orc_journal.proofs.Intents.{call_found}
use Rattle.orc_journal.proofs.decoding.call_at.Goals as goal

pub returns-in-Ok : goal.returns-in-Ok
returns-in-Ok c = call_found c.args.bytes.now c.in-Ok.call c.in-Ok.len c.in-Ok.ensures.found
