use Rattle.orc_typed.proofs.PlainTexts.{canon_of-plain}
use Rattle.orc_json.proofs.keys.entry_key.Goals as goal

pub returns-in-Ok-clause-key : goal.returns-in-Ok-clause-key
returns-in-Ok-clause-key c = canon_of-plain c.in-Some.kind.now c.in-Ok.text c.in-Ok.text c.in-Ok.ensures.canonical
