use Rattle.std.proofs.Common.{Err, ap}
use Rattle.orc_call.proofs.Prefixes.{encoding_found, encoding_again, encoding_not_stuck, bad_at}
use Rattle.orc_call.proofs.decoding.decode.Goals as goal

pub returns-in-Ok-clause-found : goal.returns-in-Ok-clause-found
returns-in-Ok-clause-found c = encoding_found c.args.bytes.now c.in-Ok.call c.in-Ok.rest.now c.in-Ok.ensures.reads

pub returns-in-Ok-clause-again : goal.returns-in-Ok-clause-again
returns-in-Ok-clause-again c = λ call rest lawful parts. encoding_again c.args.bytes.now c.in-Ok.call call rest c.in-Ok.rest.now c.in-Ok.ensures.reads lawful parts

pub returns-in-Err-Bad-clause-again : goal.returns-in-Err-Bad-clause-again
returns-in-Err-Bad-clause-again c = λ call rest lawful parts.
    absurd (encoding_not_stuck c.args.bytes.now c.in-Err-Bad.left call rest (rw c.in-Err-Bad.field-0-is at c.in-Err-Bad.ensures.reads) lawful parts)

pub returns-in-Err-Bad-clause-bad : goal.returns-in-Err-Bad-clause-bad
returns-in-Err-Bad-clause-bad c = bad_at c.args.bytes.now c.in-Err-Bad.left (rw c.in-Err-Bad.field-0-is at c.in-Err-Bad.ensures.reads)

pub returns-in-Err-Memory-clause-bad : goal.returns-in-Err-Memory-clause-bad
returns-in-Err-Memory-clause-bad c = c.in-Err-Memory.ensures.memory (ap Err c.in-Err-Memory.field-0-is)
