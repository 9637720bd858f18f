use Rattle.std.proofs.Common.{length, arith, ap}
use Rattle.orc_call.specs.Fields.{a_number}
use Rattle.orc_call.proofs.Grammars.{one_fails}
use Rattle.orc_call.proofs.fields.number_at.Goals as goal

pub returns-then-bytes-lt8-clause-reads : goal.returns-then-bytes-lt8-clause-reads
returns-then-bytes-lt8-clause-reads c = one_fails a_number c.args.bytes.now _ 0 c.bad.ensures (λ x rest lawful parts. omega (arith, ap length parts))
