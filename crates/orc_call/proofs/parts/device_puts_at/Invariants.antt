use Rattle.orc_call.specs.Encoding.{device_put_fields}
use Rattle.orc_call.specs.inside.Reading.{IsWhole, many}
use Rattle.orc_call.proofs.parts.device_puts_at.Given as goal

-- what is read so far
abbrev pub invariant-loop : goal.invariant-loop
invariant-loop l = IsWhole (many device_put_fields l.counter) l.bytes l.writes l.rest
