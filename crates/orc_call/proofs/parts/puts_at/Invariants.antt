use Rattle.std.specs.declared.option.Option.TheVariants.{None}
use Rattle.orc_call.specs.inside.Reading.{IsWhole, puts}
use Rattle.orc_call.proofs.parts.puts_at.Given as goal

-- what is read so far
abbrev pub invariant-loop : goal.invariant-loop
invariant-loop l = IsWhole (puts None l.counter) l.bytes l.puts l.rest
