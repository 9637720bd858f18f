use Rattle.orc_call.specs.Encoding.{action_fields}
use Rattle.orc_call.specs.inside.Reading.{IsWhole, many}
use Rattle.orc_call.proofs.actions.actions_at.Given as goal

-- what is read so far
abbrev pub invariant-loop : goal.invariant-loop
invariant-loop l = IsWhole (many action_fields l.counter) l.bytes l.actions l.rest
