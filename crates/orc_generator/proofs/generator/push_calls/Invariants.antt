use Rattle.std.proofs.Common.{◌≡◌, ◌++◌}
use Rattle.std.specs.String.{string_bytes}
use Rattle.orc_generator.specs.Generated.{behind_calls, generated_calls}
use Rattle.orc_generator.proofs.generator.push_calls.Given as goal

-- what stands so far, and the state of the draws
abbrev pub invariant-loop-call : goal.invariant-loop-call
invariant-loop-call l =
    (string_bytes l.out ≡ string_bytes l.initial.out ++ generated_calls l.number l.devices l.calls l.call)
    × (l.draws.state ≡ behind_calls l.number l.call)
