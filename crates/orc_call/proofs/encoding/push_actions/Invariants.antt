use Rattle.std.proofs.Common.{◌≡◌, ◌++◌, take}
use Rattle.std.specs.List.{flat_map}
use Rattle.orc_call.proofs.Written.{action_bytes}
use Rattle.orc_call.proofs.encoding.push_actions.Given as goal

abbrev pub invariant-loop-action : goal.invariant-loop-action
invariant-loop-action l = l.out.items ≡ l.fn.out.items ++ flat_map action_bytes (take l.action-index l.actions)
