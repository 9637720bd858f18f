use Rattle.std.proofs.Common.{take}
use Rattle.std.specs.List.{flat_map}
use Rattle.orc_call.specs.Fields.{AreLawful}
use Rattle.orc_call.specs.Encoding.{action_fields}
use Rattle.orc_call.proofs.lawful.are_actions.Given as goal

abbrev pub invariant-loop-action : goal.invariant-loop-action
invariant-loop-action l = AreLawful (flat_map action_fields (take l.action-index l.actions))
