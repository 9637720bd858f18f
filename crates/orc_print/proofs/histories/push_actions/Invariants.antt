use Rattle.std.proofs.Common.{◌≡◌, ◌++◌, codes, take}
use Rattle.std.specs.String.{string_bytes}
use Rattle.std.specs.List.{flat_map}
use Rattle.orc_decls.specs.Texts.{action_lines}
use Rattle.orc_print.proofs.histories.push_actions.Given as goal

abbrev pub invariant-loop-action : goal.invariant-loop-action
invariant-loop-action l = string_bytes l.out ≡ string_bytes l.initial.out ++ flat_map (action_lines (codes "  ")) (take l.action-index l.actions)
