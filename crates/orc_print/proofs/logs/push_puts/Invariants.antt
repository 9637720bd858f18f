use Rattle.std.proofs.Common.{◌≡◌, ◌++◌, take}
use Rattle.std.specs.String.{string_bytes}
use Rattle.std.specs.List.{flat_map}
use Rattle.orc_print.specs.Logs.{put_lines}
use Rattle.orc_print.proofs.logs.push_puts.Given as goal

abbrev pub invariant-loop-change : goal.invariant-loop-change
invariant-loop-change l = string_bytes l.out ≡ string_bytes l.initial.out ++ flat_map put_lines (take l.change-index l.changes)
