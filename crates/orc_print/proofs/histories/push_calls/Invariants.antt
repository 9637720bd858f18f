use Rattle.std.proofs.Common.{◌≡◌, ◌+◌, ◌++◌, drop}
use Rattle.std.specs.String.{string_bytes}
use Rattle.orc_print.specs.Printed.{history_lines}
use Rattle.orc_print.proofs.histories.push_calls.Given as goal

-- the lines of the calls that are left give the whole
abbrev pub invariant-loop-index : goal.invariant-loop-index
invariant-loop-index l = string_bytes l.out ++ history_lines (l.index + 1) (drop l.index l.history) ≡ string_bytes l.initial.out ++ history_lines 1 l.history
