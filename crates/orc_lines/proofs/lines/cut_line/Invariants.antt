use Rattle.std.proofs.Common.{◌≡◌, take, true}
use Rattle.orc_lines.specs.inside.Blocks.{lacks}
use Rattle.orc_lines.proofs.lines.cut_line.Given as goal

abbrev pub invariant-loop-at : goal.invariant-loop-at
invariant-loop-at l = lacks 10 (take l.at l.bytes) ≡ true
