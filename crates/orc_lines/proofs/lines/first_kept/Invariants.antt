use Rattle.std.proofs.Common.{◌≡◌, length}
use Rattle.orc_lines.specs.Lines.{lines_of, first_kept}
use Rattle.orc_lines.proofs.lines.first_kept.Given as goal

abbrev pub invariant-lines : goal.invariant-lines
invariant-lines l = first_kept (lines_of l.bytes) ≡ first_kept (lines_of l.rest)

abbrev pub decreases-lines : goal.decreases-lines
decreases-lines l = length l.rest
