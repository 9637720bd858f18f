use Rattle.std.proofs.Common.{◌≡◌, ◌+◌, ◌≤◌, false, drop, length}
use Rattle.orc_lines.specs.Lines.{lines_of}
use Rattle.orc_declarations.specs.Declarations.{declarations_of, is_script}
use Rattle.orc_lines.specs.Lawful.{AreDeclared}
use Rattle.orc_lines.specs.declared.lines.TheConstants.{LARGEST_BUNDLE}
use Rattle.orc_declarations.proofs.read.read_declared.Given as goal

-- what is still to be read decides the answer
abbrev pub invariant-lines : goal.invariant-lines
invariant-lines l =
    (declarations_of l.initial.declared 0 0 (lines_of l.bytes) ≡ declarations_of l.declared l.at l.number (lines_of l.rest))
    × (l.at + length l.rest ≡ length l.bytes)
    × (l.number ≤ l.at)
    × (l.at ≤ LARGEST_BUNDLE)
    × AreDeclared l.declared
    × (is_script l.declared.section ≡ false)
    × (l.rest ≡ drop l.at l.bytes)

abbrev pub decreases-lines : goal.decreases-lines
decreases-lines l = length l.rest
