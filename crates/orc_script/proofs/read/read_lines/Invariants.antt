use Rattle.std.proofs.Common.{◌≡◌, ◌+◌, ◌≤◌, length}
use Rattle.orc_lines.specs.Lines.{lines_of}
use Rattle.orc_script.specs.Scripts.{script_steps, no_steps}
use Rattle.orc_script.specs.inside.Lawful.{AreSteps}
use Rattle.orc_lines.specs.declared.lines.TheConstants.{LARGEST_BUNDLE}
use Rattle.orc_script.proofs.read.read_lines.Given as goal

-- what is still to be read decides the answer
abbrev pub invariant-lines : goal.invariant-lines
invariant-lines l =
    (script_steps l.decls no_steps l.fn.at l.fn.number (lines_of l.bytes) ≡ script_steps l.decls l.script l.at l.number (lines_of l.rest))
    × (l.at + length l.rest ≡ l.fn.at + length l.bytes)
    × (l.number ≤ l.at)
    × (l.at ≤ LARGEST_BUNDLE)
    × AreSteps l.decls l.number l.script

abbrev pub decreases-lines : goal.decreases-lines
decreases-lines l = length l.rest
