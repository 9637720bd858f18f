use Rattle.std.proofs.Common.{◌≡◌, length}
use Rattle.orc_yang.specs.Quoted.{ends_line}
use Rattle.orc_yang.proofs.quoted.ends_line.Given as goal

-- blanks alone stand before the rest
abbrev pub invariant-loop-rest : goal.invariant-loop-rest
invariant-loop-rest l = ends_line l.rest ≡ ends_line l.text

abbrev pub decreases-loop-rest : goal.decreases-loop-rest
decreases-loop-rest l = length l.rest
