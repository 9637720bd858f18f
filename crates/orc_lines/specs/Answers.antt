-- What readers answer.
use Rattle.std.specs.Prelude.{◌≡◌, ℕ, Result}
use Rattle.std.specs.declared.result.Result.TheVariants.{Ok, Err}
use Rattle.orc_decls.specs.declared.rule.Rule.{Rule}
use Rattle.orc_decls.specs.declared.fault.BundleFault.{BundleFault}
use Rattle.orc_decls.specs.declared.fault.BundleFault.TheVariants.{At, Memory}
use Rattle.orc_decls.specs.declared.fault.BundleFault.TheVariants as bundle
use Rattle.orc_lines.specs.declared.fault.LineFault.{LineFault}
use Rattle.orc_lines.specs.declared.fault.LineFault.TheVariants.{Breaks, Memory}
use Rattle.orc_lines.specs.declared.fault.ExplainedFault.{ExplainedFault}
use Rattle.orc_lines.specs.declared.fault.ExplainedFault.TheVariants as explained

-- the answer, a value or a line at fault with its rule; running out of memory may come in its place
abbrev pub Gives : {X : Type 0} → Result X (ℕ × Rule) → Result X BundleFault → Type 0
Gives answer (Ok value) = answer ≡ Ok value
Gives answer (Err (At line rule)) = answer ≡ Err (line, rule)
Gives answer (Err Memory) = Unit {0}

-- the same with what in particular is at fault, of which nothing is said
abbrev pub Explains : {X : Type 0} → Result X (ℕ × Rule) → Result X ExplainedFault → Type 0
Explains answer (Ok value) = answer ≡ Ok value
Explains answer (Err (explained.At line rule detail)) = answer ≡ Err (line, rule)
Explains answer (Err explained.Memory) = Unit {0}

-- a fault without what in particular is at fault
abbrev pub plain_fault : ExplainedFault → BundleFault
plain_fault (explained.At line rule detail) = bundle.At line rule
plain_fault explained.Memory = bundle.Memory

-- what a reader that changes what was read so far answers; memory may run out
abbrev pub Takes : {X T : Type 0} → Result X Rule → X → Result T LineFault → Type 0
Takes answer new (Ok _) = answer ≡ Ok new
Takes answer new (Err (Breaks rule detail)) = answer ≡ Err rule
Takes answer new (Err Memory) = Unit {0}

-- what a reader of a value answers; memory may run out
abbrev pub ReadsLine : {X : Type 0} → Result X Rule → Result X LineFault → Type 0
ReadsLine answer (Ok value) = answer ≡ Ok value
ReadsLine answer (Err (Breaks rule detail)) = answer ≡ Err rule
ReadsLine answer (Err Memory) = Unit {0}

-- what a fault of the line of this number is, with what in particular is at fault
abbrev pub explained_at : ℕ → LineFault → ExplainedFault
explained_at number (Breaks rule detail) = explained.At number rule detail
explained_at number Memory = explained.Memory

-- what a fault of the line of this number is
abbrev pub at_line : ℕ → LineFault → BundleFault
at_line number (Breaks rule detail) = bundle.At number rule
at_line number Memory = bundle.Memory
