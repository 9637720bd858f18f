-- An explained answer without what in particular is at fault.
use Rattle.std.proofs.Common.{◌≡◌, ℕ, Result, Err}
use Rattle.orc_decls.specs.declared.fault.BundleFault.{BundleFault}
use Rattle.orc_decls.specs.declared.rule.Rule.{Rule}
use Rattle.orc_lines.specs.Answers.{Explains, Gives, plain_fault}
use Rattle.orc_lines.specs.declared.fault.ExplainedFault.{ExplainedFault}
use Rattle.orc_lines.specs.declared.fault.ExplainedFault.TheVariants.{At, Memory}
use Rattle.orc_lines.proofs.Rules.{err}

pub plain_given : {X : Type 0} (answer : Result X (ℕ × Rule)) (fault : ExplainedFault) → Explains answer (err X ExplainedFault fault)
    → Gives answer (err X BundleFault (plain_fault fault))
plain_given answer (At line rule detail) h = h
plain_given answer Memory h = tt
