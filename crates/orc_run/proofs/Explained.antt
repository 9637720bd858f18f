-- A bundle that is refused, where what in particular is at fault is kept apart.
use Rattle.std.proofs.Common.{◌≡◌, ◌∙◌, ℕ, List, Result, Ok, Err, ap, sym}
use Rattle.orc_bundle.specs.Bundles.{bundle_of, scripted_of}
use Rattle.orc_bundle.specs.declared.scripted.ScriptedBundle.{ScriptedBundle}
use Rattle.orc_declarations.specs.declared.bundle.Bundle.{Bundle}
use Rattle.orc_decls.specs.declared.fault.BundleFault.{BundleFault}
use Rattle.orc_decls.specs.declared.rule.Rule.{Rule}
use Rattle.orc_lines.specs.Answers.{Explains, Gives, plain_fault}
use Rattle.orc_lines.specs.Rules.{on_ok}
use Rattle.orc_lines.specs.declared.fault.ExplainedFault.{ExplainedFault}
use Rattle.orc_lines.specs.declared.fault.ExplainedFault.TheVariants.{At, Memory}
use Rattle.orc_lines.proofs.Explained.{plain_given}
use Rattle.orc_lines.proofs.Rules.{err}
use Rattle.orc_script.specs.Scripts.{script_of}
use Rattle.orc_script.specs.declared.step.ScriptStep.{ScriptStep}

module _ (bytes : List ℕ) where
  -- what the steps make of a bundle
  abbrev with_steps : Bundle → List ScriptStep → Result ScriptedBundle (ℕ × Rule)
  with_steps bundle steps = Ok (record { decls = bundle.decls; steps = steps })

  abbrev with_script : Bundle → Result ScriptedBundle (ℕ × Rule)
  with_script bundle = on_ok (script_of bundle.decls bytes bundle.rest bundle.line) (with_steps bundle)

  -- the declarations are at fault
  unread : (fault : ExplainedFault) → Explains (bundle_of bytes) (err Bundle ExplainedFault fault)
      → Explains (scripted_of bytes) (err ScriptedBundle ExplainedFault fault)
  unread (At line rule detail) h = ap (λ (r : Result Bundle (ℕ × Rule)). on_ok r with_script) h
  unread Memory h = tt

  pub declarations_refused : (fault : ExplainedFault) → Explains (bundle_of bytes) (err Bundle ExplainedFault fault)
      → Gives (scripted_of bytes) (err ScriptedBundle BundleFault (plain_fault fault))
  declarations_refused fault h = plain_given (scripted_of bytes) fault (unread fault h)

  -- the script is
  unscripted : (bundle : Bundle) → bundle_of bytes ≡ Ok bundle → (fault : ExplainedFault)
      → Explains (script_of bundle.decls bytes bundle.rest bundle.line) (err (List ScriptStep) ExplainedFault fault)
      → Explains (scripted_of bytes) (err ScriptedBundle ExplainedFault fault)
  unscripted bundle read (At line rule detail) h =
      ap (λ (r : Result Bundle (ℕ × Rule)). on_ok r with_script) read
      ∙ ap (λ (r : Result (List ScriptStep) (ℕ × Rule)). on_ok r (with_steps bundle)) h
  unscripted bundle read Memory h = tt

  pub script_refused : (bundle : Bundle) → bundle_of bytes ≡ Ok bundle → (fault : ExplainedFault)
      → Explains (script_of bundle.decls bytes bundle.rest bundle.line) (err (List ScriptStep) ExplainedFault fault)
      → Gives (scripted_of bytes) (err ScriptedBundle BundleFault (plain_fault fault))
  script_refused bundle read fault h = plain_given (scripted_of bytes) fault (unscripted bundle read fault h)
