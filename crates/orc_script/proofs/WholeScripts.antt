-- The script of a bundle's text.
use Rattle.std.proofs.Common.{◌≡◌, ◌≤◌, ◌+◌, ◌-◌, ℕ, List, length, drop, Result, Ok, Err, ap, ◌∙◌, arith, subst, IfOk, OnOk, IsTrue}
use Rattle.std.specs.List.{list_all}
use Rattle.std.proofs.lemmas.List.{length-drop, length-take}
use Rattle.orc_decls.specs.declared.declarations.Decls.{Decls}
use Rattle.orc_lines.specs.declared.fault.ExplainedFault.{ExplainedFault}
use Rattle.orc_lines.specs.Answers.{Explains}
use Rattle.orc_lines.specs.Lines.{lines_of, seen}
use Rattle.orc_lines.specs.declared.lines.TheConstants.{LARGEST_BUNDLE}
use Rattle.orc_script.specs.Scripts.{no_steps, script_of, script_steps}
use Rattle.orc_script.specs.Steps.{IsScript, is_step}
use Rattle.orc_script.specs.declared.step.ScriptStep.{ScriptStep}
use Rattle.orc_lines.proofs.Lawful.{on_ok_more}
use Rattle.orc_script.proofs.Grown.{limited_script}

-- steps that are read are a script
pub script_lawful : (decls : Decls) (at n : ℕ) (lines : List (List ℕ)) (r : Result (List ScriptStep) ExplainedFault) → Explains (script_steps decls no_steps at n lines) r
    → IfOk r (λ steps. IsTrue (list_all (is_step decls) steps)) → IfOk r (IsScript decls)
script_lawful decls at n lines (Ok steps) h allowed =
    let script = limited_script decls at n lines steps h in
    record { allowed = allowed; few = script.0; callers = script.1 }
script_lawful decls at n lines (Err fault) h allowed = tt

module _ (bytes looked later : List ℕ) (rest : ℕ) (is : looked ≡ seen bytes) (slice : later ≡ drop rest looked) where
  -- the lines that are read are those after so many bytes of what is seen
  pub read_there : (decls : Decls) (n : ℕ) (r : Result (List ScriptStep) ExplainedFault) → Explains (script_steps decls no_steps rest n (lines_of later)) r
      → Explains (script_of decls bytes rest n) r
  read_there decls n r h =
      subst (λ (x : List ℕ). Explains (script_steps decls no_steps rest n (lines_of x)) r) (slice ∙ ap (drop rest) is) h

  -- what is seen has so many bytes
  pub stands_there : rest ≤ length bytes → rest ≤ LARGEST_BUNDLE → rest ≤ length looked
  stands_there within small = let size = ap length is ∙ length-take (LARGEST_BUNDLE + 1) bytes in omega arith

  -- where the lines that are read keep the limit, all bytes do
  pub small_whole : (r : Result (List ScriptStep) ExplainedFault) → rest ≤ length looked → OnOk r (rest + length later ≤ LARGEST_BUNDLE) → OnOk r (length bytes ≤ LARGEST_BUNDLE)
  small_whole r within h = on_ok_more r _ _ few h where
    few : rest + length later ≤ LARGEST_BUNDLE → length bytes ≤ LARGEST_BUNDLE
    few small =
        let size = ap length is ∙ length-take (LARGEST_BUNDLE + 1) bytes in
        let left = ap length slice ∙ length-drop rest looked in omega arith
