-- What is read as a bundle is lawful.
use Rattle.std.proofs.Common.{◌≡◌, ◌≤◌, ◌<◌, ◌+◌, ◌^◌, ℕ, List, length, map, Result, Ok, Err, refl, ap, ◌∙◌, subst, arith, IfOk}
use Rattle.std.specs.List.{All}
use Rattle.std.proofs.lemmas.List.{length-take}
use Rattle.orc_schema_nodes.specs.Sound.{IsSound}
use Rattle.orc_decls.specs.Declarations.{AreDecls, accept_of}
use Rattle.orc_lines.specs.declared.fault.ExplainedFault.{ExplainedFault}
use Rattle.orc_decls.specs.declared.rule.Rule.{Rule}
use Rattle.orc_lines.specs.Answers.{Explains}
use Rattle.orc_lines.specs.Lines.{seen}
use Rattle.orc_lines.specs.Rules.{on_ok}
use Rattle.orc_lines.specs.declared.lines.TheConstants.{LARGEST_BUNDLE}
use Rattle.orc_declarations.specs.Bundles.{BeginsScript, bundle_at}
use Rattle.orc_declarations.specs.Declarations.{Front}
use Rattle.orc_declarations.specs.declared.bundle.Bundle.{Bundle}
use Rattle.orc_bundle.specs.Bundles.{IsBundle}
use Rattle.orc_lines.proofs.Rules.{on_ok_ok, same_ok}

module _ (bytes : List ℕ) (read : Result Front (ℕ × Rule)) where
  abbrev Answers : Result Bundle ExplainedFault → Type 0
  Answers r = Explains (on_ok read (λ front. Ok (bundle_at bytes front))) r

  -- the front that a bundle is made of
  made : (b : Bundle) → Answers (Ok b) → (front : Front) × (bundle_at bytes front ≡ b)
  made b h = let found = on_ok_ok read (λ front. Ok (bundle_at bytes front)) b h in (found.0, same_ok (bundle_at bytes found.0) b found.1.1)

  pub lawful : (r : Result Bundle ExplainedFault) → Answers r → IfOk r (λ b. AreDecls b.decls) → IfOk r (λ b. All IsSound b.decls.schemas) → IfOk r (BeginsScript bytes)
      → IfOk r IsBundle
  lawful (Ok b) h decls sound script =
      let front = made b h in
      record {
        decls = decls;
        sound = sound;
        accepts = subst (λ (x : Bundle). x.accepts ≡ map (accept_of x.decls.schemas) x.decls.devices) front.1 refl;
        lines = script.number;
        small = script.small;
      }
  lawful (Err fault) h decls sound script = tt

  pub within : (r : Result Bundle ExplainedFault) → IfOk r (BeginsScript bytes) → IfOk r (λ b. b.rest ≤ length bytes)
  within (Ok b) script = script.within
  within (Err fault) script = tt

  pub text_within : (r : Result Bundle ExplainedFault) → Answers r → IfOk r (λ b. length b.decls.text ≤ length bytes)
  text_within (Ok b) h =
      let front = made b h in
      let taken = length-take front.0.size bytes in
      subst (λ (x : Bundle). length x.decls.text ≤ length bytes) front.1 (omega arith)
  text_within (Err fault) h = tt

-- of all bytes what is seen is looked at

pub within_all : (bytes looked : List ℕ) (r : Result Bundle ExplainedFault) → looked ≡ seen bytes → IfOk r (λ b. b.rest ≤ length looked) → IfOk r (λ b. b.rest ≤ length bytes)
within_all bytes looked (Ok b) is within = let size = ap length is ∙ length-take (LARGEST_BUNDLE + 1) bytes in omega arith
within_all bytes looked (Err fault) is within = tt

pub text_short : (bytes looked : List ℕ) (r : Result Bundle ExplainedFault) → looked ≡ seen bytes → IfOk r (λ b. length b.decls.text ≤ length looked)
    → IfOk r (λ b. length b.decls.text < 2 ^ 32)
text_short bytes looked (Ok b) is within = let size = ap length is ∙ length-take (LARGEST_BUNDLE + 1) bytes in omega arith
text_short bytes looked (Err fault) is within = tt
