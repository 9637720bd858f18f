-- What a bundle is where the declarations end.
use Rattle.std.proofs.Common.{◌≡◌, ◌≤◌, ◌+◌, ℕ, List, [], drop, length, Result, Ok, Err, refl, ap, ap₂, sym, subst, ◌∙◌, arith}
use Rattle.orc_template.specs.Devices.{DeviceTable}
use Rattle.orc_decls.specs.declared.declarations.Decls.{Decls}
use Rattle.orc_lines.specs.declared.fault.ExplainedFault.{ExplainedFault}
use Rattle.orc_lines.specs.declared.fault.ExplainedFault.TheVariants.{At, Memory}
use Rattle.orc_decls.specs.declared.rule.Rule.{Rule}
use Rattle.orc_lines.specs.Answers.{Explains}
use Rattle.orc_lines.specs.Lawful.{decls_with}
use Rattle.orc_lines.specs.Lines.{lines_of}
use Rattle.orc_lines.specs.Rules.{on_ok}
use Rattle.orc_lines.specs.declared.declared.Declared.{Declared}
use Rattle.orc_declarations.specs.Answers.{Declares, EndsWithin, front_left}
use Rattle.orc_declarations.specs.Bundles.{BeginsScript, bundle_at, declarations_in}
use Rattle.orc_declarations.specs.Declarations.{Front, declarations_of, nothing_declared}
use Rattle.orc_declarations.specs.declared.bundle.Bundle.{Bundle}
use Rattle.orc_declarations.specs.declared.read.Behind.{Behind}

-- declarations of equal parts
pub with_parts : (d : Declared) (text copy : List ℕ) (table : DeviceTable) → copy ≡ text → table ≡ (decls_with [] d).table
    → record (decls_with copy d) { schemas = table.schemas; table = table } ≡ decls_with text d
with_parts d text copy table same is =
    ap₂ (λ (t : List ℕ) (devices : DeviceTable). record (decls_with t d) { schemas = devices.schemas; table = devices }) same is

-- what is answered for a fault, and for what was declared

pub fault_given : (answer : Result Front (ℕ × Rule)) (new : Declared) (f : Front → Result Bundle (ℕ × Rule)) (fault : ExplainedFault)
    → Declares answer new (Err fault) → Explains (on_ok answer f) (Err fault)
fault_given answer new f (At line rule detail) h = ap (λ (a : Result Front (ℕ × Rule)). on_ok a f) h
fault_given answer new f Memory h = tt

pub refused : (bytes : List ℕ) (none new : Declared) (fault : ExplainedFault) → none ≡ nothing_declared
    → Declares (declarations_of none 0 0 (lines_of bytes)) new (Err fault)
    → Explains (on_ok (declarations_in bytes) (λ front. Ok (bundle_at bytes front))) (Err fault)
refused bytes none new fault nothing h =
    fault_given (declarations_in bytes) new (λ front. Ok (bundle_at bytes front)) fault
    (subst (λ (d : Declared). Declares (declarations_of d 0 0 (lines_of bytes)) new (Err fault)) nothing h)

module _ (bytes : List ℕ) (none new : Declared) (behind : Behind) (nothing : none ≡ nothing_declared)
    (answer : declarations_of none 0 0 (lines_of bytes) ≡ Ok (front_left new behind)) where
  pub front_is : declarations_in bytes ≡ Ok (front_left new behind)
  front_is = ap (λ (d : Declared). declarations_of d 0 0 (lines_of bytes)) (sym nothing) ∙ answer

  pub bundle_given : (bundle : Bundle) → bundle ≡ bundle_at bytes (front_left new behind)
      → on_ok (declarations_in bytes) (λ front. Ok (bundle_at bytes front)) ≡ Ok bundle
  bundle_given bundle is =
      ap (λ (a : Result Front (ℕ × Rule)). on_ok a (λ front. Ok (bundle_at bytes front))) front_is ∙ ap (λ (b : Bundle). Ok b) (sym is)

  ends_there : (front : Front) → declarations_in bytes ≡ Ok front → EndsWithin bytes behind → front.later ≡ lines_of (drop behind.at bytes)
  ends_there front is within =
      let same : front_left new behind ≡ front = (let ends = front_is in cc) in
      sym (ap (λ (f : Front). f.later) same) ∙ ap lines_of within.later

  pub script_begins : (bundle : Bundle) → bundle ≡ bundle_at bytes (front_left new behind) → EndsWithin bytes behind → BeginsScript bytes bundle
  script_begins bundle is within = subst (BeginsScript bytes) (sym is) (record {
    within = (let all = within.rest in omega arith);
    number = within.number;
    small = within.small;
    lines = λ front h. ends_there front h within;
  })
