-- The bundle of bytes, or the first line at fault with the first rule that it breaks.
use Rattle.std.specs.Prelude.{ℕ, ◌≡◌, ◌≤◌, List, [], ◌∷◌, length, map, IsTrue, Result, if◌then◌else◌}
use Rattle.std.specs.declared.result.Result.TheVariants.{Ok, Err}
use Rattle.std.specs.List.{list_all, All}
use Rattle.std.specs.Str.{is_utf8}
use Rattle.orc_schema_nodes.specs.Sound.{IsSound}
use Rattle.orc_decls.specs.Declarations.{AreDecls, accept_of}
use Rattle.orc_decls.specs.declared.rule.Rule.{Rule}
use Rattle.orc_decls.specs.declared.rule.Rule.TheVariants as rule
use Rattle.orc_lines.specs.Rules.{on_ok}
use Rattle.orc_lines.specs.Lines.{is_large, lacks_header, lines_of, seen, text_of}
use Rattle.orc_lines.specs.declared.lines.TheConstants.{LARGEST_BUNDLE}
use Rattle.orc_declarations.specs.Bundles.{bundle_at}
use Rattle.orc_declarations.specs.Declarations.{declarations_of, nothing_declared}
use Rattle.orc_declarations.specs.declared.bundle.Bundle.{Bundle}
use Rattle.orc_script.specs.Scripts.{script_of}
use Rattle.orc_script.specs.Steps.{callers_behind, is_step}
use Rattle.orc_script.specs.declared.script.TheConstants.{MOST_CALLERS, MOST_STEPS}
use Rattle.orc_bundle.specs.declared.scripted.ScriptedBundle.{ScriptedBundle}

-- the rule that line 1 breaks where no line is the header
abbrev pub header_rule : List (List ℕ) → Rule
header_rule [] = rule.Header
header_rule (line ∷ later) =
    if is_large 0 line then rule.Size else if is_utf8 (text_of line) then rule.Header else rule.Utf8

-- what these bytes, which are these lines, declare, and where the script begins
abbrev pub bundle_in : List ℕ → List (List ℕ) → Result Bundle (ℕ × Rule)
bundle_in bytes lines =
    if lacks_header lines then Err (1, header_rule lines) else
    on_ok (declarations_of nothing_declared 0 0 lines) (λ front. Ok (bundle_at bytes front))

-- the bundle, or the first line at fault, counted from 1, and the first rule that it breaks
abbrev pub bundle_of : List ℕ → Result Bundle (ℕ × Rule)
bundle_of bytes = bundle_in (seen bytes) (lines_of (seen bytes))

-- Declarations are lawful, and their schemas are sound; there is what each device accepts; and above the script stand
-- so many bytes, which keep the limit of a bundle, and no more lines than these.
pub record IsBundle (bundle : Bundle) : Type 0 where
  pub decls : AreDecls bundle.decls
  pub sound : All IsSound bundle.decls.schemas
  pub accepts : bundle.accepts ≡ map (accept_of bundle.decls.schemas) bundle.decls.devices
  pub lines : bundle.line ≤ bundle.rest
  pub small : bundle.rest ≤ LARGEST_BUNDLE

-- The bundle with its script. A fault of the declarations goes first: all of their lines stand above the script's.
-- Where the bytes pass the limit of a bundle, the line in which they do is at fault, unless one above it is.
abbrev pub scripted_of : List ℕ → Result ScriptedBundle (ℕ × Rule)
scripted_of bytes =
    on_ok (bundle_of bytes) (λ bundle.
    on_ok (script_of bundle.decls bytes bundle.rest bundle.line) (λ steps.
    Ok (record { decls = bundle.decls; steps = steps })))

-- Declarations are lawful, their schemas are sound, and each step is one that these devices allow; there are no more
-- steps and callers than can be.
pub record IsScripted (bundle : ScriptedBundle) : Type 0 where
  pub decls : AreDecls bundle.decls
  pub sound : All IsSound bundle.decls.schemas
  pub steps : IsTrue (list_all (is_step bundle.decls) bundle.steps)
  pub few : length bundle.steps ≤ MOST_STEPS
  pub callers : length (callers_behind [] bundle.steps) ≤ MOST_CALLERS
