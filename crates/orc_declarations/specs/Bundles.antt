-- A bundle: what it declares, and where its script begins.
use Rattle.std.specs.Prelude.{◌≡◌, ◌≤◌, ℕ, List, Result, drop, length, map, take}
use Rattle.std.specs.declared.result.Result.TheVariants.{Ok}
use Rattle.orc_decls.specs.Declarations.{accept_of}
use Rattle.orc_decls.specs.declared.declarations.Decls.{Decls}
use Rattle.orc_decls.specs.declared.rule.Rule.{Rule}
use Rattle.orc_lines.specs.Lawful.{decls_with}
use Rattle.orc_lines.specs.Lines.{lines_of}
use Rattle.orc_lines.specs.Rules.{on_ok}
use Rattle.orc_lines.specs.declared.lines.TheConstants.{LARGEST_BUNDLE}
use Rattle.orc_declarations.specs.Declarations.{Front, declarations_of, nothing_declared}
use Rattle.orc_declarations.specs.declared.bundle.Bundle.{Bundle}

-- the declarations, and their text as the journal stores it
abbrev pub decls_of : List ℕ → Front → Decls
decls_of bytes front = decls_with (take front.size bytes) front.declared

-- with what each device accepts, and where the script begins
abbrev pub bundle_at : List ℕ → Front → Bundle
bundle_at bytes front = record {
  decls = decls_of bytes front;
  accepts = map (accept_of front.declared.schemas) front.declared.devices;
  rest = front.at;
  line = front.number;
}

-- the declarations of bytes
abbrev pub declarations_in : List ℕ → Result Front (ℕ × Rule)
declarations_in bytes = declarations_of nothing_declared 0 0 (lines_of bytes)

-- Where the script begins: its lines are those of the bytes from there on.
pub record BeginsScript (bytes : List ℕ) (bundle : Bundle) : Type 0 where
  pub within : bundle.rest ≤ length bytes
  pub number : bundle.line ≤ bundle.rest
  pub small : bundle.rest ≤ LARGEST_BUNDLE
  pub lines : (front : Front) → declarations_in bytes ≡ Ok front → front.later ≡ lines_of (drop bundle.rest bytes)
