-- What the reader of declarations answers.
use Rattle.std.specs.Prelude.{◌≡◌, ℕ, true, false, Result, ◌≤◌, ◌+◌, List, drop, length}
use Rattle.std.specs.declared.result.Result.TheVariants.{Ok, Err}
use Rattle.orc_decls.specs.declared.rule.Rule.{Rule}
use Rattle.orc_decls.specs.declared.rule.Rule.TheVariants as rule
use Rattle.orc_lines.specs.declared.fault.ExplainedFault.{ExplainedFault}
use Rattle.orc_lines.specs.declared.fault.ExplainedFault.TheVariants as explained
use Rattle.orc_declarations.specs.Declarations.{Front, is_opening}
use Rattle.orc_lines.specs.Lines.{lines_of}
use Rattle.orc_lines.specs.declared.declared.Declared.{Declared}
use Rattle.orc_declarations.specs.declared.read.Behind.{Behind}
use Rattle.orc_lines.specs.declared.lines.TheConstants.{LARGEST_BUNDLE}

-- what is left where the declarations end
abbrev pub front_left : Declared → Behind → Front
front_left declared behind = record {
  declared = declared;
  size = behind.size;
  at = behind.at;
  number = behind.number;
  later = lines_of behind.later.now;
}

-- what is answered where the declarations end in the line of this number
abbrev pub IsOpened : {T : Type 0} → Declared → ℕ → Result T ExplainedFault → Type 0
IsOpened declared number (Ok _) = is_opening declared ≡ true
IsOpened declared number (Err (explained.At line broken detail)) =
    (is_opening declared ≡ false) × (line ≡ number) × (broken ≡ rule.Opening)
IsOpened declared number (Err explained.Memory) = Unit {0}

-- what the reader of all declarations answers
abbrev pub Declares : Result Front (ℕ × Rule) → Declared → Result Behind ExplainedFault → Type 0
Declares answer new (Ok behind) = answer ≡ Ok (front_left new behind)
Declares answer new (Err (explained.At line rule detail)) = answer ≡ Err (line, rule)
Declares answer new (Err explained.Memory) = Unit {0}

-- the parts of the bytes where the declarations end
pub record EndsWithin (bytes : List ℕ) (behind : Behind) : Type 0 where
  pub size : behind.size ≤ length bytes
  pub rest : behind.at + length behind.later.now ≡ length bytes
  pub later : behind.later.now ≡ drop behind.at bytes
  pub number : behind.number ≤ behind.at
  pub small : behind.at ≤ LARGEST_BUNDLE
