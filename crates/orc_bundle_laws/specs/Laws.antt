-- What lines and bytes mean.
use Rattle.std.specs.Prelude.{◌≡◌, ◌≤◌, ◌+◌, ℕ, zero, suc, Bool, true, false, ◌&&◌, nat_eq, nat_le, List, [], ◌∷◌, ◌++◌, codes, length, map, IsTrue, Result, if◌then◌else◌}
use Rattle.std.specs.declared.result.Result.TheVariants.{Ok, Err}
use Rattle.std.specs.List.{concat, list_all}
use Rattle.std.specs.Option.{option_map_or}
use Rattle.std.specs.Str.{is_utf8}
use Rattle.orc_yang.specs.declared.statement.Stmt.{Stmt}
use Rattle.orc_call.specs.declared.call.Put.{Put}
use Rattle.orc_services.specs.declared.list.ServiceList.{ServiceList}
use Rattle.orc_schema_nodes.specs.Schemas.{SchemaTable, plain_table}
use Rattle.orc_decls.specs.Calls.{is_lawful_name}
use Rattle.orc_decls.specs.declared.declarations.Decls.{Decls}
use Rattle.orc_decls.specs.declared.declarations.Device.{Device}
use Rattle.orc_decls.specs.declared.rule.Rule.{Rule}
use Rattle.orc_decls.specs.declared.rule.Rule.TheVariants as rule
use Rattle.orc_bundle.specs.Bundles.{IsScripted, scripted_of}
use Rattle.orc_declarations.specs.Declarations.{is_script, built_in_schema, declared_at, lines_taken, nothing_declared, schema_place}
use Rattle.orc_lines.specs.Lines.{lacks_header, is_skipped, lines_of, text_of}
use Rattle.orc_lines.specs.Rules.{on_ok}
use Rattle.orc_lines.specs.Words.{is_text}
use Rattle.orc_bundle_laws.specs.Written.{AreLinesOf, IsSpelling, bundle_text, declared_text}
use Rattle.orc_bundle.specs.declared.scripted.ScriptedBundle.{ScriptedBundle}
use Rattle.orc_lines.specs.declared.lines.TheConstants.{LARGEST_BUNDLE, LONGEST_LINE}
use Rattle.orc_lines.specs.declared.declared.Declared.{Declared}
use Rattle.orc_lines.specs.declared.declared.Section.TheVariants as section

-- a line is empty or a comment, UTF-8, and not too long
pub record IsSkipped (line : List ℕ) : Type 0 where
  pub short : length (text_of line) ≤ LONGEST_LINE
  pub utf8 : is_utf8 (text_of line) ≡ true
  pub skipped : is_skipped (text_of line) ≡ true

-- How many lines of a `yang` or `template` block are still to come after these lines, where so many were still to
-- come before them. After the line `script` there is no block.
abbrev pub left_of_block : ℕ → List (List ℕ) → ℕ
left_of_block n [] = n
left_of_block (suc n) (line ∷ later) = left_of_block n later
left_of_block zero (line ∷ later) =
    if is_text (text_of line) (codes "script") then 0 else left_of_block (lines_taken (text_of line)) later

-- what a bundle says: all that it has, but for the bytes that the journal stores; or its fault
abbrev pub meaning_of : Result ScriptedBundle (ℕ × Rule) → Result ScriptedBundle (ℕ × Rule)
meaning_of (Ok bundle) = Ok (record bundle { decls = record bundle.decls { text = [] } })
meaning_of (Err fault) = Err fault

-- an answer with its fault's line one further down, unless it is one of the first so many
abbrev pub moved_behind : {X : Type 0} → ℕ → Result X (ℕ × Rule) → Result X (ℕ × Rule)
moved_behind before (Ok x) = Ok x
moved_behind before (Err fault) = Err (if nat_le fault.0 before then fault.0 else fault.0 + 1, fault.1)

-- A skipped line, put in where no block is open, changes neither what is declared, nor the steps, nor a fault's rule:
-- it only moves the fault's line, where that stands after it. Some line has to be no skipped one, since else line 1 is
-- at fault, and the longer bytes have to keep the limit of a bundle.
abbrev pub SkippedLinesChangeNothing : Type 0
SkippedLinesChangeNothing =
    (before after : List (List ℕ)) (line bytes longer : List ℕ)
    → lines_of bytes ≡ before ++ after → lines_of longer ≡ before ++ line ∷ after
    → IsSkipped line → left_of_block 0 before ≡ 0
    → lacks_header (before ++ after) ≡ false → length longer ≤ LARGEST_BUNDLE
    → meaning_of (scripted_of longer) ≡ moved_behind (length before) (meaning_of (scripted_of bytes))

-- What is declared of modules, types of devices, the data schema and templates.
pub record Preamble : Type 0 where
  pub modules : List (List ℕ)
  pub statements : List Stmt
  pub has_data : Bool
  pub types : List (List ℕ)
  pub schemas : List SchemaTable
  pub data_schema : SchemaTable
  pub templates : List (List ℕ)
  pub services : List ServiceList

-- a preamble is declared, and no device and no data
abbrev pub preamble_alone : Preamble → Declared
preamble_alone preamble = record {
  section = section.Declarations;
  skip = 0;
  modules = preamble.modules;
  statements = preamble.statements;
  has_data = preamble.has_data;
  types = preamble.types;
  schemas = preamble.schemas;
  names = [];
  devices = [];
  data_schema = preamble.data_schema;
  «data» = [];
  templates = preamble.templates;
  services = preamble.services;
}

-- What lines make of what was declared, none of which is the line `script`; so many bytes stand before them.
abbrev pub declared_by : Declared → ℕ → List (List ℕ) → Result Declared Rule
declared_by d at [] = Ok d
declared_by d at (line ∷ later) =
    on_ok (declared_at d at line later) (λ e.
    if is_script e.section then Err rule.Line else declared_by e (at + length line) later)

-- Lines with the header among them, no block of which goes on after them, are read as this preamble.
pub record IsPreamble (preamble : Preamble) (lines : List (List ℕ)) : Type 0 where
  pub ended : AreLinesOf (map text_of lines) lines
  pub whole : left_of_block 0 lines ≡ 0
  pub header : lacks_header lines ≡ false
  pub read : declared_by nothing_declared 0 lines ≡ Ok (preamble_alone preamble)

-- a line `device` that names the kind of a device gives it the schema that it has
abbrev pub is_kind : Preamble → (ℕ → List ℕ) → Device → Bool
is_kind preamble kind device = is_lawful_name (kind device.schema)
    && option_map_or (nat_eq device.schema) (schema_place (preamble_alone preamble) (kind device.schema)) false

-- the schemas and the lists of services are those of the preamble, and each device is of a kind that it declares
pub record FollowPreamble (preamble : Preamble) (kind : ℕ → List ℕ) (decls : Decls) : Type 0 where
  pub types : decls.schemas ≡ preamble.schemas
  pub data_model : decls.data_schema ≡ preamble.data_schema
  pub services : decls.services ≡ preamble.services
  pub kinds : IsTrue (list_all (is_kind preamble kind) decls.devices)

-- Each spelling of a bundle is read as that bundle, after any lines that declare modules, types of devices, the data
-- schema and templates, with no device and no item of the data among them: with comments and empty lines put in, and
-- with carriage returns before line feeds.
abbrev pub SpelledIsRead : Type 0
SpelledIsRead =
    (bundle : ScriptedBundle) (preamble : Preamble) (kind : ℕ → List ℕ) (json : List ℕ → List Put → List ℕ)
    (head front : List (List ℕ)) (line : List ℕ) (later : List (List ℕ))
    → IsScripted bundle → IsPreamble preamble head → FollowPreamble preamble kind bundle.decls
    → IsSpelling bundle kind json head front line later
    → scripted_of (concat (head ++ front ++ line ∷ later)) ≡ Ok bundle

-- No type is declared, so that each device is a plain one, and no `datamodel`: the text of modules is kept nowhere.
pub record ArePlain (decls : Decls) : Type 0 where
  pub types : decls.schemas ≡ plain_table ∷ []
  pub data_model : decls.data_schema ≡ built_in_schema
  pub services : decls.services ≡ []

-- The text of a bundle that declares no modules, in the plainest spelling, is read as that bundle.
abbrev pub WrittenIsRead : Type 0
WrittenIsRead =
    (bundle : ScriptedBundle) → IsScripted bundle → ArePlain bundle.decls
    → bundle.decls.text ≡ declared_text bundle → length (bundle_text bundle) ≤ LARGEST_BUNDLE
    → scripted_of (bundle_text bundle) ≡ Ok bundle
