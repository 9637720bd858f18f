-- The lines that spell a bundle.
use Rattle.std.specs.Prelude.{ℕ, ◌≤◌, ◌≡◌, true, false, not, ◌&&◌, ◌==◌, nat_eq, List, [], ◌∷◌, ◌++◌, codes, length, map}
use Rattle.std.specs.Fmt.{decimal}
use Rattle.std.specs.List.{AllByRecursion, concat, flat_map, list_all}
use Rattle.std.specs.declared.option.Option.TheVariants.{Some}
use Rattle.orc_path.specs.Reading.{path_of}
use Rattle.orc_schema_nodes.specs.Schemas.{SchemaTable}
use Rattle.orc_script.specs.Bodies.{body_of}
use Rattle.std.specs.Str.{is_utf8}
use Rattle.orc_path.specs.Items.{item_text}
use Rattle.orc_path.specs.Steps.{PathStep}
use Rattle.orc_path.specs.Texts.{path_text}
use Rattle.orc_path.specs.declared.item.Item.TheVariants.{Leaf}
use Rattle.orc_call.specs.declared.call.Action.{Action}
use Rattle.orc_call.specs.declared.call.Action.TheVariants.{Create, Modify, Redeploy, Literal, Delete, Set, Unset, BasePut, BaseRemove}
use Rattle.orc_call.specs.declared.call.DevicePut.{DevicePut}
use Rattle.orc_call.specs.declared.call.Put.{Put}
use Rattle.orc_decls.specs.Devices.{name_of}
use Rattle.orc_decls.specs.declared.declarations.Decls.{Decls}
use Rattle.orc_decls.specs.declared.declarations.Device.{Device}
use Rattle.orc_device.specs.declared.kind.OpKind.{OpKind}
use Rattle.orc_device.specs.declared.kind.OpKind.TheVariants as kind
use Rattle.orc_device.specs.declared.kind.When.{When}
use Rattle.orc_device.specs.declared.kind.When.TheVariants as moment
use Rattle.orc_lines.specs.Lines.{as_line, is_skipped, text_of}
use Rattle.orc_bundle.specs.declared.scripted.ScriptedBundle.{ScriptedBundle}
use Rattle.orc_script.specs.declared.step.ScriptStep.{ScriptStep}
use Rattle.orc_script.specs.declared.step.ScriptStep.TheVariants.{Begin, Admit, Step, Decide, Settle, Tick, Restart, Fault, Stop, StopAt, Recover, Reconcile, Show, Json, Log, Meta, ShowData, History}
use Rattle.orc_script.specs.declared.step.ScriptStep.TheVariants as script_step
use Rattle.orc_lines.specs.declared.lines.TheConstants.{LARGEST_BUNDLE, LONGEST_LINE}

-- lines, without their line feeds

-- an item of a device's base
abbrev pub base_line : List ℕ → Put → List ℕ
base_line name put = codes "base " ++ name ++ codes " " ++ item_text put.path put.item

-- a list of a device, and the most entries that it may have
abbrev pub max_line : List ℕ → List PathStep × ℕ → List ℕ
max_line name limit = codes "rule " ++ name ++ codes " max " ++ path_text limit.0 ++ codes " " ++ decimal limit.1

-- a leaf of a device, and a text that it may not have
abbrev pub forbid_line : List ℕ → List PathStep × List ℕ → List ℕ
forbid_line name leaf = codes "rule " ++ name ++ codes " forbid " ++ item_text leaf.0 (Leaf leaf.1)

-- a device with its base and its rules; `kind` says what its line calls the schema of a place
abbrev pub device_lines : (ℕ → List ℕ) → Device → List (List ℕ)
device_lines kind device =
    (codes "device " ++ device.name ++ codes " " ++ kind device.schema) ∷ map (base_line device.name) device.base
    ++ map (max_line device.name) device.max ++ map (forbid_line device.name) device.forbid

-- an item of the opening data
abbrev pub data_line : Put → List ℕ
data_line put = codes "data " ++ item_text put.path put.item

-- an item that a literal writes on a device
abbrev pub line_of_write : DevicePut → List ℕ
line_of_write write = codes "write " ++ write.device ++ codes " " ++ item_text write.path write.item

-- an action; `json` says how its line writes a service's body
abbrev pub lines_of_action : (List ℕ → List Put → List ℕ) → Action → List (List ℕ)
lines_of_action json (Create id body) = (codes "create " ++ id ++ codes " " ++ json id body) ∷ []
lines_of_action json (Modify id body) = (codes "modify " ++ id ++ codes " " ++ json id body) ∷ []
lines_of_action json (Redeploy id) = (codes "redeploy " ++ id) ∷ []
lines_of_action json (Literal id writes) = (codes "literal " ++ id) ∷ map line_of_write writes
lines_of_action json (Delete id) = (codes "delete " ++ id) ∷ []
lines_of_action json (Set put) = (codes "set " ++ item_text put.path put.item) ∷ []
lines_of_action json (Unset path) = (codes "unset " ++ path_text path) ∷ []
lines_of_action json (BasePut put) = (codes "base " ++ put.device ++ codes " " ++ item_text put.path put.item) ∷ []
lines_of_action json (BaseRemove device path) = (codes "unbase " ++ device ++ codes " " ++ path_text path) ∷ []

-- a kind of operations
abbrev pub operation_word : OpKind → List ℕ
operation_word kind.OpenSession = codes "OpenSession"
operation_word kind.LockRunning = codes "LockRunning"
operation_word kind.LockCandidate = codes "LockCandidate"
operation_word kind.Edit = codes "Edit"
operation_word kind.Validate = codes "Validate"
operation_word kind.CommitConfirmed = codes "CommitConfirmed"
operation_word kind.Commit = codes "Commit"
operation_word kind.Confirm = codes "Confirm"
operation_word kind.Cancel = codes "Cancel"
operation_word kind.Discard = codes "Discard"
operation_word kind.UnlockCandidate = codes "UnlockCandidate"
operation_word kind.UnlockRunning = codes "UnlockRunning"
operation_word kind.CloseSession = codes "CloseSession"
operation_word kind.GetRunning = codes "GetRunning"

-- before an operation takes effect, or after
abbrev pub moment_word : When → List ℕ
moment_word moment.Before = codes "before"
moment_word moment.After = codes "after"

-- what a line `fault` says of an operation
abbrev pub failing_text : OpKind → When → List ℕ
failing_text operation at = operation_word operation ++ codes " " ++ moment_word at

-- a step of the script, where these devices are declared
abbrev pub step_lines : (List ℕ → List Put → List ℕ) → List (List ℕ) → ScriptStep → List (List ℕ)
step_lines json names (Begin caller) = (codes "begin " ++ caller) ∷ []
step_lines json names (script_step.Call call) =
    (codes "call " ++ call.caller ++ codes " " ++ decimal call.number)
    ∷ flat_map (lines_of_action json) call.actions ++ codes "end" ∷ []
step_lines json names Admit = codes "admit" ∷ []
step_lines json names (Step device) = (codes "step " ++ name_of names device) ∷ []
step_lines json names Decide = codes "decide" ∷ []
step_lines json names Settle = codes "settle" ∷ []
step_lines json names (Tick seconds) = (codes "tick " ++ decimal seconds) ∷ []
step_lines json names (Restart device) = (codes "restart " ++ name_of names device) ∷ []
step_lines json names (Fault device operation at) =
    (codes "fault " ++ name_of names device ++ codes " " ++ failing_text operation at) ∷ []
step_lines json names Stop = codes "stop" ∷ []
step_lines json names (StopAt count bytes) = (codes "stop " ++ decimal count ++ codes " " ++ decimal bytes) ∷ []
step_lines json names Recover = codes "recover" ∷ []
step_lines json names Reconcile = codes "reconcile" ∷ []
step_lines json names (Show device) = (codes "show " ++ name_of names device) ∷ []
step_lines json names (Json device) = (codes "json " ++ name_of names device) ∷ []
step_lines json names (Log device) = (codes "log " ++ name_of names device) ∷ []
step_lines json names (Meta device path) = (codes "meta " ++ name_of names device ++ codes " " ++ path_text path) ∷ []
step_lines json names ShowData = codes "data" ∷ []
step_lines json names History = codes "history" ∷ []

-- the declarations after those of modules, types and the data schema
abbrev pub declared_lines : (ℕ → List ℕ) → Decls → List (List ℕ)
declared_lines kind decls = flat_map (device_lines kind) decls.devices ++ map data_line decls.data

-- a script, where these devices are declared
abbrev pub script_lines : (List ℕ → List Put → List ℕ) → List (List ℕ) → List ScriptStep → List (List ℕ)
script_lines json names steps = flat_map (step_lines json names) steps

-- bodies

-- A text without line feeds and carriage returns is a body of the service of this id, and no line with it is too long.
pub record SpellsBody (schema : SchemaTable) (id : List ℕ) (body : List Put) (text : List ℕ) : Type 0 where
  pub alone : list_all (λ byte. not (byte == 10) && not (byte == 13)) text ≡ true
  pub some : nat_eq (length text) 0 ≡ false
  pub utf8 : is_utf8 text ≡ true
  pub short : length (codes "create " ++ id ++ codes " " ++ text) ≤ LONGEST_LINE
  pub read : (entry : List PathStep) → path_of id ≡ Some entry → body_of schema entry text ≡ Some body

-- each body of a script is spelled so
abbrev pub SpellsAction : SchemaTable → (List ℕ → List Put → List ℕ) → Action → Type 0
SpellsAction schema json (Create id body) = SpellsBody schema id body (json id body)
SpellsAction schema json (Modify id body) = SpellsBody schema id body (json id body)
SpellsAction schema json other = Unit {0}

abbrev pub SpellsStep : SchemaTable → (List ℕ → List Put → List ℕ) → ScriptStep → Type 0
SpellsStep schema json (script_step.Call call) = AllByRecursion (SpellsAction schema json) call.actions
SpellsStep schema json other = Unit {0}

-- spellings

-- a line with its line feed, whose text is this
pub record IsLineOf (text line : List ℕ) : Type 0 where
  pub front : List ℕ
  pub ended : line ≡ as_line front
  pub alone : list_all (λ byte. not (byte == 10)) front ≡ true
  pub says : text_of line ≡ text

-- lines of these texts, and any number of skipped lines between them
pub data AreLinesOf : List (List ℕ) → List (List ℕ) → Type 0 where
  none : AreLinesOf [] []
  one : (text line : List ℕ) (texts lines : List (List ℕ)) → IsLineOf text line
      → AreLinesOf texts lines → AreLinesOf (text ∷ texts) (line ∷ lines)
  skipped : (text line : List ℕ) (texts lines : List (List ℕ)) → IsLineOf text line
      → is_skipped text ≡ true → is_utf8 text ≡ true → length text ≤ LONGEST_LINE
      → AreLinesOf texts lines → AreLinesOf texts (line ∷ lines)

-- After lines that declare modules, types, the data schema and templates, these are the lines of the other
-- declarations, the line `script`, and those of the script. The text of the declarations is that of their lines, and
-- all keep the limit of a bundle. Each body is spelled as a JSON text.
pub record IsSpelling (bundle : ScriptedBundle) (kind : ℕ → List ℕ) (json : List ℕ → List Put → List ℕ)
    (head front : List (List ℕ)) (line : List ℕ) (later : List (List ℕ)) : Type 0 where
  pub declared : AreLinesOf (declared_lines kind bundle.decls) front
  pub script : IsLineOf (codes "script") line
  pub steps : AreLinesOf (script_lines json bundle.decls.names bundle.steps) later
  pub bodies : AllByRecursion (SpellsStep bundle.decls.data_schema json) bundle.steps
  pub text : bundle.decls.text ≡ concat (head ++ front)
  pub small : length (concat (head ++ front ++ line ∷ later)) ≤ LARGEST_BUNDLE

-- the plainest spelling

-- lines as one text
abbrev pub text_of_lines : List (List ℕ) → List ℕ
text_of_lines texts = flat_map as_line texts

-- where each device is a plain one
abbrev pub plain_kind : ℕ → List ℕ
plain_kind place = codes "plain"

-- where no service of a list is named
abbrev pub no_json : List ℕ → List Put → List ℕ
no_json id body = []

-- where no modules are declared
abbrev pub declared_text : ScriptedBundle → List ℕ
declared_text bundle = text_of_lines (codes "orc 1" ∷ declared_lines plain_kind bundle.decls)

-- the whole bundle
abbrev pub bundle_text : ScriptedBundle → List ℕ
bundle_text bundle =
    declared_text bundle ++ text_of_lines (codes "script" ∷ script_lines no_json bundle.decls.names bundle.steps)
