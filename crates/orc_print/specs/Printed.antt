-- What a script prints.
use Rattle.std.specs.Prelude.{ℕ, suc, ◌≡◌, ◌==◌, ◌&&◌, nat_le, nat_lt, if◌then◌else◌, Bool, true, List, [], ◌∷◌, ◌++◌, codes, length, Option}
use Rattle.std.specs.declared.option.Option.TheVariants.{None, Some}
use Rattle.std.specs.declared.result.Result.{Result}
use Rattle.std.specs.declared.result.Result.TheVariants.{Ok, Err}
use Rattle.std.specs.Fmt.{decimal}
use Rattle.std.specs.List.{flat_map}
use Rattle.std.specs.Option.{option_copied}
use Rattle.std.specs.FinMap.{entries}
use Rattle.orc_path.specs.Steps.{PathStep}
use Rattle.orc_path.specs.Texts.{path_text, value_text}
use Rattle.orc_path.specs.Items.{item_text}
use Rattle.orc_path.specs.Configurations.{Config}
use Rattle.orc_path.specs.declared.item.Item.{Item}
use Rattle.orc_path.specs.declared.item.Item.TheVariants.{Entry, Leaf}
use Rattle.orc_call.specs.declared.call.Call.{Call}
use Rattle.orc_call.specs.declared.answer.Answer.{Answer}
use Rattle.orc_call.specs.declared.answer.Answer.TheVariants.{Committed, Exists, Missing, Invalid, Expand, Clash, Conflict, OutOfSync, Refused, LinkFault, Reused, Down, JournalFault, Memory, Busy}
use Rattle.orc_call.specs.declared.answer.RecFault.{RecFault}
use Rattle.orc_call.specs.declared.answer.RecFault.TheVariants as fault
use Rattle.orc_refs.specs.declared.moves.Meta.{Meta}
use Rattle.orc_schema_nodes.specs.Schemas.{SchemaTable}
use Rattle.orc_check.specs.declared.rules.TheConstants.{KIND, KEY, MANDATORY, MIN_ELEMENTS, MAX_ELEMENTS, LEAFREF}
use Rattle.orc_json.specs.Written.{IsJsonTextOf}
use Rattle.orc_template.specs.declared.fault.TheConstants.{NO_VALUE, MANY_VALUES, UNKNOWN_DEVICE, BAD_LEAF, SELF_CLASH}
use Rattle.orc_decls.specs.Devices.{name_of}
use Rattle.orc_decls.specs.Texts.{action_lines}
use Rattle.orc_print.specs.Causes.{link_fault_words, refused_words, why_words, written_words}

-- trees

-- the line of an item
abbrev pub item_line : List PathStep × Item → List ℕ
item_line row = item_text row.0 row.1 ++ codes "\n"

-- the lines of all items, in path order
abbrev pub item_lines : Config → List ℕ
item_lines config = flat_map item_line (entries config)

-- the tree of a device
abbrev pub tree_text : List ℕ → Config → List ℕ
tree_text name tree = codes "show " ++ name ++ codes "\n" ++ item_lines tree ++ codes "end\n"

-- the data
abbrev pub data_text : Config → List ℕ
data_text config = codes "data\n" ++ item_lines config ++ codes "end\n"

-- the line of a device with its JSON text
abbrev pub json_line : List ℕ → List ℕ → List ℕ
json_line name json = codes "json " ++ name ++ codes " " ++ json ++ codes "\n"

-- the tree of a device under its schema, as the JSON text that RFC 7951 gives it
abbrev pub IsJsonGroup : List ℕ → SchemaTable → Config → List ℕ → Type 0
IsJsonGroup name schema tree text = (json : List ℕ) × IsJsonTextOf schema tree json × (text ≡ json_line name json)

-- what is known of a path

-- the line of a service that writes the path
abbrev pub back_line : List ℕ → List ℕ
back_line id = codes "back " ++ id ++ codes "\n"

-- the line of what the base has there
abbrev pub original_line : Item → List ℕ
original_line Entry = codes "original\n"
original_line (Leaf text) = codes "original = " ++ value_text text ++ codes "\n"

-- the base has something there, or has not
abbrev pub original_lines : Option Item → List ℕ
original_lines None = []
original_lines (Some item) = original_line item

-- How many services write it, a line for each of them, and what the base has there. Where no service writes it, that
-- they are none.
abbrev pub known_lines : Option Meta → List ℕ
known_lines None = codes "0\n"
known_lines (Some meta) =
    decimal meta.count ++ codes "\n" ++ flat_map back_line meta.back.now ++ original_lines (option_copied meta.original)

-- a path of a device, and what is known of it
abbrev pub meta_group : List ℕ → List PathStep → Option Meta → List ℕ
meta_group name path known =
    codes "meta " ++ name ++ codes " " ++ path_text path ++ codes " " ++ known_lines known ++ codes "end\n"

-- answers

-- the word for a rule of validity: a type, a key, or a statement of RFC 7950
abbrev pub validity_word : ℕ → List ℕ
validity_word rule =
    if rule == KIND then codes "kind"
    else if rule == KEY then codes "key"
    else if rule == MANDATORY then codes "mandatory"
    else if rule == MIN_ELEMENTS then codes "min-elements"
    else if rule == MAX_ELEMENTS then codes "max-elements"
    else codes "leafref"

-- the number is that of a rule of validity
abbrev pub is_rule : ℕ → Bool
is_rule rule = nat_le KIND rule && nat_le rule LEAFREF

-- the number is that of a rule of expansion
abbrev pub is_expansion_rule : ℕ → Bool
is_expansion_rule rule = nat_le NO_VALUE rule && nat_le rule SELF_CLASH

-- the word for a rule of expansion
abbrev pub expansion_word : ℕ → List ℕ
expansion_word rule =
    if rule == NO_VALUE then codes "no-value"
    else if rule == MANY_VALUES then codes "many-values"
    else if rule == UNKNOWN_DEVICE then codes "unknown-device"
    else if rule == BAD_LEAF then codes "bad-leaf"
    else codes "self-clash"

-- the words of an answer
abbrev pub answer_words : List (List ℕ) → Answer → List ℕ
answer_words names (Committed entry) = codes "Committed " ++ decimal entry
answer_words names (Exists id) = codes "Exists " ++ id
answer_words names (Missing id) = codes "Missing " ++ id
answer_words names (Invalid path rule) = codes "Invalid " ++ path_text path ++ codes " " ++ validity_word rule
answer_words names (Expand id block rule) =
    codes "Expand " ++ id ++ codes " " ++ decimal block ++ codes " " ++ expansion_word rule
answer_words names (Clash device path id) =
    codes "Clash " ++ name_of names device ++ codes " " ++ path_text path ++ codes " " ++ id
answer_words names (Conflict entry written) =
    codes "Conflict " ++ decimal entry ++ codes " " ++ written_words written
answer_words names (OutOfSync device cause) =
    codes "OutOfSync " ++ name_of names device ++ codes " " ++ why_words cause
answer_words names (Refused device said) = refused_words (name_of names device) said
answer_words names (LinkFault device count) = link_fault_words (name_of names device) count
answer_words names (Reused entry) = codes "Reused " ++ decimal entry
answer_words names Down = codes "Down"
answer_words names JournalFault = codes "JournalFault"
answer_words names Memory = codes "Memory"
answer_words names (Busy number) = codes "Busy " ++ decimal number

-- where the answer names a device, the device is one of so many, and where it names a rule, the rule is one of validity or
-- of expansion
abbrev pub is_answer_among : ℕ → Answer → Bool
is_answer_among devices (Committed entry) = true
is_answer_among devices (Exists id) = true
is_answer_among devices (Missing id) = true
is_answer_among devices (Invalid path rule) = is_rule rule
is_answer_among devices (Expand id block rule) = is_expansion_rule rule
is_answer_among devices (Clash device path id) = nat_lt device devices
is_answer_among devices (Conflict entry written) = true
is_answer_among devices (OutOfSync device cause) = nat_lt device devices
is_answer_among devices (Refused device said) = nat_lt device devices
is_answer_among devices (LinkFault device count) = nat_lt device devices
is_answer_among devices (Reused entry) = true
is_answer_among devices Down = true
is_answer_among devices JournalFault = true
is_answer_among devices Memory = true
is_answer_among devices (Busy number) = true

-- the caller, the call's number and the answer
abbrev pub answer_line : List (List ℕ) → List ℕ → ℕ → Answer → List ℕ
answer_line names caller number answer =
    caller ++ codes " " ++ decimal number ++ codes " " ++ answer_words names answer ++ codes "\n"

-- histories

-- a call of a history, with its number in it; each write of a literal service and each item of a body is indented
abbrev pub history_call : ℕ → Call → List ℕ
history_call entry call =
    decimal entry ++ codes " " ++ call.caller ++ codes " " ++ decimal call.number ++ codes "\n"
    ++ flat_map (action_lines (codes "  ")) call.actions

-- the calls of a history, from this number on
abbrev pub history_lines : ℕ → List Call → List ℕ
history_lines entry [] = []
history_lines entry (call ∷ calls) = history_call entry call ++ history_lines (suc entry) calls

abbrev pub history_text : List Call → List ℕ
history_text calls = codes "history " ++ decimal (length calls) ++ codes "\n" ++ history_lines 1 calls ++ codes "end\n"

-- how many calls the history has after a recovery
abbrev pub recovered_line : ℕ → List ℕ
recovered_line entries = codes "recovered " ++ decimal entries ++ codes "\n"

-- reconciliations

-- The line of a reconciliation that ended. Where the disk failed, or the journal had no room, the run ends, and there is
-- none.
abbrev pub mended_line : List (List ℕ) → Result (Unit {0}) RecFault → List ℕ
mended_line names (Ok done) = codes "reconcile ok\n"
mended_line names (Err (fault.LinkFault device count)) =
    codes "reconcile " ++ link_fault_words (name_of names device) count ++ codes "\n"
mended_line names (Err fault.DiskFault) = []
mended_line names (Err (fault.Refused device said)) =
    codes "reconcile " ++ refused_words (name_of names device) said ++ codes "\n"
mended_line names (Err fault.Memory) = codes "reconcile Memory\n"
mended_line names (Err (fault.Full len)) = []

-- the line of a reconciliation that ended, and of one that didn't begin, since the controller is down
abbrev pub reconciled_line : List (List ℕ) → Option (Result (Unit {0}) RecFault) → List ℕ
reconciled_line names None = codes "reconcile down\n"
reconciled_line names (Some ended) = mended_line names ended

-- where the end of a reconciliation names a device, the device is one of so many
abbrev pub is_end_among : ℕ → Option (Result (Unit {0}) RecFault) → Bool
is_end_among devices None = true
is_end_among devices (Some (Ok done)) = true
is_end_among devices (Some (Err (fault.LinkFault device count))) = nat_lt device devices
is_end_among devices (Some (Err fault.DiskFault)) = true
is_end_among devices (Some (Err (fault.Refused device said))) = nat_lt device devices
is_end_among devices (Some (Err fault.Memory)) = true
is_end_among devices (Some (Err (fault.Full len))) = true
