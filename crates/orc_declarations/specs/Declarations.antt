-- What each form of a declaration makes of what was declared so far.
use Rattle.std.specs.Prelude.{ℕ, zero, suc, Bool, true, false, not, ◌&&◌, ◌||◌, ◌-◌, nat_eq, nat_le, nat_lt, List, [], ◌∷◌, ◌++◌, codes, length, slice_get, Option, Result, is_none, is_some, option_and_then, option_map, option_to_list, if◌then◌else◌, ◌+◌}
use Rattle.std.specs.declared.option.Option.TheVariants.{None, Some}
use Rattle.std.specs.declared.result.Result.TheVariants.{Ok, Err}
use Rattle.std.specs.List.{flat_map, list_all, list_any}
use Rattle.std.specs.Option.{option_map_or}
use Rattle.std.specs.Str.{is_utf8}
use Rattle.orc_path.specs.Alphabet.{is_identifier}
use Rattle.orc_path.specs.Limits.{is_long_name}
use Rattle.orc_call.specs.declared.call.Put.{Put}
use Rattle.orc_path.specs.Steps.{PathStep}
use Rattle.orc_check.specs.Validity.{broken_of}
use Rattle.orc_schema_nodes.specs.Schemas.{SchemaTable, plain_table}
use Rattle.orc_decls.specs.Calls.{meets, schema_named}
use Rattle.orc_decls.specs.Declarations.{accepts_base, has_template, is_service_list}
use Rattle.orc_services.specs.declared.list.ServiceList.{ServiceList}
use Rattle.orc_template.specs.Said.{json_value}
use Rattle.orc_path.specs.Order.{path_cmp}
use Rattle.orc_path.specs.Reading.{path_of}
use Rattle.std.specs.Ordering.{eq_by_cmp}
use Rattle.orc_decls.specs.Openings.{opening_data}
use Rattle.orc_decls.specs.declared.declarations.Device.{Device}
use Rattle.orc_decls.specs.declared.declarations.TheConstants.{MOST_DEVICES}
use Rattle.orc_decls.specs.declared.rule.Rule.{Rule}
use Rattle.orc_decls.specs.declared.rule.Rule.TheVariants as rule
use Rattle.orc_lines.specs.Rules.{checked, or_rule, on_ok}
use Rattle.orc_lines.specs.Lines.{block_of, is_large, is_skipped, text_of}
use Rattle.orc_lines.specs.Words.{cut_at, is_text, number_in, words_of}
use Rattle.orc_lines.specs.Keywords.{keyword_of}
use Rattle.orc_lines.specs.Names.{is_among, place_of, repeats, with_name}
use Rattle.orc_lines.specs.Items.{forbidden_of, is_past_path, list_path_of, put_of}
use Rattle.orc_declarations.specs.Modules.{orc_module, module_of}
use Rattle.orc_declarations.specs.Schemas.{schema_or_rule}
use Rattle.orc_yang.specs.declared.statement.Stmt.{Stmt}
use Rattle.orc_lines.specs.declared.keyword.Keyword.{Keyword}
use Rattle.orc_lines.specs.declared.keyword.Keyword.TheVariants as keyword
use Rattle.orc_lines.specs.declared.declared.Declared.{Declared}
use Rattle.orc_declarations.specs.declared.module.Module.{Module}
use Rattle.orc_lines.specs.declared.declared.Section.{Section}
use Rattle.orc_lines.specs.declared.declared.Section.TheVariants as section
use Rattle.orc_lines.specs.Rules.{on_line}

-- the schema of modules that make one, else the plain one
abbrev pub schema_or_plain : Result SchemaTable Rule → SchemaTable
schema_or_plain (Ok schema) = schema
schema_or_plain (Err rule) = plain_table

-- the schema of the built-in module alone
abbrev pub built_in_schema : SchemaTable
built_in_schema = schema_or_plain (schema_or_rule (orc_module ∷ []))

-- nothing is declared, and the header is due
abbrev pub nothing_declared : Declared
nothing_declared = record {
  section = section.Header;
  skip = 0;
  modules = [];
  statements = [];
  has_data = false;
  types = [];
  schemas = plain_table ∷ [];
  names = [];
  devices = [];
  data_schema = built_in_schema;
  «data» = [];
  templates = [];
  services = [];
}

-- the forms

-- `orc 1`
unfoldable pub after_header : Declared → List ℕ → Result Declared Rule
after_header declared text =
    checked ((not (is_text text (codes "orc 1")), rule.Header) ∷ [])
    (Ok (record declared { section = section.Declarations }))

-- the statement of a module that is declared or built in
abbrev pub module_named : Declared → List ℕ → Option Stmt
module_named declared name =
    if is_text name (codes "orc")
    then Some orc_module else option_and_then (slice_get declared.statements) (place_of declared.modules name)

abbrev pub is_declared : Declared → List ℕ → Bool
is_declared declared name = is_some (module_named declared name)

-- the statements of the modules of these names
abbrev pub modules_named : Declared → List (List ℕ) → List Stmt
modules_named declared names = flat_map (λ name. option_to_list (module_named declared name)) names

-- the schema of the modules of these names; all the words are names, and one of them may be taken
abbrev pub schema_words : Declared → List (List ℕ) → List (List ℕ) → Bool → Result SchemaTable Rule
schema_words declared words names is_double =
    checked (
    (not (list_all is_identifier words), rule.Line)
    ∷ (list_any is_long_name words, rule.Size)
    ∷ (not (list_all (is_declared declared) names), rule.Unknown)
    ∷ (is_double, rule.Duplicate)
    ∷ (repeats names, rule.Schema)
    ∷ [])
    (schema_or_rule (modules_named declared names))

-- `datamodel M M ..`; the built-in module is always one of them. No item of the data and no template stands above this
-- line, since a line may name no path of the built-in module.
unfoldable pub after_datamodel : Declared → List ℕ → Result Declared Rule
after_datamodel declared rest =
    on_ok (schema_words declared (words_of rest) (with_name (words_of rest) (codes "orc")) declared.has_data) (λ schema.
    Ok (record declared { has_data = true; data_schema = schema; «data» = []; templates = []; services = [] }))

-- a type of devices, and its schema
abbrev pub with_type : Declared → List ℕ → SchemaTable → Declared
with_type declared name schema = record declared {
  types = declared.types ++ name ∷ [];
  schemas = declared.schemas ++ schema ∷ [];
}

-- `devicetype T M M ..`
abbrev pub type_words : Declared → List (List ℕ) → Result Declared Rule
type_words declared [] = Err rule.Line
type_words declared (name ∷ []) = Err rule.Line
type_words declared (name ∷ first ∷ later) =
    on_ok (schema_words declared (name ∷ first ∷ later) (first ∷ later) (is_among declared.types name)) (λ schema.
    Ok (with_type declared name schema))

unfoldable pub after_devicetype : Declared → List ℕ → Result Declared Rule
after_devicetype declared rest = type_words declared (words_of rest)

-- the place of the schema of devices of a kind: the plain one stands first, and after it those of the types
abbrev pub schema_place : Declared → List ℕ → Option ℕ
schema_place declared kind =
    if is_text kind (codes "plain") then Some 0 else option_map suc (place_of declared.types kind)

-- a device that has no item yet
abbrev pub with_device : Declared → List ℕ → ℕ → Declared
with_device declared name place = record declared {
  names = declared.names ++ name ∷ [];
  devices = declared.devices ++ (record { name = name; schema = place; base = []; max = []; forbid = [] }) ∷ [];
}

-- `device D plain` and `device D T`
abbrev pub device_words : Declared → Option (List ℕ × List ℕ) → Result Declared Rule
device_words declared None = Err rule.Line
device_words declared (Some words) =
    checked (
    (not (is_identifier words.0) || not (is_identifier words.1), rule.Line)
    ∷ (is_long_name words.0 || is_long_name words.1, rule.Size)
    ∷ (not (is_among declared.names words.0) && nat_le MOST_DEVICES (length declared.names), rule.Size)
    ∷ [])
    (or_rule (schema_place declared words.1) rule.Unknown (λ place.
    checked ((is_among declared.names words.0, rule.Duplicate) ∷ [])
    (Ok (with_device declared words.0 place))))

unfoldable pub after_device : Declared → List ℕ → Result Declared Rule
after_device declared rest = device_words declared (cut_at 32 rest)

-- the device of a number is changed
abbrev pub changed_at : ℕ → (Device → Device) → List Device → List Device
changed_at number change [] = []
changed_at zero change (device ∷ devices) = change device ∷ devices
changed_at (suc number) change (device ∷ devices) = device ∷ changed_at number change devices

-- its base has one item more
abbrev pub with_base : ℕ → Put → List Device → List Device
with_base number put = changed_at number (λ device. record device { base = device.base ++ put ∷ [] })

-- `base D ITEM`
abbrev pub base_words : Declared → Option (List ℕ × List ℕ) → Result Declared Rule
base_words declared None = Err rule.Line
base_words declared (Some words) =
    checked ((not (is_identifier words.0), rule.Line) ∷ [])
    (on_ok (put_of None (schema_named declared.schemas declared.devices words.0) (is_long_name words.0) words.1) (λ put.
    or_rule (place_of declared.names words.0) rule.Unknown (λ number.
    Ok (record declared { devices = with_base number put declared.devices }))))

unfoldable pub after_base : Declared → List ℕ → Result Declared Rule
after_base declared rest = base_words declared (cut_at 32 rest)

-- the device of this number has one rule more: a list's path, and the most entries that it may have
abbrev pub with_max : ℕ → List PathStep × ℕ → List Device → List Device
with_max number limit = changed_at number (λ device. record device { max = device.max ++ limit ∷ [] })

-- the device of this number has one rule more: a leaf's path, and a text that it may not have
abbrev pub with_forbid : ℕ → List PathStep × List ℕ → List Device → List Device
with_forbid number leaf = changed_at number (λ device. record device { forbid = device.forbid ++ leaf ∷ [] })

-- `rule D max LISTPATH N`, after the word `max`
abbrev pub max_words : Declared → List ℕ → Option (List ℕ × List ℕ) → Result Declared Rule
max_words declared name None = Err rule.Line
max_words declared name (Some words) =
    or_rule (number_in words.1) rule.Line (λ count.
    on_ok (list_path_of (schema_named declared.schemas declared.devices name) (is_long_name name) words.0) (λ path.
    or_rule (place_of declared.names name) rule.Unknown (λ number.
    Ok (record declared { devices = with_max number (path, count) declared.devices }))))

unfoldable pub after_max : Declared → List ℕ → List ℕ → Result Declared Rule
after_max declared name rest = max_words declared name (cut_at 32 rest)

-- `rule D forbid PATH = VALUE`, after the word `forbid`
unfoldable pub after_forbid : Declared → List ℕ → List ℕ → Result Declared Rule
after_forbid declared name rest =
    on_ok (forbidden_of (schema_named declared.schemas declared.devices name) (is_long_name name) rest) (λ leaf.
    or_rule (place_of declared.names name) rule.Unknown (λ number.
    Ok (record declared { devices = with_forbid number leaf declared.devices })))

-- a rule of the device of this name, by its kind
abbrev pub rule_kind : Declared → List ℕ → Option (List ℕ × List ℕ) → Result Declared Rule
rule_kind declared name None = Err rule.Line
rule_kind declared name (Some words) =
    if is_text words.0 (codes "max") then after_max declared name words.1 else
    if is_text words.0 (codes "forbid") then after_forbid declared name words.1 else Err rule.Line

abbrev pub rule_line : Declared → Option (List ℕ × List ℕ) → Result Declared Rule
rule_line declared None = Err rule.Line
rule_line declared (Some words) =
    checked ((not (is_identifier words.0), rule.Line) ∷ []) (rule_kind declared words.0 (cut_at 32 words.1))

-- `rule D max ..` and `rule D forbid ..`
unfoldable pub after_rule : Declared → List ℕ → Result Declared Rule
after_rule declared rest = rule_line declared (cut_at 32 rest)

-- `data ITEM`
unfoldable pub after_data : Declared → List ℕ → Result Declared Rule
after_data declared rest =
    on_ok (put_of (Some declared.services) declared.data_schema false rest) (λ put.
    Ok (record declared { «data» = declared.data ++ put ∷ [] }))

-- a module of this name can't be declared: it is, or is built in
abbrev pub is_taken : Declared → List ℕ → Bool
is_taken declared name = is_text name (codes "orc") || is_among declared.modules name

-- a module, with so many lines
abbrev pub with_module : Declared → ℕ → Module → Declared
with_module declared count yang_module = record declared {
  modules = declared.modules ++ yang_module.name ∷ [];
  statements = declared.statements ++ yang_module.statement ∷ [];
  skip = count;
}

-- `yang N`, with the lines after it
unfoldable pub after_yang : Declared → List ℕ → List (List ℕ) → Result Declared Rule
after_yang declared rest later =
    or_rule (number_in rest) rule.Line (λ count.
    or_rule (block_of count later) rule.Line (λ text.
    on_ok (module_of text) (λ yang_module.
    checked ((is_taken declared yang_module.name, rule.Duplicate) ∷ [])
    (Ok (with_module declared count yang_module)))))

-- The path is that of a list whose entries may be services: one of the data schema that is reached through containers
-- alone, at or under which no item of the data is declared.
abbrev pub may_be_served : Declared → List PathStep → Bool
may_be_served declared list =
    is_service_list declared.data_schema list && not (list_any (λ put. meets list put.path) declared.data)

-- the list has a template
abbrev pub is_listed_already : Declared → List PathStep → Bool
is_listed_already declared list = list_any (λ it. eq_by_cmp path_cmp list it.list) declared.services

-- the text of a block is a template of a list
abbrev pub is_template_of : SchemaTable → List PathStep → List ℕ → Bool
is_template_of schema list text =
    is_some (json_value text) && has_template schema (record { list = list; template = text })

-- a template, with so many lines
abbrev pub with_template : Declared → ℕ → List ℕ → ServiceList → Declared
with_template declared count name it = record declared {
  templates = declared.templates ++ name ∷ [];
  services = declared.services ++ it ∷ [];
  skip = count;
}

-- the list of a `template` line gets the template that the text of its block is
abbrev pub list_template : Declared → List ℕ → ℕ → List PathStep → List ℕ → Result Declared Rule
list_template declared name count list text =
    checked (
    (not (may_be_served declared list), rule.Path)
    ∷ (is_among declared.templates name || is_listed_already declared list, rule.Duplicate)
    ∷ (not (is_template_of declared.data_schema list text), rule.Template)
    ∷ [])
    (Ok (with_template declared count name (record { list = list; template = text })))

-- A line `template` after its name, with the lines after it. The limits of what it says go before the lines that may be
-- missing.
abbrev pub template_block : Declared → List ℕ → ℕ → List ℕ → List (List ℕ) → Result Declared Rule
template_block declared name count word later =
    checked (
    (nat_eq (length word) 0, rule.Line)
    ∷ (is_long_name name || is_past_path (path_of word), rule.Size)
    ∷ [])
    (or_rule (block_of count later) rule.Line (λ text.
    or_rule (path_of word) rule.Path (λ list.
    list_template declared name count list text)))

-- `template T LISTPATH N` after its name
abbrev pub template_line : Declared → List ℕ → List (List ℕ) → Option (List ℕ × List ℕ) → Result Declared Rule
template_line declared name later None = Err rule.Line
template_line declared name later (Some words) =
    or_rule (number_in words.1) rule.Line (λ count. template_block declared name count words.0 later)

abbrev pub template_words : Declared → List (List ℕ) → Option (List ℕ × List ℕ) → Result Declared Rule
template_words declared later None = Err rule.Line
template_words declared later (Some words) =
    checked ((not (is_identifier words.0), rule.Line) ∷ []) (template_line declared words.0 later (cut_at 32 words.1))

unfoldable pub after_template : Declared → List ℕ → List (List ℕ) → Result Declared Rule
after_template declared rest later = template_words declared later (cut_at 32 rest)

-- the number at the end of such a line
abbrev pub count_in : Option (List ℕ × List ℕ) → Option ℕ
count_in None = None
count_in (Some words) = number_in words.1

abbrev pub template_count : List ℕ → Option ℕ
template_count rest = count_in (option_and_then (λ words. cut_at 32 words.1) (cut_at 32 rest))

-- how many lines a line takes for its block: `yang N` and `template T LISTPATH N` take N, any other none
abbrev pub block_size : Option ℕ → ℕ
block_size number = option_map_or (λ count. count) number 0

unfoldable pub taken_by : Keyword → List ℕ → ℕ
taken_by keyword.Yang rest = block_size (number_in rest)
taken_by keyword.Template rest = block_size (template_count rest)
taken_by _ rest = 0

abbrev pub words_take : Option (List ℕ × List ℕ) → ℕ
words_take None = 0
words_take (Some words) = taken_by (keyword_of words.0) words.1

abbrev pub lines_taken : List ℕ → ℕ
lines_taken text = words_take (cut_at 32 text)

-- `script`
unfoldable pub after_script : Declared → Result Declared Rule
after_script declared = Ok (record declared { section = section.Script })

-- which forms stand where

-- of more than one word
unfoldable pub declaration : Keyword → Declared → List ℕ → List (List ℕ) → Result Declared Rule
declaration keyword.Device declared rest later = after_device declared rest
declaration keyword.Datamodel declared rest later = after_datamodel declared rest
declaration keyword.Devicetype declared rest later = after_devicetype declared rest
declaration keyword.Rule declared rest later = after_rule declared rest
declaration keyword.Base declared rest later = after_base declared rest
declaration keyword.Data declared rest later = after_data declared rest
declaration keyword.Yang declared rest later = after_yang declared rest later
declaration keyword.Template declared rest later = after_template declared rest later
declaration _ declared rest later = Err rule.Line

-- of one word
unfoldable pub bare_declaration : Keyword → Declared → Result Declared Rule
bare_declaration keyword.Script declared = after_script declared
bare_declaration _ declared = Err rule.Line

abbrev pub declaration_words : Declared → List ℕ → List (List ℕ) → Option (List ℕ × List ℕ) → Result Declared Rule
declaration_words declared text later None = bare_declaration (keyword_of text) declared
declaration_words declared text later (Some words) = declaration (keyword_of words.0) declared words.1 later

abbrev pub is_header : Section → Bool
is_header section.Header = true
is_header _ = false

-- a line that is not skipped
unfoldable pub after_text : Declared → List ℕ → List (List ℕ) → Result Declared Rule
after_text declared text later =
    if is_header declared.section
    then after_header declared text else declaration_words declared text later (cut_at 32 text)

-- a line of a block is passed over
abbrev pub in_open_block : Declared → Result Declared Rule → Result Declared Rule
in_open_block declared other =
    if nat_lt 0 declared.skip then Ok (record declared { skip = declared.skip - 1 }) else other

-- a line with the lines after it; so many bytes stand before it
unfoldable pub declared_at : Declared → ℕ → List ℕ → List (List ℕ) → Result Declared Rule
declared_at declared at line later =
    checked ((is_large at line, rule.Size) ∷ [])
    (in_open_block declared (
    checked ((not (is_utf8 (text_of line)), rule.Utf8) ∷ [])
    (if is_skipped (text_of line) then Ok declared else after_text declared (text_of line) later)))

-- where the declarations end: the opening data is valid, and each device accepts its base
abbrev pub is_opening : Declared → Bool
is_opening declared =
    is_none (broken_of declared.data_schema (opening_data declared.names declared.data))
    && list_all (accepts_base declared.schemas) declared.devices

-- What was declared: the bytes before the line `script`, or all where there is none; the bytes and the lines
-- before the script, and its lines.
pub record Front : Type 0 where
  pub declared : Declared
  pub size : ℕ
  pub at : ℕ
  pub number : ℕ
  pub later : List (List ℕ)

-- the line `script` was read
abbrev pub is_script : Section → Bool
is_script section.Script = true
is_script _ = false

-- The declarations end in the line of this number, or after the last one.
abbrev pub opened : ℕ → Front → Result Front (ℕ × Rule)
opened number front = if is_opening front.declared then Ok front else Err (number, rule.Opening)

-- the declarations in lines, before which stand so many bytes and so many lines
abbrev pub declarations_of : Declared → ℕ → ℕ → List (List ℕ) → Result Front (ℕ × Rule)
declarations_of declared at number [] =
    opened (number + 1) (record { declared = declared; size = at; at = at; number = number; later = [] })
declarations_of declared at number (line ∷ later) =
    on_line (number + 1) (declared_at declared at line later) (λ new.
    if is_script new.section
    then opened (number + 1)
    (record { declared = new; size = at; at = at + length line; number = number + 1; later = later })
    else declarations_of new (at + length line) (number + 1) later)
