-- Items as words of a line.
use Rattle.std.specs.Prelude.{ℕ, ◌-◌, Bool, false, not, ◌&&◌, ◌||◌, is_some, nat_eq, nat_lt, List, [], ◌∷◌, codes, length, take, Option, Result, if◌then◌else◌}
use Rattle.std.specs.declared.option.Option.TheVariants.{None, Some}
use Rattle.std.specs.declared.result.Result.TheVariants.{Ok, Err}
use Rattle.std.specs.Option.{option_map_or}
use Rattle.orc_path.specs.Items.{fits}
use Rattle.orc_path.specs.Steps.{PathStep, ends_in_keys}
use Rattle.orc_path.specs.Reading.{path_of}
use Rattle.orc_path.specs.Values.{value_of}
use Rattle.orc_path.specs.Limits.{is_long_path, is_long_value}
use Rattle.orc_path.specs.declared.item.Item.{Item}
use Rattle.orc_path.specs.declared.item.Item.TheVariants.{Entry, Leaf}
use Rattle.orc_schema_nodes.specs.Schemas.{SchemaTable, node_at, path_names}
use Rattle.orc_typed.specs.Typed.{canonical_item, canonical_path, is_in_schema, stand}
use Rattle.orc_call.specs.declared.call.Put.{Put}
use Rattle.orc_services.specs.Services.{list_with}
use Rattle.orc_services.specs.declared.list.ServiceList.{ServiceList}
use Rattle.orc_decls.specs.Calls.{blank_item, has_entries, is_data_path, is_kept, is_list_path, is_served}
use Rattle.orc_decls.specs.declared.rule.Rule.{Rule}
use Rattle.orc_decls.specs.declared.rule.Rule.TheVariants as rule
use Rattle.orc_lines.specs.Rules.{checked, of_option, or_rule, on_ok}
use Rattle.orc_lines.specs.Words.{cut_at, is_text}

-- limits are those of what a text means, so a text that means nothing passes none
abbrev pub is_past_path : Option (List PathStep) → Bool
is_past_path path = option_map_or is_long_path path false

abbrev pub is_past_value : Option (List ℕ) → Bool
is_past_value value = option_map_or is_long_value value false

abbrev pub is_long_item : Item → Bool
is_long_item Entry = false
is_long_item (Leaf text) = is_long_value text

-- the path can carry such an item under a schema, whatever their texts
abbrev pub can_carry : SchemaTable → List PathStep → Item → Bool
can_carry schema path item = fits path item && is_in_schema schema path item

-- Of a device each path may be named; of the data, which has these lists of services, none that the orchestrator keeps
-- itself, and none at, under or above such a list.
abbrev pub is_barred : Option (List ServiceList) → List PathStep → Bool
is_barred None path = false
is_barred (Some lists) path = is_kept path || is_served lists path

-- What is stored of an item: its path and the item in canonical form, which has to keep the limits too.
abbrev pub stored_put : Option (List PathStep) → Option Item → Result Put Rule
stored_put own own_item =
    or_rule own rule.Value (λ path.
    or_rule own_item rule.Value (λ item.
    checked ((is_long_path path || is_long_item item, rule.Size) ∷ []) (Ok (record { path = path; item = item }))))

abbrev pub canonical_put : SchemaTable → List PathStep → Item → Result Put Rule
canonical_put schema path item = stored_put (canonical_path schema path) (canonical_item schema path item)

-- the path that a word is, which keeps the limits; what stands before it may pass one
abbrev pub kept_path_of : Bool → List ℕ → Result (List PathStep) Rule
kept_path_of is_long word =
    checked ((is_long || is_past_path (path_of word), rule.Size) ∷ []) (of_option (path_of word) rule.Path)

-- `PATH`, an entry, of the data with its lists of services or of a device; a name before it may be too long
abbrev pub entry_of : Option (List ServiceList) → SchemaTable → Bool → List ℕ → Result Put Rule
entry_of lists schema is_long word =
    checked ((nat_eq (length word) 0, rule.Line) ∷ [])
    (on_ok (kept_path_of is_long word) (λ path.
    checked ((is_barred lists path || not (can_carry schema path Entry), rule.Path) ∷ [])
    (canonical_put schema path Entry)))

-- `PATH = VALUE`, a leaf
abbrev pub leaf_of : Option (List ServiceList) → SchemaTable → Bool → List ℕ → List ℕ → Result Put Rule
leaf_of lists schema is_long word text =
    checked (
    (nat_eq (length word) 0, rule.Line)
    ∷ (is_long || is_past_path (path_of word) || is_past_value (value_of text), rule.Size)
    ∷ [])
    (or_rule (path_of word) rule.Path (λ path.
    checked ((is_barred lists path || not (can_carry schema path (Leaf [])), rule.Path) ∷ [])
    (or_rule (value_of text) rule.Value (λ value.
    canonical_put schema path (Leaf value)))))

-- what stands after = and a space
abbrev pub marked : Option (List ℕ × List ℕ) → Option (List ℕ)
marked None = None
marked (Some words) = if is_text words.0 (codes "=") then Some words.1 else None

abbrev pub after_mark : List ℕ → Option (List ℕ)
after_mark rest = marked (cut_at 32 rest)

-- a path's text, and what stands after it and a space
abbrev pub item_words : Option (List ServiceList) → SchemaTable → Bool → List ℕ → Option (List ℕ × List ℕ)
    → Result Put Rule
item_words lists schema is_long text None = entry_of lists schema is_long text
item_words lists schema is_long text (Some words) =
    or_rule (after_mark words.1) rule.Line (λ value. leaf_of lists schema is_long words.0 value)

-- an item and where it stands, as a schema stores them; a name before it may be too long
abbrev pub put_of : Option (List ServiceList) → SchemaTable → Bool → List ℕ → Result Put Rule
put_of lists schema is_long text = item_words lists schema is_long text (cut_at 32 text)

-- paths without an item

-- What is stored of a path of the data: its canonical form. That is looked at once more, and can then only pass a
-- limit, which no law says yet.
abbrev pub stored_data_path : SchemaTable → Option (List PathStep) → Result (List PathStep) Rule
stored_data_path schema own =
    or_rule own rule.Value (λ path. checked ((not (is_data_path schema path), rule.Size) ∷ []) (Ok path))

-- `PATH`, one of the data that can carry an item
abbrev pub data_path_of : List ServiceList → SchemaTable → List ℕ → Result (List PathStep) Rule
data_path_of lists schema word =
    checked ((nat_eq (length word) 0, rule.Line) ∷ [])
    (on_ok (kept_path_of false word) (λ path.
    checked ((is_barred (Some lists) path || not (can_carry schema path (blank_item path)), rule.Path) ∷ [])
    (stored_data_path schema (canonical_path schema path))))

-- The path is that of an entry of one of these lists of services, whatever its texts.
abbrev pub names_service : List ServiceList → SchemaTable → List PathStep → Bool
names_service lists schema path =
    is_some (list_with lists path) && (not (is_kept path) && can_carry schema path (blank_item path))

-- The path is an entry of one of these lists of services, keeps the limits, and has its keys in canonical form.
abbrev pub is_service_at : List ServiceList → SchemaTable → List PathStep → Bool
is_service_at lists schema path = is_data_path schema path && is_some (list_with lists path)

-- what is stored of a service's path: its canonical form, looked at once more in the same way
abbrev pub stored_service_path : List ServiceList → SchemaTable → Option (List PathStep) → Result (List PathStep) Rule
stored_service_path lists schema own =
    or_rule own rule.Value (λ path. checked ((not (is_service_at lists schema path), rule.Size) ∷ []) (Ok path))

-- `PATH`, the entry of a service
abbrev pub service_path_of : List ServiceList → SchemaTable → List ℕ → Result (List PathStep) Rule
service_path_of lists schema word =
    checked ((nat_eq (length word) 0, rule.Line) ∷ [])
    (on_ok (kept_path_of false word) (λ path.
    checked ((not (names_service lists schema path), rule.Path) ∷ [])
    (stored_service_path lists schema (canonical_path schema path))))

-- The path is that of a list or a leaf-list, whatever its texts: the steps above it stand with their keys, and its own
-- has none.
abbrev pub names_list : SchemaTable → List PathStep → Bool
names_list schema path = nat_lt 0 (length path) && not (ends_in_keys path)
    && (schema.plain || (stand schema [] (take (length path - 1) path)
    && has_entries (node_at schema (path_names path))))

-- What is stored of a list's path: its canonical form, looked at once more in the same way. `is_list_path` of the state
-- says the same of a path that keeps the limits and whose keys are canonical.
abbrev pub stored_list_path : SchemaTable → Option (List PathStep) → Result (List PathStep) Rule
stored_list_path schema own =
    or_rule own rule.Value (λ path. checked ((not (is_list_path schema path), rule.Size) ∷ []) (Ok path))

-- `LISTPATH`; a name before it may be too long
abbrev pub list_path_of : SchemaTable → Bool → List ℕ → Result (List PathStep) Rule
list_path_of schema is_long word =
    checked ((nat_eq (length word) 0, rule.Line) ∷ [])
    (on_ok (kept_path_of is_long word) (λ path.
    checked ((not (names_list schema path), rule.Path) ∷ [])
    (stored_list_path schema (canonical_path schema path))))

-- the path of a leaf, and its text
abbrev pub leaf_in : List PathStep → Item → Result (List PathStep × List ℕ) Rule
leaf_in path Entry = Err rule.Line
leaf_in path (Leaf text) = Ok (path, text)

-- `PATH = VALUE`, which has to be a leaf; a name before it may be too long
abbrev pub forbidden_words : SchemaTable → Bool → Option (List ℕ × List ℕ) → Result (List PathStep × List ℕ) Rule
forbidden_words schema is_long None = Err rule.Line
forbidden_words schema is_long (Some words) =
    or_rule (after_mark words.1) rule.Line (λ value.
    on_ok (leaf_of None schema is_long words.0 value) (λ put. leaf_in put.path put.item))

unfoldable pub forbidden_of : SchemaTable → Bool → List ℕ → Result (List PathStep × List ℕ) Rule
forbidden_of schema is_long text = forbidden_words schema is_long (cut_at 32 text)
