-- What a line says of a device: its name, and after it an item or a path.
use Rattle.std.specs.Prelude.{ℕ, Bool, false, not, ◌&&◌, ◌||◌, nat_eq, List, [], ◌∷◌, length, Option, is_some, Result}
use Rattle.std.specs.declared.option.Option.TheVariants.{None, Some}
use Rattle.std.specs.declared.result.Result.TheVariants.{Ok, Err}
use Rattle.orc_path.specs.Alphabet.{is_identifier}
use Rattle.orc_path.specs.Limits.{is_long_name, is_long_path}
use Rattle.orc_path.specs.Steps.{PathStep, is_path}
use Rattle.orc_schema_nodes.specs.Schemas.{SchemaTable}
use Rattle.orc_typed.specs.Typed.{are_canonical_steps, canonical_path, stand}
use Rattle.orc_call.specs.declared.call.DevicePut.{DevicePut}
use Rattle.orc_decls.specs.Calls.{blank_item, is_path_under, schema_named}
use Rattle.orc_decls.specs.declared.rule.Rule.{Rule}
use Rattle.orc_decls.specs.declared.rule.Rule.TheVariants as rule
use Rattle.orc_lines.specs.Rules.{checked, or_rule, on_ok}
use Rattle.orc_lines.specs.Words.{cut_at}
use Rattle.orc_lines.specs.Names.{is_among, place_of}
use Rattle.orc_lines.specs.Items.{can_carry, kept_path_of, names_list, put_of}
use Rattle.orc_decls.specs.declared.declarations.Decls.{Decls}

-- items

-- `D ITEM`, an item of a declared device
abbrev pub device_item_words : Decls → Option (List ℕ × List ℕ) → Result DevicePut Rule
device_item_words decls None = Err rule.Line
device_item_words decls (Some words) =
    checked ((not (is_identifier words.0), rule.Line) ∷ [])
    (on_ok (put_of None (schema_named decls.schemas decls.devices words.0) (is_long_name words.0) words.1) (λ put.
    checked ((not (is_among decls.names words.0), rule.Unknown) ∷ [])
    (Ok (record { device = words.0; path = put.path; item = put.item }))))

unfoldable pub device_item_of : Decls → List ℕ → Result DevicePut Rule
device_item_of decls text = device_item_words decls (cut_at 32 text)

-- paths that can carry an item

-- What is stored of a path for an item: its canonical form. It is looked at once more, and can then only pass a limit,
-- which no law says yet.
abbrev pub stored_base_path : SchemaTable → Option (List PathStep) → Result (List PathStep) Rule
stored_base_path schema own =
    or_rule own rule.Value (λ path. checked ((not (is_path_under schema path), rule.Size) ∷ []) (Ok path))

-- a word is missing, or one too many stands there
abbrev pub is_no_word : List ℕ → Bool
is_no_word text = nat_eq (length text) 0 || is_some (cut_at 32 text)

-- `PATH`, one that can carry an item of a device's base; a name before it may be too long
abbrev pub base_path_of : SchemaTable → Bool → List ℕ → Result (List PathStep) Rule
base_path_of schema is_long word =
    checked ((is_no_word word, rule.Line) ∷ [])
    (on_ok (kept_path_of is_long word) (λ path.
    checked ((not (can_carry schema path (blank_item path)), rule.Path) ∷ [])
    (stored_base_path schema (canonical_path schema path))))

-- `D PATH`, such a path of a declared device
abbrev pub device_path_words : Decls → Option (List ℕ × List ℕ) → Result (List ℕ × List PathStep) Rule
device_path_words decls None = Err rule.Line
device_path_words decls (Some words) =
    checked ((not (is_identifier words.0), rule.Line) ∷ [])
    (on_ok (base_path_of (schema_named decls.schemas decls.devices words.0) (is_long_name words.0) words.1)
    (λ path. checked ((not (is_among decls.names words.0), rule.Unknown) ∷ [])
    (Ok (words.0, path))))

unfoldable pub device_path_of : Decls → List ℕ → Result (List ℕ × List PathStep) Rule
device_path_of decls text = device_path_words decls (cut_at 32 text)

-- paths of nodes

-- The path is one of the schema, whatever its texts: the root, that of a node with the keys of each step, or that of a
-- list or a leaf-list without keys in its own step. A plain schema has every path.
abbrev pub names_node : SchemaTable → List PathStep → Bool
names_node schema path = schema.plain || (stand schema [] path || names_list schema path)

-- The path is one of the schema, keeps the limits, and has its keys in canonical form.
abbrev pub is_node_path : SchemaTable → List PathStep → Bool
is_node_path schema path = is_path path && not (is_long_path path)
    && (schema.plain || ((stand schema [] path || names_list schema path) && are_canonical_steps schema [] path))

-- what is stored of a node's path: its canonical form, looked at once more in the same way
abbrev pub stored_node_path : SchemaTable → Option (List PathStep) → Result (List PathStep) Rule
stored_node_path schema own =
    or_rule own rule.Value (λ path. checked ((not (is_node_path schema path), rule.Size) ∷ []) (Ok path))

-- `PATH`, any one of the schema; what stands before it may pass a limit
abbrev pub node_path_of : SchemaTable → Bool → List ℕ → Result (List PathStep) Rule
node_path_of schema is_long word =
    checked ((is_no_word word, rule.Line) ∷ [])
    (on_ok (kept_path_of is_long word) (λ path.
    checked ((not (names_node schema path), rule.Path) ∷ [])
    (stored_node_path schema (canonical_path schema path))))

-- `D PATH`, any one of a declared device, which is known by its number; there may be no room for a step more
abbrev pub device_node_words : Decls → Bool → Option (List ℕ × List ℕ) → Result (ℕ × List PathStep) Rule
device_node_words decls is_full None = Err rule.Line
device_node_words decls is_full (Some words) =
    checked ((not (is_identifier words.0), rule.Line) ∷ [])
    (on_ok
    (node_path_of (schema_named decls.schemas decls.devices words.0) (is_long_name words.0 || is_full) words.1)
    (λ path. or_rule (place_of decls.names words.0) rule.Unknown (λ device. Ok (device, path))))

unfoldable pub device_node_of : Decls → Bool → List ℕ → Result (ℕ × List PathStep) Rule
device_node_of decls is_full text = device_node_words decls is_full (cut_at 32 text)
