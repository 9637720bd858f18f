-- Where a configuration breaks its schema: the types of values (RFC 7950 section 9), keys (7.8.2), mandatory leaves
-- (7.6.5), numbers of entries (7.7.5 and 7.7.6) and leafrefs (9.9). A configuration is seen as the flat map that it is.
use Rattle.std.specs.Prelude.{ℕ, Bool, true, false, not, ◌&&◌, ◌||◌, nat_lt, List, [], ◌∷◌, ◌++◌, length, take, map, Option, Some, None, is_none, option_and_then, if◌then◌else◌}
use Rattle.std.specs.declared.cmp.Ordering.{Ordering}
use Rattle.std.specs.Ordering.{is_lt, nat_cmp, ordering_then}
use Rattle.std.specs.Option.{option_map_or}
use Rattle.std.specs.List.{filter, flat_map, fold, list_any}
use Rattle.std.specs.Cmp.Lexicographic.{pointwise}
use Rattle.std.specs.FinMap.{get, keys, entries}
use Rattle.orc_path.specs.Steps.{PathStep}
use Rattle.orc_path.specs.Order.{path_cmp, step_eq}
use Rattle.orc_path.specs.Configurations.{Config, is_entry_of}
use Rattle.orc_path.specs.declared.item.Item.{Item}
use Rattle.orc_path.specs.declared.item.Item.TheVariants as item
use Rattle.orc_value.specs.Canon.{same_text}
use Rattle.orc_schema_nodes.specs.Names.{same_names}
use Rattle.orc_schema_nodes.specs.Schemas.{SchemaTable, path_names, node_at, kind_at_path}
use Rattle.orc_schema_nodes.specs.declared.line.Node.{Node}
use Rattle.orc_schema_nodes.specs.declared.line.Node.TheVariants.{Container, List as ListOf, Leaf, LeafList}
use Rattle.orc_schema_nodes.specs.declared.line.LeafNode.{LeafNode}
use Rattle.orc_schema_nodes.specs.declared.line.SchemaLine.{SchemaLine}
use Rattle.orc_schema_nodes.specs.declared.line.Target.{Target}
use Rattle.orc_typed.specs.Typed.{is_in_schema, kinds_at, are_canonical_keys, is_canonical_value}
use Rattle.orc_check.specs.declared.rules.TheConstants.{KIND, KEY, MANDATORY, MIN_ELEMENTS, MAX_ELEMENTS, LEAFREF}

-- Breaches ------------------------------------------------------------------------------------------------------------

-- a rule is broken at a path
pub record Breach : Type 0 where
  pub path : List PathStep
  pub rule : ℕ

-- the order of breaches: by path, and then by rule
abbrev pub breach_cmp : Breach → Breach → Ordering
breach_cmp one other = ordering_then (path_cmp one.path other.path) (nat_cmp one.rule other.rule)

abbrev pub breach_if : Bool → List PathStep → ℕ → List Breach
breach_if broken path rule = if broken then record { path = path; rule = rule } ∷ [] else []

-- What rows hold ------------------------------------------------------------------------------------------------------

-- a text, with the names of the leaf or the leaf-list whose value it is
pub record NamedText : Type 0 where
  pub names : List (List ℕ)
  pub text : List ℕ

-- the keys of a path's last step
abbrev pub last_keys : List PathStep → List (List ℕ)
last_keys [] = []
last_keys (last ∷ []) = last.keys
last_keys (step ∷ next ∷ later) = last_keys (next ∷ later)

-- the keys of an entry, each as the value of its leaf below the list of these names
abbrev pub key_values : List (List ℕ) → List (List ℕ) → List (List ℕ) → List NamedText
key_values names [] keys = []
key_values names (name ∷ later) [] = []
key_values names (name ∷ later) (key ∷ keys) =
    record { names = names ++ name ∷ []; text = key } ∷ key_values names later keys

abbrev pub entry_values : List (List ℕ) → List (List ℕ) → Node → List NamedText
entry_values names keys Container = []
entry_values names keys (ListOf list) = key_values names list.keys keys
entry_values names keys (Leaf leaf) = []
entry_values names keys (LeafList leaf_list) = map (λ key. record { names = names; text = key }) keys

abbrev pub item_values : SchemaTable → List PathStep → Item → List NamedText
item_values schema path item.Entry =
    option_map_or (entry_values (path_names path) (last_keys path)) (node_at schema (path_names path)) []
item_values schema path (item.Leaf text) = record { names = path_names path; text = text } ∷ []

-- The values that a row of the schema holds: the text of a leaf, the keys of an entry of a list, and the value of an
-- entry of a leaf-list.
abbrev pub values_of : SchemaTable → (List PathStep × Item) → List NamedText
values_of schema row = if is_in_schema schema row.0 row.1 then item_values schema row.0 row.1 else []

-- Places, and what is reached from them -------------------------------------------------------------------------------

abbrev pub is_list : Option Node → Bool
is_list (Some (ListOf list)) = true
is_list _ = false

abbrev pub is_container : Option Node → Bool
is_container (Some Container) = true
is_container _ = false

-- a row is an entry of a list of the schema
abbrev pub is_place : SchemaTable → (List PathStep × Item) → Bool
is_place schema row = is_in_schema schema row.0 row.1 && is_list (node_at schema (path_names row.0))

-- the places where nodes may be missing: the root, and each entry of a list that is present
abbrev pub places : SchemaTable → Config → List (List PathStep)
places schema config = [] ∷ map (λ row. row.0) (filter (is_place schema) (entries config))

-- the names after those of a place, where they begin with these
abbrev pub behind : List PathStep → List (List ℕ) → Option (List (List ℕ))
behind [] names = Some names
behind (step ∷ steps) [] = None
behind (step ∷ steps) (name ∷ names) = if same_text step.node name then behind steps names else None

-- names that lead on from those above through containers alone, and one at least
abbrev pub goes_down : SchemaTable → List (List ℕ) → List (List ℕ) → Bool
goes_down schema above [] = false
goes_down schema above (name ∷ []) = true
goes_down schema above (name ∷ next ∷ later) =
    is_container (node_at schema (above ++ name ∷ [])) && goes_down schema (above ++ name ∷ []) (next ∷ later)

abbrev pub plain_step : List ℕ → PathStep
plain_step name = record { node = name; keys = [] }

abbrev pub plain_steps : List (List ℕ) → List PathStep
plain_steps names = map plain_step names

-- the path at which the node of these names stands below a place, where it is reached from there through containers
abbrev pub reached : SchemaTable → List PathStep → List (List ℕ) → Option (List PathStep)
reached schema place names = option_and_then
    (λ later. if goes_down schema (path_names place) later then Some (place ++ plain_steps later) else None)
    (behind place names)

-- Leafrefs ------------------------------------------------------------------------------------------------------------

-- the first n steps of two paths are the same
abbrev pub shares : ℕ → List PathStep → List PathStep → Bool
shares n path other = pointwise step_eq (take n path) (take n other)

abbrev pub is_value_of : List (List ℕ) → List ℕ → NamedText → Bool
is_value_of names text held = same_names held.names names && same_text held.text text

-- a row holds the text as a value of the target, and stands under the same entries as the path
abbrev pub row_has : SchemaTable → Target → List ℕ → List PathStep → (List PathStep × Item) → Bool
row_has schema target text path row =
    shares target.shared row.0 path && list_any (is_value_of target.names text) (values_of schema row)

-- the default of a leaf; that of a key doesn't count
abbrev pub default_in : Node → Option (List ℕ)
default_in (Leaf leaf) = if is_none leaf.key then leaf.default else None
default_in _ = None

abbrev pub has_default : SchemaTable → List (List ℕ) → List ℕ → Bool
has_default schema names text = option_map_or (same_text text) (option_and_then default_in (node_at schema names)) false

-- the target is missing below a place, under the same entries as the path
abbrev pub place_lacks : SchemaTable → Config → Target → List PathStep → List PathStep → Bool
place_lacks schema config target path place =
    option_map_or (λ own. is_none (get config own) && shares target.shared own path)
    (reached schema place target.names) false

-- Seen from a path, the target has an instance with the text: a value that is present, or the default of a leaf that is
-- missing.
abbrev pub has_instance : SchemaTable → Config → Target → List ℕ → List PathStep → Bool
has_instance schema config target text path = list_any (row_has schema target text path) (entries config)
    || (has_default schema target.names text && list_any (place_lacks schema config target path) (places schema config))

abbrev pub target_in : Node → Option Target
target_in (Leaf leaf) = leaf.target
target_in (LeafList leaf_list) = leaf_list.target
target_in _ = None

-- a value leads to a target that has no instance with its text
abbrev pub lacks_instance : SchemaTable → Config → List PathStep → NamedText → Bool
lacks_instance schema config path held =
    option_map_or (λ target. not (has_instance schema config target held.text path))
    (option_and_then target_in (node_at schema held.names)) false

-- What is broken ------------------------------------------------------------------------------------------------------

-- the item is one of the schema, and a leaf's text is a canonical one of its type
abbrev pub is_of_kind : SchemaTable → (List PathStep × Item) → Bool
is_of_kind schema row = is_in_schema schema row.0 row.1 && is_canonical_value (kind_at_path schema row.0) row.1

-- the keys of the last step are canonical texts of their types
abbrev pub has_canonical_last_keys : SchemaTable → List PathStep → Bool
has_canonical_last_keys schema path = are_canonical_keys (kinds_at schema (path_names path)) (last_keys path)

-- what a row breaks
abbrev pub row_breaches : SchemaTable → Config → (List PathStep × Item) → List Breach
row_breaches schema config row = breach_if (not (is_of_kind schema row)) row.0 KIND
    ++ (breach_if (not (has_canonical_last_keys schema row.0)) row.0 KEY
    ++ breach_if (list_any (lacks_instance schema config row.0) (values_of schema row)) row.0 LEAFREF)

-- how many entries a list or a leaf-list has, whatever their keys
abbrev pub entry_count : Config → List PathStep → ℕ
entry_count config list = length (filter (is_entry_of list) (keys config))

abbrev pub count_breaches : Config → List PathStep → ℕ → Option ℕ → List Breach
count_breaches config list least most = breach_if (nat_lt (entry_count config list) least) list MIN_ELEMENTS
    ++ breach_if (option_map_or (λ largest. nat_lt largest (entry_count config list)) most false) list MAX_ELEMENTS

-- a mandatory leaf, that is no key, is missing
abbrev pub is_missing : Config → List PathStep → LeafNode → Bool
is_missing config path leaf = is_none leaf.key && (leaf.mandatory && is_none (get config path))

-- what is broken at the path of a node that is reached from a place
abbrev pub node_breaches : Config → Node → List PathStep → List Breach
node_breaches config Container path = []
node_breaches config (ListOf list) path = count_breaches config path list.least list.most
node_breaches config (Leaf leaf) path = breach_if (is_missing config path leaf) path MANDATORY
node_breaches config (LeafList leaf_list) path = count_breaches config path leaf_list.least leaf_list.most

abbrev pub line_breaches : SchemaTable → Config → List PathStep → SchemaLine → List Breach
line_breaches schema config place line =
    option_map_or (node_breaches config line.node) (reached schema place line.names) []

-- what is broken by what is missing or too many at a place
abbrev pub place_breaches : SchemaTable → Config → List PathStep → List Breach
place_breaches schema config place = flat_map (line_breaches schema config place) schema.lines

abbrev pub breaches : SchemaTable → Config → List Breach
breaches schema config = flat_map (row_breaches schema config) (entries config)
    ++ flat_map (place_breaches schema config) (places schema config)

-- The first of two breaches
abbrev pub lesser_breach : Option Breach → Breach → Option Breach
lesser_breach None breach = Some breach
lesser_breach (Some least) breach = if is_lt (breach_cmp breach least) then Some breach else Some least

abbrev pub least_breach : List Breach → Option Breach
least_breach all = fold lesser_breach None all

-- The least breach of a configuration under a schema, if there is one. Under a plain schema there is none.
abbrev pub broken_of : SchemaTable → Config → Option Breach
broken_of schema config = if schema.plain then None else least_breach (breaches schema config)
