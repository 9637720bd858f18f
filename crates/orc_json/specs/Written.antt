-- The one JSON value of a configuration, by cases: RFC 7951 sections 4 to 6.
use Rattle.std.specs.Prelude.{ℕ, ◌≡◌, ◌≢◌, Bool, true, false, List, [], ◌∷◌, ◌++◌, Option, Some, None, Ok, IsTrue, ◌&&◌, nat_le, length}
use Rattle.std.specs.FinMap.{entries}
use Rattle.std.specs.List.{list_all, IsDistinct}
use Rattle.std.specs.Option.{option_map_or}
use Rattle.std.specs.Ordering.{is_lt}
use Rattle.serde_json.specs.Data.{Data, array, object, Items, no_items, item, Members, no_members, member, put}
use Rattle.serde_json.specs.Written.{compact_text}
use Rattle.orc_path.specs.Configurations.{Config}
use Rattle.orc_path.specs.Order.{text_cmp}
use Rattle.orc_path.specs.Steps.{PathStep, is_name_behind}
use Rattle.orc_path.specs.declared.item.Item.{Item}
use Rattle.orc_path.specs.declared.limits.TheConstants.{PATH_STEPS}
use Rattle.orc_path.specs.declared.item.Item.TheVariants.{Entry, Leaf}
use Rattle.orc_value.specs.Canon.{canon_of, is_canonical, same_text}
use Rattle.orc_value.specs.Json.{json_of}
use Rattle.orc_value.specs.declared.kind.Kind.{Kind}
use Rattle.orc_schema_nodes.specs.Schemas.{SchemaTable, path_names}
use Rattle.orc_schema_nodes.specs.declared.line.Node.{Node}
use Rattle.orc_schema_nodes.specs.declared.line.Node.TheVariants as node
use Rattle.orc_schema_nodes.specs.declared.line.ListNode.{ListNode}
use Rattle.orc_schema_nodes.specs.declared.line.LeafNode.{LeafNode}
use Rattle.orc_schema_nodes.specs.declared.line.ValueListNode.{ValueListNode}
use Rattle.orc_json.specs.Findings.{below, node_below, key_kind, is_key_name}

abbrev pub Rows : Type 0
Rows = List (List PathStep × Item)

-- The values of a leaf-list: section 5.3. Each is the JSON of its canonical text.
pub data AreValues (kind : Kind) (at : List PathStep) (name : List ℕ) : Rows → Items → Type 0 where
  no_value : AreValues kind at name [] no_items
  value : (text : List ℕ) (later : Rows) (items : Items)
      → canon_of kind text ≡ Ok text → AreValues kind at name later items
      → AreValues kind at name ((below at name (text ∷ []), Entry) ∷ later) (item (json_of kind text) items)

-- a member's name is less than that of the next one
abbrev pub is_before : List ℕ → Members → Bool
is_before name no_members = true
is_before name (member other json later) = is_lt (text_cmp name other)

-- Keys of an entry: section 5.4. Each is of its kind, and canonical.
abbrev pub are_keys : SchemaTable → List (List ℕ) → List (List ℕ) → List (List ℕ) → Bool
are_keys schema names [] [] = true
are_keys schema names (key ∷ keys) (text ∷ texts) =
    option_map_or (λ kind. is_canonical kind text) (key_kind schema names key) false && are_keys schema names keys texts
are_keys schema names [] (text ∷ texts) = false
are_keys schema names (key ∷ keys) [] = false

abbrev pub with_key_member : Option Kind → List ℕ → List ℕ → Members → Members
with_key_member None key text pairs = pairs
with_key_member (Some kind) key text pairs = put key (json_of kind text) pairs

-- members with those of the keys among them, in the order of their names
abbrev pub with_key_members : SchemaTable → List (List ℕ) → List (List ℕ) → List (List ℕ) → Members → Members
with_key_members schema names (key ∷ keys) (text ∷ texts) pairs =
    with_key_members schema names keys texts (with_key_member (key_kind schema names key) key text pairs)
with_key_members schema names [] texts pairs = pairs
with_key_members schema names (key ∷ keys) [] pairs = pairs

mutual
  -- The members of the object at a path, in the order of their names: one for each node below with an item at or below
  -- it. `keys` are the names of the keys that an entry of a list has; their members come besides.
  pub data AreMembers (schema : SchemaTable) : List (List ℕ) → List PathStep → Rows → Members → Type 0 where
    no_member : {keys : List (List ℕ)} {at : List PathStep} → AreMembers schema keys at [] no_members
    child : {keys : List (List ℕ)} {at : List PathStep} (name : List ℕ) (json : Data) (rows later : Rows)
        (pairs : Members)
        → is_key_name keys name ≡ false → IsTrue (is_name_behind at name)
        → IsNode schema at name (node_below schema at name) rows json
        → IsTrue (is_before name pairs) → AreMembers schema keys at later pairs
        → AreMembers schema keys at (rows ++ later) (member name json pairs)

  -- The JSON of the items at and below a node. A list has one key at least, and no key twice: RFC 7950 section 7.8.2.
  pub data IsNode (schema : SchemaTable) : List PathStep → List ℕ → Option Node → Rows → Data → Type 0 where
    container : {at : List PathStep} {name : List ℕ} (rows : Rows) (pairs : Members)
        → rows ≢ [] → AreMembers schema [] (below at name []) rows pairs
        → IsNode schema at name (Some node.Container) rows (object pairs)
    list : {at : List PathStep} {name : List ℕ} (list_node : ListNode) (rows : Rows) (items : Items)
        → list_node.keys ≢ [] → IsDistinct same_text list_node.keys → rows ≢ []
        → AreEntries schema list_node.keys at name rows items
        → IsNode schema at name (Some (node.List list_node)) rows (array items)
    leaf : {at : List PathStep} {name : List ℕ} (leaf_node : LeafNode) (text : List ℕ)
        → leaf_node.key ≡ None → canon_of leaf_node.kind text ≡ Ok text
        → IsNode schema at name (Some (node.Leaf leaf_node)) ((below at name [], Leaf text) ∷ [])
        (json_of leaf_node.kind text)
    leaf_list : {at : List PathStep} {name : List ℕ} (leaf_list_node : ValueListNode) (rows : Rows) (items : Items)
        → rows ≢ [] → AreValues leaf_list_node.kind at name rows items
        → IsNode schema at name (Some (node.LeafList leaf_list_node)) rows (array items)

  -- the entries of a list: each is an object with all its keys, and stands where they say
  pub data AreEntries (schema : SchemaTable) : List (List ℕ) → List PathStep → List ℕ → Rows → Items → Type 0 where
    no_entry : {keys : List (List ℕ)} {at : List PathStep} {name : List ℕ} → AreEntries schema keys at name [] no_items
    entry : {keys : List (List ℕ)} {at : List PathStep} {name : List ℕ} (texts : List (List ℕ)) (inside later : Rows)
        (pairs : Members) (items : Items)
        → IsTrue (are_keys schema (path_names at ++ name ∷ []) keys texts)
        → AreMembers schema keys (below at name texts) inside pairs → AreEntries schema keys at name later items
        → AreEntries schema keys at name (((below at name texts, Entry) ∷ inside) ++ later)
        (item (object (with_key_members schema (path_names at ++ name ∷ []) keys texts pairs)) items)

-- The configuration has a JSON value: each item has its place under the schema, and each text is canonical.
abbrev pub HasJson : SchemaTable → Config → Type 0
HasJson schema config = (pairs : Members) × AreMembers schema [] [] (entries config) pairs

-- The bytes are the JSON text of the configuration, without white space, where it has a JSON value.
abbrev pub IsJsonTextOf : SchemaTable → Config → List ℕ → Type 0
IsJsonTextOf schema config bytes = (pairs : Members) → AreMembers schema [] [] (entries config) pairs
    → bytes ≡ compact_text (object pairs)

-- no path has more steps than a path may have
abbrev pub has_short_paths : Config → Bool
has_short_paths config = list_all (λ row. nat_le (length row.0) PATH_STEPS) (entries config)
