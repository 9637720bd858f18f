-- What the JSON of a configuration states, and which rules its members break: RFC 7951 sections 4 to 6.
use Rattle.std.specs.Prelude.{ℕ, Bool, List, [], ◌∷◌, ◌++◌, ◌==◌, Option, Some, None, Result, Ok, Err, option_map, option_and_then, is_some, if◌then◌else◌}
use Rattle.std.specs.List.{list_any}
use Rattle.std.specs.Result.{result_ok}
use Rattle.serde_json.specs.Data.{Data, null, boolean, number, string, array, object, Items, no_items, item, Members, no_members, member}
use Rattle.serde_json.specs.Find.{get, as_array}
use Rattle.orc_path.specs.Steps.{PathStep, is_name_behind}
use Rattle.orc_path.specs.declared.item.Item.{Item}
use Rattle.orc_path.specs.declared.item.Item.TheVariants.{Entry, Leaf}
use Rattle.orc_value.specs.Canon.{same_text}
use Rattle.orc_value.specs.Json.{canon_of_json}
use Rattle.orc_value.specs.declared.fault.TheConstants.{KIND as OTHER_KIND}
use Rattle.orc_value.specs.declared.kind.Kind.{Kind}
use Rattle.orc_schema_nodes.specs.Schemas.{SchemaTable, path_names, node_at, kind_in}
use Rattle.orc_schema_nodes.specs.declared.line.Node.{Node}
use Rattle.orc_schema_nodes.specs.declared.line.Node.TheVariants as node
use Rattle.orc_schema_nodes.specs.declared.line.LeafNode.{LeafNode}
use Rattle.orc_json.specs.declared.fault.TheConstants.{MEMBER, KIND, VALUE, KEY}

-- A member states that an item stands at a path, or breaks a rule there: MEMBER, KIND, VALUE or KEY.
pub data Finding : Type 0 where
  states : List PathStep → Item → Finding
  breaks : List PathStep → ℕ → Finding

-- the path of a name below another path, with keys or none
abbrev pub below : List PathStep → List ℕ → List (List ℕ) → List PathStep
below at name keys = at ++ record { node = name; keys = keys } ∷ []

-- the node of a name below a path
abbrev pub node_below : SchemaTable → List PathStep → List ℕ → Option Node
node_below schema at name = node_at schema (path_names at ++ name ∷ [])

-- Values: RFC 7951 section 6 ------------------------------------------------------------------------------------------

-- A JSON value of another kind than the type's breaks KIND, and one that is no value of the type breaks VALUE.
abbrev pub value_rule : ℕ → ℕ
value_rule rule = if rule == OTHER_KIND then KIND else VALUE

-- A leaf: section 5.1. Its value's canonical text stands at its path.
abbrev pub leaf_value : List PathStep → Result (List ℕ) ℕ → List Finding
leaf_value path (Ok text) = states path (Leaf text) ∷ []
leaf_value path (Err rule) = breaks path (value_rule rule) ∷ []

-- A value of a leaf-list: section 5.3. It is an entry whose key is the canonical text.
abbrev pub entry_value : List PathStep → List ℕ → Result (List ℕ) ℕ → List Finding
entry_value at name (Ok text) = states (below at name (text ∷ [])) Entry ∷ []
entry_value at name (Err rule) = breaks (below at name []) (value_rule rule) ∷ []

abbrev pub values : Kind → List PathStep → List ℕ → Items → List Finding
values kind at name no_items = []
values kind at name (item json later) = entry_value at name (canon_of_json kind json) ++ values kind at name later

-- an array of values
abbrev pub leaf_list : Kind → List PathStep → List ℕ → Option Items → List Finding
leaf_list kind at name (Some items) = values kind at name items
leaf_list kind at name None = breaks (below at name []) KIND ∷ []

-- Keys of an entry: section 5.4 ---------------------------------------------------------------------------------------

-- the kind of a key of the list of these names
abbrev pub key_kind : SchemaTable → List (List ℕ) → List ℕ → Option Kind
key_kind schema names key = option_and_then kind_in (node_at schema (names ++ key ∷ []))

-- the canonical text of one key of an entry, where the entry has a value of the key's type
abbrev pub entry_key : SchemaTable → List (List ℕ) → Data → List ℕ → Option (List ℕ)
entry_key schema names json key = option_and_then
    (λ kind. option_and_then (λ value. result_ok (canon_of_json kind value)) (get key json)) (key_kind schema names key)

abbrev pub key_texts : SchemaTable → List (List ℕ) → Data → List (List ℕ) → Option (List (List ℕ))
key_texts schema names json [] = Some []
key_texts schema names json (key ∷ later) = option_and_then
    (λ text. option_map (λ texts. text ∷ texts) (key_texts schema names json later)) (entry_key schema names json key)

-- all keys of an entry, of which there is one at least
abbrev pub entry_keys : SchemaTable → List (List ℕ) → Data → List (List ℕ) → Option (List (List ℕ))
entry_keys schema names json [] = None
entry_keys schema names json (key ∷ later) = key_texts schema names json (key ∷ later)

-- An entry of a list: it stands where its keys say, with what is inside. One without its keys breaks KEY at the list.
abbrev pub entry_object : List PathStep → List ℕ → Option (List (List ℕ)) → (List PathStep → List Finding)
    → List Finding
entry_object at name (Some keys) inside = states (below at name keys) Entry ∷ inside (below at name keys)
entry_object at name None inside = breaks (below at name []) KEY ∷ []

-- Members: sections 4, 5.1 to 5.4 -------------------------------------------------------------------------------------

-- A leaf that is a key belongs to an entry of its list, and stands nowhere else.
abbrev pub leaf_found : LeafNode → List PathStep → Data → List Finding
leaf_found leaf path json =
    if is_some leaf.key then breaks path MEMBER ∷ [] else leaf_value path (canon_of_json leaf.kind json)

-- one of the names
abbrev pub is_key_name : List (List ℕ) → List ℕ → Bool
is_key_name names name = list_any (same_text name) names

-- A name that no path can have below this one breaks MEMBER at the object, and one that isn't in the schema at itself.
abbrev pub strange_name : List PathStep → List Finding
strange_name at = breaks at MEMBER ∷ []

-- A node with its JSON: `inside` is what the JSON gives as an object, and `entries` what it gives as a list of objects
-- with these keys.
abbrev pub node_found : List PathStep → List ℕ → Data → List Finding → (List (List ℕ) → List Finding) → Option Node
    → List Finding
node_found at name json inside entries None = breaks (below at name []) MEMBER ∷ []
node_found at name json inside entries (Some node.Container) = inside
node_found at name json inside entries (Some (node.List list)) = entries list.keys
node_found at name json inside entries (Some (node.Leaf leaf)) = leaf_found leaf (below at name []) json
node_found at name json inside entries (Some (node.LeafList leaf_list_node)) =
    leaf_list leaf_list_node.kind at name (as_array json)

-- A member. That of a key states nothing more.
abbrev pub member_found : SchemaTable → List (List ℕ) → List PathStep → List ℕ → Data → List Finding
    → (List (List ℕ) → List Finding) → List Finding
member_found schema keys at name json inside entries = if is_key_name keys name then [] else
    if is_name_behind at name then node_found at name json inside entries (node_below schema at name)
    else strange_name at

abbrev mutual
  -- The JSON object of the root, of a container or of an entry at a path. `keys` are the names of the keys that an
  -- entry of a list has in it, which its path holds already; no others have any.
  pub object_at : SchemaTable → List (List ℕ) → List PathStep → Data → List Finding
  object_at schema keys at null = breaks at KIND ∷ []
  object_at schema keys at (boolean truth) = breaks at KIND ∷ []
  object_at schema keys at (number amount) = breaks at KIND ∷ []
  object_at schema keys at (string text) = breaks at KIND ∷ []
  object_at schema keys at (array items) = breaks at KIND ∷ []
  object_at schema keys at (object pairs) = members_at schema keys at pairs

  pub members_at : SchemaTable → List (List ℕ) → List PathStep → Members → List Finding
  members_at schema keys at no_members = []
  members_at schema keys at (member name json later) =
      member_found schema keys at name json (object_at schema [] (below at name []) json)
      (λ names. list_at schema names at name json)
      ++ members_at schema keys at later

  -- the JSON array of a list whose keys have these names
  pub list_at : SchemaTable → List (List ℕ) → List PathStep → List ℕ → Data → List Finding
  list_at schema keys at name null = breaks (below at name []) KIND ∷ []
  list_at schema keys at name (boolean truth) = breaks (below at name []) KIND ∷ []
  list_at schema keys at name (number amount) = breaks (below at name []) KIND ∷ []
  list_at schema keys at name (string text) = breaks (below at name []) KIND ∷ []
  list_at schema keys at name (array items) = entries_at schema keys at name items
  list_at schema keys at name (object pairs) = breaks (below at name []) KIND ∷ []

  pub entries_at : SchemaTable → List (List ℕ) → List PathStep → List ℕ → Items → List Finding
  entries_at schema keys at name no_items = []
  entries_at schema keys at name (item json later) =
      entry_at schema keys at name json ++ entries_at schema keys at name later

  -- an object among them
  pub entry_at : SchemaTable → List (List ℕ) → List PathStep → List ℕ → Data → List Finding
  entry_at schema keys at name null = breaks (below at name []) KIND ∷ []
  entry_at schema keys at name (boolean truth) = breaks (below at name []) KIND ∷ []
  entry_at schema keys at name (number amount) = breaks (below at name []) KIND ∷ []
  entry_at schema keys at name (string text) = breaks (below at name []) KIND ∷ []
  entry_at schema keys at name (array items) = breaks (below at name []) KIND ∷ []
  entry_at schema keys at name (object pairs) = entry_object at name
      (entry_keys schema (path_names at ++ name ∷ []) (object pairs) keys)
      (λ entry. members_at schema keys entry pairs)

-- a node, and a member, with its JSON
abbrev pub node_of_name : SchemaTable → List PathStep → List ℕ → Data → List Finding
node_of_name schema at name json =
    node_found at name json (object_at schema [] (below at name []) json) (λ names. list_at schema names at name json)
    (node_below schema at name)

abbrev pub member_at : SchemaTable → List (List ℕ) → List PathStep → List ℕ → Data → List Finding
member_at schema keys at name json =
    member_found schema keys at name json (object_at schema [] (below at name []) json)
    (λ names. list_at schema names at name json)
