-- What a block's `config` writes on one device.
use Rattle.std.specs.Prelude.{◌≡◌, ℕ, Bool, true, false, not, List, [], ◌∷◌, ◌++◌, Option, Result, is_some, if◌then◌else◌}
use Rattle.std.specs.declared.option.Option.TheVariants.{None, Some}
use Rattle.std.specs.declared.result.Result.TheVariants.{Ok, Err}
use Rattle.std.specs.FinMap.{get}
use Rattle.serde_json.specs.Data.{Data, null, boolean, number, string, array, object, Items, no_items, item, Members, no_members, member}
use Rattle.serde_json.specs.Find.{as_array}
use Rattle.orc_path.specs.Configurations.{Config, put_item}
use Rattle.orc_path.specs.Limits.{is_long_path}
use Rattle.orc_path.specs.Steps.{PathStep, is_name_behind}
use Rattle.orc_path.specs.declared.item.Item.{Item}
use Rattle.orc_path.specs.declared.item.Item.TheVariants.{Entry, Leaf}
use Rattle.orc_value.specs.Canon.{same_text}
use Rattle.orc_value.specs.declared.kind.Kind.{Kind}
use Rattle.orc_expr.specs.declared.read.Read.{Read}
use Rattle.orc_schema_nodes.specs.Schemas.{SchemaTable, path_names}
use Rattle.orc_schema_nodes.specs.declared.line.Node.{Node}
use Rattle.orc_schema_nodes.specs.declared.line.Node.TheVariants as node
use Rattle.orc_schema_nodes.specs.declared.line.LeafNode.{LeafNode}
use Rattle.orc_json.specs.Findings.{below, node_below, is_key_name}
use Rattle.orc_template.specs.Values.{Scene, Done, value_done, keys_done}
use Rattle.orc_template.specs.declared.fault.TheConstants.{BAD_LEAF, SELF_CLASH}
use Rattle.orc_template.specs.declared.fault.Halt.{Halt}
use Rattle.orc_template.specs.declared.fault.Halt.TheVariants.{Rule, Memory}
use Rattle.orc_template.specs.declared.writing.Writing.{Writing}

-- A writing has the items written so far on a device, and all that was read so far. It ends by a rule, with what was
-- read up to there.
pub record Ended : Type 0 where
  pub rule : ℕ
  pub reads : List Read

abbrev pub ends : {X : Type 0} → ℕ → List Read → Result X Ended
ends rule reads = Err (record { rule = rule; reads = reads })

-- one thing after another
abbrev pub go_on : {X Y : Type 0} → Result X Ended → (X → Result Y Ended) → Result Y Ended
go_on (Ok value) more = more value
go_on (Err ended) more = Err ended

-- what was done before
abbrev pub with_value : {X : Type 0} → Result X ℕ → List Read → Config → (X → Writing → Result Writing Ended)
    → Result Writing Ended
with_value (Ok value) reads tree more = more value (record { tree = tree; reads = record { reads = reads } })
with_value (Err rule) reads tree more = ends rule reads

abbrev pub with_done : {X : Type 0} → Done X → Config → (X → Writing → Result Writing Ended)
    → Result Writing Ended
with_done first tree more = with_value first.value first.reads tree more

-- an item stands there that differs
abbrev pub differs_from : Option Item → Item → Bool
differs_from None it = false
differs_from (Some Entry) Entry = false
differs_from (Some Entry) (Leaf text) = true
differs_from (Some (Leaf text)) Entry = true
differs_from (Some (Leaf text)) (Leaf other) = not (same_text text other)

-- An item is written, with the entries on its way. A path past a limit is a bad leaf, and an item that differs from the
-- one written there before is a clash.
abbrev pub write_at : List PathStep → Item → Writing → Result Writing Ended
write_at path it writing =
    if is_long_path path then ends BAD_LEAF writing.reads.reads else
    if differs_from (get writing.tree path) it then ends SELF_CLASH writing.reads.reads else
    Ok (record writing { tree = put_item writing.tree path it })

abbrev pub bad_leaf : Writing → Result Writing Ended
bad_leaf writing = ends BAD_LEAF writing.reads.reads

-- Leaves --------------------------------------------------------------------------------------------------------------

abbrev pub leaf_written : Scene → Kind → List PathStep → Data → Writing → Result Writing Ended
leaf_written scene kind path json writing =
    with_done (value_done scene kind json writing.reads.reads) writing.tree (λ text. write_at path (Leaf text))

-- a leaf that is a key belongs to an entry of its list, and stands nowhere else
abbrev pub leaf_done : Scene → LeafNode → List PathStep → Data → Writing → Result Writing Ended
leaf_done scene leaf path json writing =
    if is_some leaf.key then bad_leaf writing else leaf_written scene leaf.kind path json writing

-- a value of a leaf-list is an entry whose key is its text
abbrev pub entry_value_done : Scene → Kind → List PathStep → List ℕ → Data → Writing → Result Writing Ended
entry_value_done scene kind at name json writing =
    with_done (value_done scene kind json writing.reads.reads) writing.tree
    (λ text. write_at (below at name (text ∷ [])) Entry)

abbrev pub values_done : Scene → Kind → List PathStep → List ℕ → Items → Writing → Result Writing Ended
values_done scene kind at name no_items writing = Ok writing
values_done scene kind at name (item json items) writing =
    go_on (entry_value_done scene kind at name json writing) (values_done scene kind at name items)

abbrev pub leaf_list_done : Scene → Kind → List PathStep → List ℕ → Option Items → Writing → Result Writing Ended
leaf_list_done scene kind at name (Some items) writing = values_done scene kind at name items writing
leaf_list_done scene kind at name None writing = bad_leaf writing

-- Objects -------------------------------------------------------------------------------------------------------------

-- a node of the schema with its JSON: `inside` is what the JSON writes as an object, and `entries` what it writes as a
-- list of objects with these keys; a name that isn't in the schema is a bad leaf
abbrev pub node_done : Scene → List PathStep → List ℕ → Data → (Writing → Result Writing Ended)
    → (List (List ℕ) → Writing → Result Writing Ended) → Option Node → Writing → Result Writing Ended
node_done scene at name json inside entries None writing = bad_leaf writing
node_done scene at name json inside entries (Some node.Container) writing = inside writing
node_done scene at name json inside entries (Some (node.List list)) writing = entries list.keys writing
node_done scene at name json inside entries (Some (node.Leaf leaf)) writing =
    leaf_done scene leaf (below at name []) json writing
node_done scene at name json inside entries (Some (node.LeafList leaf_list)) writing =
    leaf_list_done scene leaf_list.kind at name (as_array json) writing

-- an entry of a list: its keys first, then the entry where they say, then its other members
abbrev pub entry_written : Scene → SchemaTable → List PathStep → List ℕ → List (List ℕ) → Data
    → (List PathStep → Writing → Result Writing Ended) → Writing → Result Writing Ended
entry_written scene schema at name keys json inside writing =
    with_done (keys_done scene schema (path_names at ++ name ∷ []) json keys writing.reads.reads) writing.tree
    (λ texts next. go_on (write_at (below at name texts) Entry next) (inside (below at name texts)))

-- a member; that of a key of its entry writes nothing more
abbrev pub member_done : Scene → SchemaTable → List (List ℕ) → List PathStep → List ℕ → Data
    → (Writing → Result Writing Ended) → (List (List ℕ) → Writing → Result Writing Ended) → Writing
    → Result Writing Ended
member_done scene schema keys at name json inside entries writing =
    if is_key_name keys name then Ok writing else
    if is_name_behind at name
    then node_done scene at name json inside entries (node_below schema at name) writing else bad_leaf writing

abbrev mutual
  -- The JSON object of the root, of a container or of an entry at a path. `keys` are the names of the keys that an
  -- entry of a list has in it, as its path says. Members are done in the order of the bytes of their names, in
  -- which a JSON object has them here.
  pub object_done : Scene → SchemaTable → List (List ℕ) → List PathStep → Data → Writing → Result Writing Ended
  object_done scene schema keys at null writing = bad_leaf writing
  object_done scene schema keys at (boolean truth) writing = bad_leaf writing
  object_done scene schema keys at (number amount) writing = bad_leaf writing
  object_done scene schema keys at (string text) writing = bad_leaf writing
  object_done scene schema keys at (array items) writing = bad_leaf writing
  object_done scene schema keys at (object pairs) writing = members_done scene schema keys at pairs writing

  pub members_done : Scene → SchemaTable → List (List ℕ) → List PathStep → Members → Writing → Result Writing Ended
  members_done scene schema keys at no_members writing = Ok writing
  members_done scene schema keys at (member name json pairs) writing = go_on
      (member_done scene schema keys at name json (object_done scene schema [] (below at name []) json)
      (λ names. list_done scene schema names at name json) writing)
      (members_done scene schema keys at pairs)

  -- the JSON array of a list whose keys have these names
  pub list_done : Scene → SchemaTable → List (List ℕ) → List PathStep → List ℕ → Data → Writing
      → Result Writing Ended
  list_done scene schema keys at name null writing = bad_leaf writing
  list_done scene schema keys at name (boolean truth) writing = bad_leaf writing
  list_done scene schema keys at name (number amount) writing = bad_leaf writing
  list_done scene schema keys at name (string text) writing = bad_leaf writing
  list_done scene schema keys at name (array items) writing = entries_done scene schema keys at name items writing
  list_done scene schema keys at name (object pairs) writing = bad_leaf writing

  pub entries_done : Scene → SchemaTable → List (List ℕ) → List PathStep → List ℕ → Items → Writing
      → Result Writing Ended
  entries_done scene schema keys at name no_items writing = Ok writing
  entries_done scene schema keys at name (item json items) writing =
      go_on (entry_done scene schema keys at name json writing) (entries_done scene schema keys at name items)

  -- an object among them
  pub entry_done : Scene → SchemaTable → List (List ℕ) → List PathStep → List ℕ → Data → Writing
      → Result Writing Ended
  entry_done scene schema keys at name null writing = bad_leaf writing
  entry_done scene schema keys at name (boolean truth) writing = bad_leaf writing
  entry_done scene schema keys at name (number amount) writing = bad_leaf writing
  entry_done scene schema keys at name (string text) writing = bad_leaf writing
  entry_done scene schema keys at name (array items) writing = bad_leaf writing
  entry_done scene schema keys at name (object pairs) writing =
      entry_written scene schema at name keys (object pairs)
      (λ entry. members_done scene schema keys entry pairs) writing

-- The answer is the writing afterwards, or the rule with what was read; nothing is said where memory runs out.
abbrev pub Writes : Result Writing Ended → Writing → Result Unit Halt → Type 0
Writes due new (Ok _) = due ≡ Ok new
Writes due new (Err (Rule rule)) = due ≡ ends rule new.reads.reads
Writes due new (Err Memory) = Unit {0}
