-- What a schema lets stand at a path, and the canonical form of what stands there.
use Rattle.std.specs.Prelude.{ℕ, Bool, true, false, ◌&&◌, ◌||◌, nat_eq, List, [], ◌∷◌, ◌++◌, length, map, Option, Some, None, is_some, is_none, option_map, option_and_then, if◌then◌else◌}
use Rattle.std.specs.Option.{option_map_or}
use Rattle.std.specs.Result.{result_ok}
use Rattle.orc_path.specs.Steps.{PathStep}
use Rattle.orc_path.specs.declared.item.Item.{Item}
use Rattle.orc_path.specs.declared.item.Item.TheVariants as item
use Rattle.orc_value.specs.Canon.{canon_of, is_canonical}
use Rattle.orc_value.specs.declared.kind.Kind.{Kind}
use Rattle.orc_schema_nodes.specs.Schemas.{SchemaTable, path_names, node_at, kind_in, kind_at_path}
use Rattle.orc_schema_nodes.specs.declared.line.Node.{Node}
use Rattle.orc_schema_nodes.specs.declared.line.Node.TheVariants.{Container, List as ListOf, Leaf, LeafList}

-- What stands in a schema ---------------------------------------------------------------------------------------------

-- the kind of the values of the leaf or leaf-list of these names
abbrev pub kind_of_names : SchemaTable → List (List ℕ) → Option Kind
kind_of_names s names = option_and_then kind_in (node_at s names)

-- The kinds of the keys that a step at a node has: in an entry of a list those of the leaves that the list names as
-- its keys, and in one of a leaf-list that of its values.
abbrev pub step_kinds : SchemaTable → List (List ℕ) → Node → List (Option Kind)
step_kinds s names Container = []
step_kinds s names (ListOf l) = map (λ key. kind_of_names s (names ++ key ∷ [])) l.keys
step_kinds s names (Leaf l) = []
step_kinds s names (LeafList l) = Some l.kind ∷ []

-- the kinds of the keys of a step at these names
abbrev pub kinds_at : SchemaTable → List (List ℕ) → List (Option Kind)
kinds_at s names = option_map_or (step_kinds s names) (node_at s names) []

-- a step at these names has a node in the schema, and as many keys as that node's steps have
abbrev pub stands_at : SchemaTable → List (List ℕ) → PathStep → Bool
stands_at s names step = is_some (node_at s names) && nat_eq (length step.keys) (length (kinds_at s names))

-- what a test says of each step with the names down to it, of steps below these names
abbrev pub each_step : (List (List ℕ) → PathStep → Bool) → List (List ℕ) → List PathStep → Bool
each_step test above [] = true
each_step test above (step ∷ later) =
    test (above ++ step.node ∷ []) step && each_step test (above ++ step.node ∷ []) later

-- each of the steps below these names stands
abbrev pub stand : SchemaTable → List (List ℕ) → List PathStep → Bool
stand s above steps = each_step (stands_at s) above steps

-- A list and a leaf-list carry entries, and a leaf that is no key carries a text.
abbrev pub carries : Node → Item → Bool
carries (ListOf l) item.Entry = true
carries (LeafList l) item.Entry = true
carries (Leaf l) (item.Leaf text) = is_none l.key
carries _ _ = false

-- the node at the end of a path carries the item; the root carries nothing
abbrev pub is_carried : SchemaTable → List PathStep → Item → Bool
is_carried s [] it = false
is_carried s (first ∷ later) it = option_map_or (λ node. carries node it) (node_at s (path_names (first ∷ later))) false

-- An item at a path is one of the schema, whatever its texts: each step stands there with its keys, and the last one
-- carries the item. In a plain schema everything is.
abbrev pub is_in_schema : SchemaTable → List PathStep → Item → Bool
is_in_schema s path it = s.plain || (stand s [] path && is_carried s path it)

-- an entry, or a leaf's text, is one of the schema at a path
abbrev pub has_place_in_schema : SchemaTable → List PathStep → Bool
has_place_in_schema s path = is_in_schema s path item.Entry || is_in_schema s path (item.Leaf [])

-- Canonical form ------------------------------------------------------------------------------------------------------

-- the canonical text of a kind, where the text is of that kind
abbrev pub canonical_text : Option Kind → List ℕ → Option (List ℕ)
canonical_text kind text = option_and_then (λ known. result_ok (canon_of known text)) kind

-- keys, each in the canonical text of its kind
abbrev pub canonical_keys : List (Option Kind) → List (List ℕ) → Option (List (List ℕ))
canonical_keys kinds [] = Some []
canonical_keys [] (key ∷ later) = None
canonical_keys (kind ∷ kinds) (key ∷ later) =
    option_and_then (λ text. option_map (λ texts. text ∷ texts) (canonical_keys kinds later)) (canonical_text kind key)

abbrev pub canonical_step : SchemaTable → List (List ℕ) → PathStep → Option PathStep
canonical_step s names step =
    option_map (λ keys. record { node = step.node; keys = keys }) (canonical_keys (kinds_at s names) step.keys)

-- the steps below these names
abbrev pub canonical_steps : SchemaTable → List (List ℕ) → List PathStep → Option (List PathStep)
canonical_steps s above [] = Some []
canonical_steps s above (step ∷ later) = option_and_then
    (λ first. option_map (λ rest. first ∷ rest) (canonical_steps s (above ++ step.node ∷ []) later))
    (canonical_step s (above ++ step.node ∷ []) step)

-- The path with its keys in canonical form; none where a key isn't of its kind. In a plain schema it is the path.
abbrev pub canonical_path : SchemaTable → List PathStep → Option (List PathStep)
canonical_path s path = if s.plain then Some path else canonical_steps s [] path

abbrev pub canonical_value : Option Kind → Item → Option Item
canonical_value kind item.Entry = Some item.Entry
canonical_value kind (item.Leaf text) = option_map item.Leaf (canonical_text kind text)

-- The item with its text in canonical form; none where the text isn't of the kind at the path. In a plain schema it is
-- the item.
abbrev pub canonical_item : SchemaTable → List PathStep → Item → Option Item
canonical_item s path it = if s.plain then Some it else canonical_value (kind_at_path s path) it

-- What may stand in a configuration -----------------------------------------------------------------------------------

-- the text is of the kind, and canonical
abbrev pub is_canonical_text : Option Kind → List ℕ → Bool
is_canonical_text kind text = option_map_or (λ known. is_canonical known text) kind false

-- each key is of its kind, and canonical
abbrev pub are_canonical_keys : List (Option Kind) → List (List ℕ) → Bool
are_canonical_keys kinds [] = true
are_canonical_keys [] (key ∷ later) = false
are_canonical_keys (kind ∷ kinds) (key ∷ later) = is_canonical_text kind key && are_canonical_keys kinds later

abbrev pub has_canonical_keys : SchemaTable → List (List ℕ) → PathStep → Bool
has_canonical_keys s names step = are_canonical_keys (kinds_at s names) step.keys

-- each key of the steps below these names is
abbrev pub are_canonical_steps : SchemaTable → List (List ℕ) → List PathStep → Bool
are_canonical_steps s above steps = each_step (has_canonical_keys s) above steps

abbrev pub is_canonical_value : Option Kind → Item → Bool
is_canonical_value kind item.Entry = true
is_canonical_value kind (item.Leaf text) = is_canonical_text kind text

-- An item may stand at a path of a configuration under the schema: it is one of the schema, and each key and the text
-- are of their kinds and canonical. Under a plain schema everything may.
abbrev pub is_typed : SchemaTable → List PathStep → Item → Bool
is_typed s path it =
    s.plain
    || (is_in_schema s path it && (are_canonical_steps s [] path && is_canonical_value (kind_at_path s path) it))

-- Something may stand at a path of a configuration under the schema: an entry or a leaf, whatever its text, where each
-- key is of its kind and canonical. Under a plain schema something may stand at each path.
abbrev pub has_place : SchemaTable → List PathStep → Bool
has_place s path = s.plain || (has_place_in_schema s path && are_canonical_steps s [] path)
