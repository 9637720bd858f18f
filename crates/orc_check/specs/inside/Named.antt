-- Leafrefs to a node whose one instance with a text can be named from the text.
use Rattle.std.specs.Prelude.{◌≡◌, ◌≤◌, ℕ, zero, suc, Bool, true, false, ◌&&◌, ◌||◌, List, [], ◌∷◌, ◌++◌, length, take, drop, Option, Some, is_some}
use Rattle.std.specs.Option.{option_map_or}
use Rattle.std.specs.List.{list_any}
use Rattle.std.specs.FinMap.{get}
use Rattle.std.specs.Cmp.Lexicographic.{pointwise}
use Rattle.orc_path.specs.Steps.{PathStep}
use Rattle.orc_path.specs.Configurations.{Config}
use Rattle.orc_value.specs.Canon.{same_text}
use Rattle.orc_schema_nodes.specs.Schemas.{SchemaTable, node_at}
use Rattle.orc_schema_nodes.specs.declared.line.Node.{Node}
use Rattle.orc_schema_nodes.specs.declared.line.Node.TheVariants.{List as ListOf, Leaf, LeafList}
use Rattle.orc_schema_nodes.specs.declared.line.Target.{Target}
use Rattle.orc_check.specs.Validity.{goes_down, plain_steps, is_place, row_has, has_default, place_lacks}

abbrev pub is_key_leaf : Option Node → Bool
is_key_leaf (Some (Leaf l)) = is_some l.key
is_key_leaf _ = false

-- the node is a list with this key alone
abbrev pub is_list_of : List ℕ → Option Node → Bool
is_list_of key (Some (ListOf l)) = pointwise same_text l.keys (key ∷ [])
is_list_of key _ = false

-- The target is the one key of a list, which stands below the entries that the target shares, with containers alone
-- between.
pub record IsOwnKey (s : SchemaTable) (target : Target) (before : List (List ℕ)) (list key : List ℕ) : Type 0 where
  pub typed : s.plain ≡ false
  pub names : target.names ≡ (before ++ list ∷ []) ++ key ∷ []
  pub leaf : is_key_leaf (node_at s target.names) ≡ true
  pub node : is_list_of key (node_at s (before ++ list ∷ [])) ≡ true
  pub shared : target.shared ≤ length before
  pub down : goes_down s (take target.shared (before ++ list ∷ [])) (drop target.shared (before ++ list ∷ [])) ≡ true

-- the path of the entry that has the text as its key, under the same entries as a path
abbrev pub named_path : Target → List (List ℕ) → List ℕ → List ℕ → List PathStep → List PathStep
named_path target before list text path =
    take target.shared path
    ++ (plain_steps (drop target.shared before) ++ record { node = list; keys = text ∷ [] } ∷ [])

-- the node is a leaf-list
abbrev pub is_leaf_list : Option Node → Bool
is_leaf_list (Some (LeafList l)) = true
is_leaf_list _ = false

-- the node is a list, and one of its keys has this name
abbrev pub has_key_named : List ℕ → Option Node → Bool
has_key_named name (Some (ListOf l)) = list_any (λ key. same_text key name) l.keys
has_key_named name _ = false

-- The target is no key, and stands below the entries that it shares with containers alone between.
pub record IsSingle (s : SchemaTable) (target : Target) (before : List (List ℕ)) (last : List ℕ) : Type 0 where
  pub typed : s.plain ≡ false
  pub names : target.names ≡ before ++ last ∷ []
  pub own : has_key_named last (node_at s before) ≡ false
  pub shared : target.shared ≤ length before
  pub down : goes_down s (take target.shared (before ++ last ∷ [])) (drop target.shared (before ++ last ∷ [])) ≡ true

-- the path of the target itself, under the same entries as a path
abbrev pub leaf_path : Target → List PathStep → List PathStep
leaf_path target path = take target.shared path ++ plain_steps (drop target.shared target.names)

-- an entry of a list of the schema stands at the path
abbrev pub is_present : SchemaTable → Config → List PathStep → Bool
is_present s c path = option_map_or (λ item. is_place s (path, item)) (get c path) false

-- the target is missing below the root, or below one of the entries that the first n steps of the path are
abbrev pub is_lacked_above : SchemaTable → Config → Target → List PathStep → ℕ → Bool
is_lacked_above s c target path zero = place_lacks s c target path []
is_lacked_above s c target path (suc n) =
    (is_present s c (take (suc n) path) && place_lacks s c target path (take (suc n) path))
    || is_lacked_above s c target path n

-- the leaf has the text, or lacks and has it as its default
abbrev pub has_at_leaf : SchemaTable → Config → Target → List ℕ → List PathStep → Bool
has_at_leaf s c target text path = option_map_or
    (λ item. row_has s target text path (leaf_path target path, item)) (get c (leaf_path target path))
    (has_default s target.names text && is_lacked_above s c target path target.shared)

-- the row at a path has the text as a value of the target, under the same entries as the other path
abbrev pub has_at : SchemaTable → Config → Target → List ℕ → List PathStep → List PathStep → Bool
has_at s c target text path own = option_map_or (λ item. row_has s target text path (own, item)) (get c own) false

-- that row has it, or the target is missing below this place and has it as its default
abbrev pub is_instance_at : SchemaTable → Config → Target → List ℕ → List PathStep → List PathStep → Bool
is_instance_at s c target text path own = has_at s c target text path own
    || (has_default s target.names text && (is_present s c own && place_lacks s c target path own))
