-- What every schema of modules makes sure of: what a node is called, which nodes stand in which, and which leaves are
-- keys (RFC 7950 sections 4.2.2, 6.2 and 7.8.2).
use Rattle.std.specs.Prelude.{◌≡◌, ◌≢◌, ℕ, Bool, false, true, IsTrue, ◌&&◌, List, [], ◌∷◌, ◌++◌, Option, Some, is_some}
use Rattle.std.specs.List.{list_all, Contains, IsDistinct}
use Rattle.orc_path.specs.Alphabet.{is_identifier, is_qualified}
use Rattle.orc_value.specs.Canon.{same_text}
use Rattle.orc_schema_nodes.specs.declared.line.ListNode.{ListNode}
use Rattle.orc_schema_nodes.specs.declared.line.Node.{Node}
use Rattle.orc_schema_nodes.specs.declared.line.Node.TheVariants.{Container, List as ListOf, Leaf}
use Rattle.orc_schema_nodes.specs.Schemas.{SchemaTable, node_at}

-- the names down to a node: the first is an identifier after its module's name, and the later ones are identifiers
abbrev pub are_node_names : List (List ℕ) → Bool
are_node_names [] = false
are_node_names (first ∷ later) = is_qualified first && list_all is_identifier later

-- a container or a list
abbrev pub holds_nodes : Option Node → Bool
holds_nodes (Some Container) = true
holds_nodes (Some (ListOf list)) = true
holds_nodes _ = false

-- a leaf that is a key
abbrev pub is_list_key : Option Node → Bool
is_list_key (Some (Leaf leaf)) = is_some leaf.key
is_list_key _ = false

-- The list of these names has a key, its keys differ, and each is a leaf that stands in the list and is a key.
pub record HasItsKeys (schema : SchemaTable) (names : List (List ℕ)) (list : ListNode) : Type 0 where
  pub any : list.keys ≢ []
  pub differ : IsDistinct same_text list.keys
  pub leaves : (key : List ℕ) → Contains list.keys key → IsTrue (is_list_key (node_at schema (names ++ key ∷ [])))

-- the node of these names is a list that has a key of this name
pub record IsKeyedBy (schema : SchemaTable) (names : List (List ℕ)) (name : List ℕ) : Type 0 where
  pub keyed : ListNode
  pub here : node_at schema names ≡ Some (ListOf keyed)
  pub key : Contains keyed.keys name

-- Nodes have names that a path can have; what stands below another node stands in a container or a list; a list has
-- its keys, and no other leaf is a key.
pub record IsSound (schema : SchemaTable) : Type 0 where
  pub named : (names : List (List ℕ)) (node : Node) → node_at schema names ≡ Some node → IsTrue (are_node_names names)
  pub parents : (names : List (List ℕ)) (name : List ℕ) (node : Node) → names ≢ []
      → node_at schema (names ++ name ∷ []) ≡ Some node → IsTrue (holds_nodes (node_at schema names))
  pub keys : (names : List (List ℕ)) (list : ListNode) → node_at schema names ≡ Some (ListOf list)
      → HasItsKeys schema names list
  pub no_other_key : (names : List (List ℕ)) (name : List ℕ)
      → IsTrue (is_list_key (node_at schema (names ++ name ∷ []))) → IsKeyedBy schema names name
