-- Schemas, and what a schema has at a path.
use Rattle.std.specs.Prelude.{ℕ, Bool, true, List, [], ◌∷◌, ◌++◌, map, Option, Some, None, option_map, option_and_then}
use Rattle.std.specs.List.{find}
use Rattle.std.specs.List.Sorted.{IsStrictlySortedBy}
use Rattle.std.specs.Option.{option_map_or}
use Rattle.orc_path.specs.Steps.{PathStep}
use Rattle.orc_path.specs.declared.shape.Shape.{Shape}
use Rattle.orc_path.specs.declared.shape.Shape.TheVariants as shape
use Rattle.orc_value.specs.declared.kind.Kind.{Kind}
use Rattle.orc_schema_nodes.specs.declared.line.SchemaLine.{SchemaLine}
use Rattle.orc_schema_nodes.specs.declared.line.Node.{Node}
use Rattle.orc_schema_nodes.specs.declared.line.Node.TheVariants.{Container, List as ListOf, Leaf, LeafList}
use Rattle.orc_schema_nodes.specs.Names.{names_cmp, same_names}

-- What may stand in a configuration: one line for each node. A plain schema has no line, and each configuration is
-- valid for it.
pub record SchemaTable : Type 0 where
  pub plain : Bool
  pub lines : List SchemaLine

abbrev pub plain_table : SchemaTable
plain_table = record { plain = true; lines = [] }

-- each line's names are less than those of the lines after it
abbrev pub Ascends : List SchemaLine → Type 0
Ascends lines = IsStrictlySortedBy names_cmp (map (λ line. line.names) lines)

-- the names of a path, whatever its keys
abbrev pub path_names : List PathStep → List (List ℕ)
path_names steps = map (λ step. step.node) steps

abbrev pub is_line_at : List (List ℕ) → SchemaLine → Bool
is_line_at names line = same_names line.names names

-- the node of these names
abbrev pub node_in_lines : List SchemaLine → List (List ℕ) → Option Node
node_in_lines lines names = option_map (λ line. line.node) (find (is_line_at names) lines)

abbrev pub node_at : SchemaTable → List (List ℕ) → Option Node
node_at schema names = node_in_lines schema.lines names

abbrev pub shape_of : Node → Shape
shape_of Container = shape.Container
shape_of (ListOf list) = shape.List list.keys
shape_of (LeafList leaf_list) = shape.LeafList
shape_of (Leaf leaf) = option_map_or shape.Key leaf.key (shape.Leaf leaf.default)

-- the shape at a name below a path
abbrev pub shape_at : SchemaTable → List PathStep → List ℕ → Shape
shape_at schema parent name = option_map_or shape_of (node_at schema (path_names parent ++ name ∷ [])) shape.Absent

abbrev pub kind_in : Node → Option Kind
kind_in (Leaf leaf) = Some leaf.kind
kind_in (LeafList leaf_list) = Some leaf_list.kind
kind_in _ = None

-- the kind of the values at a path, where a leafref has its target's
abbrev pub kind_at_path : SchemaTable → List PathStep → Option Kind
kind_at_path schema path = option_and_then kind_in (node_at schema (path_names path))
