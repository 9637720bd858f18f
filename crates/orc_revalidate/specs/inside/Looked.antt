-- What of a configuration is looked at after a change of a valid one.
use Rattle.std.specs.Prelude.{ℕ, zero, suc, Bool, false, ◌&&◌, ◌||◌, nat_lt, List, [], ◌++◌, length, take, Option, is_none, is_some, if◌then◌else◌}
use Rattle.std.specs.List.{find, flat_map}
use Rattle.std.specs.Option.{option_map_or}
use Rattle.std.specs.FinMap.{get}
use Rattle.orc_path.specs.Steps.{PathStep}
use Rattle.orc_path.specs.Configurations.{Config}
use Rattle.orc_path.specs.declared.item.Item.{Item}
use Rattle.orc_schema_nodes.specs.Schemas.{SchemaTable, path_names, is_line_at}
use Rattle.orc_schema_nodes.specs.declared.line.Node.{Node}
use Rattle.orc_schema_nodes.specs.declared.line.Node.TheVariants.{Container, List as ListOf, Leaf, LeafList}
use Rattle.orc_schema_nodes.specs.declared.line.SchemaLine.{SchemaLine}
use Rattle.orc_change.specs.Differences.{has_item}
use Rattle.orc_check.specs.Validity.{Breach, is_place, row_breaches, line_breaches, place_breaches}
use Rattle.orc_expr.specs.declared.read.Target.{Target}
use Rattle.orc_revalidate.specs.inside.Inside.{rows_inside}

-- a configuration has the row
abbrev pub has_row : Config → (List PathStep × Item) → Bool
has_row c row = has_item (get c row.0) row.1

-- an entry of a list of the schema stands at the path
abbrev pub stands : SchemaTable → Config → List PathStep → Bool
stands s c path = option_map_or (λ item. is_place s (path, item)) (get c path) false

-- the node of the path's names
abbrev pub line_at : SchemaTable → List PathStep → Option SchemaLine
line_at s path = find (is_line_at (path_names path)) s.lines

-- a number of entries has a bound
abbrev pub has_bound : ℕ → Option ℕ → Bool
has_bound least most = nat_lt 0 least || is_some most

-- A node at which something can be missing, or too many: a mandatory leaf that is no key, or a list or a leaf-list
-- whose number of entries has a bound.
abbrev pub can_lack : Node → Bool
can_lack Container = false
can_lack (ListOf l) = has_bound l.least l.most
can_lack (Leaf l) = is_none l.key && l.mandatory
can_lack (LeafList l) = has_bound l.least l.most

-- what is broken at a node below a place, where the place stands
abbrev pub standing_breaches : SchemaTable → Config → SchemaLine → List PathStep → List Breach
standing_breaches s c line place = if stands s c place then line_breaches s c place line else []

-- what is broken at a node below the root and below each entry that the path's first n steps, or fewer, are
abbrev pub front_breaches : SchemaTable → Config → SchemaLine → List PathStep → ℕ → List Breach
front_breaches s c line path zero = line_breaches s c [] line
front_breaches s c line path (suc n) = standing_breaches s c line (take (suc n) path) ++ front_breaches s c line path n

-- The node of a path, below the places on the path: a mandatory leaf that is missing there, or the number of the
-- entries of the list, where the path is that of an entry.
abbrev pub node_breaches_on : SchemaTable → Config → List PathStep → List Breach
node_breaches_on s c path = option_map_or (λ line. front_breaches s c line path (length path)) (line_at s path) []

-- what is missing, or too many, below a row that is a place
abbrev pub own_breaches : SchemaTable → Config → (List PathStep × Item) → List Breach
own_breaches s c row = if is_place s row then place_breaches s c row.0 else []

-- A row that came: what it breaks itself, what is broken below it where it is a place, and at its node.
abbrev pub came_breaches : SchemaTable → Config → Config → (List PathStep × Item) → List Breach
came_breaches s old new row = if has_row old row then []
    else row_breaches s new row ++ (own_breaches s new row ++ node_breaches_on s new row.0)

-- one that went: what is broken at its node
abbrev pub went_breaches : SchemaTable → Config → (List PathStep × Item) → List Breach
went_breaches s new row = if has_row new row then [] else node_breaches_on s new row.0

-- what is looked at inside a target
abbrev pub target_breaches : SchemaTable → Config → Config → Target → List Breach
target_breaches s old new target = flat_map (came_breaches s old new) (rows_inside new target)
    ++ flat_map (went_breaches s new) (rows_inside old target)

-- what is looked at after a change inside targets
abbrev pub change_breaches : SchemaTable → Config → Config → List Target → List Breach
change_breaches s old new targets = flat_map (target_breaches s old new) targets
