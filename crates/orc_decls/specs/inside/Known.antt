-- Items that a schema knows, whatever the text of a leaf.
use Rattle.std.specs.Prelude.{Bool, ◌&&◌, ◌||◌, List, []}
use Rattle.orc_path.specs.Steps.{PathStep}
use Rattle.orc_path.specs.declared.item.Item.{Item}
use Rattle.orc_schema_nodes.specs.Schemas.{SchemaTable}
use Rattle.orc_typed.specs.Typed.{are_canonical_steps, is_in_schema}

-- the schema has the item there, with its keys in their canonical form
abbrev pub is_known : SchemaTable → List PathStep → Item → Bool
is_known schema path item = is_in_schema schema path item && (schema.plain || are_canonical_steps schema [] path)
