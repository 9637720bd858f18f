-- Where a path of the data may stand.
use Rattle.std.specs.Prelude.{Bool, not, ◌&&◌, ◌||◌, List, []}
use Rattle.orc_path.specs.Steps.{PathStep}
use Rattle.orc_schema_nodes.specs.Schemas.{SchemaTable}
use Rattle.orc_decls.specs.Calls.{blank_item, is_kept}
use Rattle.orc_typed.specs.Typed.{are_canonical_steps}
use Rattle.orc_lines.specs.Items.{can_carry}

-- the path can carry an item and its keys are in canonical form, and a line may name it
abbrev pub keeps_place : SchemaTable → List PathStep → Bool
keeps_place schema path = can_carry schema path (blank_item path)
    && ((schema.plain || are_canonical_steps schema [] path) && not (is_kept path))
