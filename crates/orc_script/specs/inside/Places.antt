-- Where a path of a device may stand.
use Rattle.std.specs.Prelude.{Bool, ◌&&◌, ◌||◌, List, []}
use Rattle.orc_path.specs.Steps.{PathStep}
use Rattle.orc_schema_nodes.specs.Schemas.{SchemaTable}
use Rattle.orc_decls.specs.Calls.{blank_item}
use Rattle.orc_typed.specs.Typed.{are_canonical_steps}
use Rattle.orc_lines.specs.Items.{can_carry}

-- the path can carry an item and its keys are in canonical form
abbrev pub carries_own : SchemaTable → List PathStep → Bool
carries_own schema path = can_carry schema path (blank_item path)
    && (schema.plain || are_canonical_steps schema [] path)
