-- What may stand under a schema of modules has JSON.
use Rattle.std.specs.Prelude.{◌≡◌, false, List, Some, IsTrue}
use Rattle.std.specs.FinMap.{get}
use Rattle.orc_path.specs.Configurations.{Config, IsConfig}
use Rattle.orc_path.specs.Steps.{PathStep}
use Rattle.orc_path.specs.declared.item.Item.{Item}
use Rattle.orc_schema_nodes.specs.Schemas.{SchemaTable}
use Rattle.orc_typed.specs.Typed.{is_typed}
use Rattle.orc_schema_nodes.specs.Sound.{IsSound}
use Rattle.orc_json.specs.Written.{HasJson}

-- A configuration under a schema: each item is one of the schema, with each key and the text of their types and
-- canonical, and each entry on the way to an item is present.
pub record IsTypedConfig (schema : SchemaTable) (config : Config) : Type 0 where
  pub whole : IsConfig config
  pub typed : (path : List PathStep) (item : Item) → get config path ≡ Some item → IsTrue (is_typed schema path item)

-- Under a schema of modules each such configuration has a JSON value.
abbrev pub TypedHasJson : Type 0
TypedHasJson =
    (schema : SchemaTable) (config : Config) → IsSound schema → schema.plain ≡ false → IsTypedConfig schema config
    → HasJson schema config
