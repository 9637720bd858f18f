-- What is written is read again.
use Rattle.std.specs.Prelude.{◌≡◌, [], Ok}
use Rattle.std.specs.FinMap.{entries}
use Rattle.serde_json.specs.Data.{Members, object}
use Rattle.orc_path.specs.Configurations.{Config, IsConfig}
use Rattle.orc_schema_nodes.specs.Schemas.{SchemaTable}
use Rattle.orc_json.specs.Readings.{reading, outcome}
use Rattle.orc_json.specs.Written.{AreMembers}

-- The JSON value of a configuration is read as that configuration.
abbrev pub JsonIsRead : Type 0
JsonIsRead =
    (schema : SchemaTable) (config : Config) (pairs : Members) → IsConfig config
    → AreMembers schema [] [] (entries config) pairs → outcome (reading schema [] (object pairs)) ≡ Ok config
