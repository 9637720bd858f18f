-- Answers.
use Rattle.std.proofs.Common.{◌≡◌, ℕ, List, refl}
use Rattle.std.specs.Prelude.{Result, Ok, Err}
use Rattle.serde_json.specs.Data.{Data}
use Rattle.orc_path.specs.Configurations.{Config}
use Rattle.orc_path.specs.Steps.{PathStep}
use Rattle.orc_schema_nodes.specs.Schemas.{SchemaTable}
use Rattle.orc_json.specs.Readings.{JsonGives, IsJson, IsOutcome, outcome, reading}
use Rattle.orc_json.specs.declared.fault.JsonFault.{JsonFault}
use Rattle.orc_json.specs.declared.fault.JsonFault.TheVariants.{Syntax, Bad, Memory}

module _ (s : SchemaTable) (at : List PathStep) (bytes : List ℕ) where
  -- what a value gives
  pub settled : (d : Data) → IsJson bytes d → (r : Result Config JsonFault) → IsOutcome (outcome (reading s at d)) r
      → JsonGives (λ config tree. tree ≡ config) s at bytes r
  settled d json (Ok tree) h = (d, tree, json, h, refl)
  settled d json (Err Syntax) h = absurd h
  settled d json (Err (Bad path rule)) h = (d, json, h)
  settled d json (Err Memory) h = absurd h
