-- Paths, breaches and nodes that are lent in parts.
use Rattle.std.specs.Prelude.{ℕ, Bool, false, not, nat_lt, List, [], ◌∷◌, ◌++◌, Option, Some, None, option_and_then, if◌then◌else◌}
use Rattle.std.specs.Option.{option_map_or}
use Rattle.orc_path.specs.Steps.{PathStep}
use Rattle.orc_path.specs.Configurations.{Config}
use Rattle.orc_schema_nodes.specs.Schemas.{SchemaTable, path_names}
use Rattle.orc_schema_nodes.specs.declared.line.Node.{Node}
use Rattle.orc_check.specs.declared.spot.Keyed.{Keyed}
use Rattle.orc_check.specs.declared.spot.Spot.{Spot}
use Rattle.orc_check.specs.Validity.{Breach, behind, goes_down, plain_steps, target_in, has_instance, entry_count}

-- the step of an entry with one key
abbrev pub keyed_step : Keyed → PathStep
keyed_step entry = record { node = entry.name.now; keys = entry.key.now ∷ [] }

-- steps without keys, and after them an entry or none
abbrev pub end_steps : List (List ℕ) → Option Keyed → List PathStep
end_steps names None = plain_steps names
end_steps names (Some entry) = plain_steps names ++ keyed_step entry ∷ []

abbrev pub spot_path : Spot → List PathStep
spot_path spot = spot.steps.now ++ end_steps spot.names.now spot.entry

-- the names after those of a place, where their node is reached from there
abbrev pub reached_names : SchemaTable → List PathStep → List (List ℕ) → Option (List (List ℕ))
reached_names s place names = option_and_then
    (λ later. if goes_down s (path_names place) later then Some later else None) (behind place names)

-- a value of a node leads to a target that has no such instance
abbrev pub lacks_instance_at : SchemaTable → Config → List PathStep → Option Node → List ℕ → Bool
lacks_instance_at s c path node text = option_map_or (λ target. not (has_instance s c target text path))
    (option_and_then target_in node) false

-- a list has more entries than the number, where there is one
abbrev pub has_too_many : Config → List PathStep → Option ℕ → Bool
has_too_many c list most = option_map_or (λ n. nat_lt n (entry_count c list)) most false
