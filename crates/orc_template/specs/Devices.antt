-- The declared devices, each with its schema.
use Rattle.std.specs.Prelude.{ℕ, ◌+◌, Bool, true, not, ◌&&◌, ◌==◌, nat_lt, List, [], ◌∷◌, length, Option, slice_get, if◌then◌else◌}
use Rattle.std.specs.declared.option.Option.TheVariants.{None, Some}
use Rattle.std.specs.Option.{option_map, option_and_then}
use Rattle.std.specs.List.{list_all, list_any}
use Rattle.orc_value.specs.Canon.{same_text}
use Rattle.orc_schema_nodes.specs.Schemas.{SchemaTable}

-- names in the order of the devices' numbers from 0 on, schemas, and for each device the place of its own among these
pub record DeviceTable : Type 0 where
  pub names : List (List ℕ)
  pub schemas : List SchemaTable
  pub of : List ℕ

-- no name stands twice
abbrev pub all_differ : List (List ℕ) → Bool
all_differ [] = true
all_differ (name ∷ later) = not (list_any (same_text name) later) && all_differ later

-- each name has the place of a schema
abbrev pub have_schemas : DeviceTable → Bool
have_schemas devices =
    (length devices.of == length devices.names) && list_all (λ place. nat_lt place (length devices.schemas)) devices.of

abbrev pub is_device_table : DeviceTable → Bool
is_device_table devices = all_differ devices.names && have_schemas devices

-- the number of the device of this name
abbrev pub device_of : List ℕ → List (List ℕ) → Option ℕ
device_of name [] = None
device_of name (first ∷ later) =
    if same_text first name then Some 0 else option_map (λ number. number + 1) (device_of name later)

-- the schema of a device
abbrev pub schema_of_device : DeviceTable → ℕ → Option SchemaTable
schema_of_device devices number = option_and_then (slice_get devices.schemas) (slice_get devices.of number)
