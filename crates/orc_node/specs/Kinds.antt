-- What a device of an acceptance says of configurations.
use Rattle.std.specs.Prelude.{Bool, ◌&&◌}
use Rattle.std.specs.List.{list_all}
use Rattle.orc_path.specs.Items.{fits}
use Rattle.orc_schema_nodes.specs.Schemas.{SchemaTable}
use Rattle.orc_typed.specs.Typed.{is_typed, has_place}
use Rattle.orc_tree.specs.Changes.{applied}
use Rattle.orc_tree.specs.declared.change.Change.{Change}
use Rattle.orc_tree.specs.declared.change.Change.TheVariants.{Put, Remove}
use Rattle.orc_tree.specs.declared.change.ChangeSet.{ChangeSet}
use Rattle.orc_check.specs.Acceptance.{accepts}
use Rattle.orc_check.specs.declared.acceptance.Accept.{Accept}
use Rattle.orc_change.specs.Differences.{difference}
use Rattle.orc_device.specs.Nodes.{DeviceKind}
use Rattle.orc_tree.specs.Sameness.{equal_configs}

-- a device of the schema takes the change: what is put may stand at its path and fits it, and what is removed could
-- stand there
abbrev pub change_stands : SchemaTable → Change → Bool
change_stands schema (Put path it) = is_typed schema path it && fits path it
change_stands schema (Remove path) = has_place schema path

-- a device of the schema takes each of the changes
abbrev pub set_stands : SchemaTable → ChangeSet → Bool
set_stands schema set = list_all (change_stands schema) set.changes

-- what a device with this acceptance says of configurations
abbrev pub device_kind : Accept → DeviceKind
device_kind accept = record {
  same = equal_configs;
  accepts = accepts accept;
  fits = set_stands accept.schema;
  changed = λ set config. applied set.changes config;
  between = λ from to. record { changes = difference from to };
}
