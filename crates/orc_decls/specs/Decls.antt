-- What a bundle declares, as contracts see it.
use Rattle.std.specs.Prelude.{ℕ, List}
use Rattle.orc_call.specs.declared.call.Put.{Put}
use Rattle.orc_schema_nodes.specs.Schemas.{SchemaTable}
use Rattle.orc_services.specs.declared.list.ServiceList.{ServiceList}
use Rattle.orc_template.specs.Devices.{DeviceTable}
use Rattle.orc_decls.specs.declared.declarations.Device.{Device}

-- The bytes of the declarations as the journal stores them; the devices' names; the schemas, first the plain one and
-- then one for each type of devices; what is declared of each device; the schema of the data, its items, and its lists
-- whose entries are services; all in the order of declaration. The table has the devices as expansions take them.
pub record Declarations : Type 0 where
  pub text : List ℕ
  pub names : List (List ℕ)
  pub schemas : List SchemaTable
  pub devices : List Device
  pub data_schema : SchemaTable
  pub «data» : List Put
  pub services : List ServiceList
  pub table : DeviceTable
