-- Which declarations a bundle can have.
use Rattle.std.specs.Prelude.{◌≡◌, ◌≤◌, ◌-◌, Bool, true, false, not, ◌&&◌, List, [], length, map, take, slice_get, Option, IsTrue, is_none}
use Rattle.std.specs.Ordering.{eq_by_cmp}
use Rattle.orc_path.specs.Steps.{PathStep, has_keys, is_path}
use Rattle.orc_path.specs.Limits.{is_long_path}
use Rattle.orc_path.specs.Order.{path_cmp}
use Rattle.std.specs.declared.option.Option.TheVariants.{None, Some}
use Rattle.std.specs.List.{list_all, IsDistinct}
use Rattle.orc_schema_nodes.specs.Schemas.{SchemaTable, node_at, path_names, plain_table, shape_at}
use Rattle.orc_schema_nodes.specs.declared.line.Node.{Node}
use Rattle.orc_schema_nodes.specs.declared.line.Node.TheVariants as node
use Rattle.orc_typed.specs.Typed.{stand}
use Rattle.orc_template.specs.Devices.{DeviceTable}
use Rattle.orc_template.specs.Said.{template_json}
use Rattle.orc_template.specs.Templates.{template_fault}
use Rattle.orc_template.specs.TheReaders.{the_readers}
use Rattle.orc_services.specs.declared.list.ServiceList.{ServiceList}
use Rattle.orc_check.specs.Validity.{broken_of}
use Rattle.orc_check.specs.Acceptance.{accepts}
use Rattle.orc_check.specs.declared.acceptance.Accept.{Accept}
use Rattle.orc_decls.specs.Openings.{declared_base, opening_data}
use Rattle.orc_decls.specs.Devices.{is_same_text, names_of}
use Rattle.orc_decls.specs.Calls.{is_data_item, is_device, is_kept, is_served, schema_in}
use Rattle.orc_decls.specs.declared.declarations.Decls.{Decls}
use Rattle.orc_decls.specs.declared.declarations.Device.{Device}
use Rattle.orc_decls.specs.declared.declarations.TheConstants.{MOST_DEVICES}

-- what a declared device accepts: what is valid under its schema and keeps its rules
abbrev pub accept_of : List SchemaTable → Device → Accept
accept_of schemas device =
    record { schema = schema_in schemas device.schema; max = device.max; forbid = device.forbid }

-- the device accepts its own base
abbrev pub accepts_base : List SchemaTable → Device → Bool
accepts_base schemas device = accepts (accept_of schemas device) (declared_base device)

-- the devices as expansions take them: their names, the schemas, and the place of each one's own among these
abbrev pub device_table : Decls → DeviceTable
device_table decls =
    record { names = decls.names; schemas = decls.schemas; of = map (λ device. device.schema) decls.devices }

-- the node is a list
abbrev pub is_list_node : Option Node → Bool
is_list_node (Some (node.List list)) = true
is_list_node other = false

-- A list of the data schema whose entries are services. It isn't kept, and it is reached through containers alone: no
-- step has keys, and the steps above the list's own stand so.
abbrev pub is_service_list : SchemaTable → List PathStep → Bool
is_service_list schema list =
    is_path list && not (is_long_path list) && list_all (λ step. not (has_keys step)) list
    && stand schema [] (take (length list - 1) list) && is_list_node (node_at schema (path_names list))
    && not (is_kept list)

-- its template has no fault
abbrev pub has_template : SchemaTable → ServiceList → Bool
has_template schema it = is_none
    (template_fault (record { readers = the_readers; shapes = shape_at schema; node = it.list })
    (template_json it.template))

abbrev pub is_list_of_services : SchemaTable → ServiceList → Bool
is_list_of_services schema it = is_service_list schema it.list && has_template schema it

-- Declarations that a bundle can have: the names are those of the devices, and no two of them are equal; the first
-- schema is the plain one; the data items are ones that a line may name; the opening data is valid; each device accepts
-- its base; each list of services has one template; and the table of devices is theirs.
pub record AreDecls (decls : Decls) : Type 0 where
  pub named : decls.names ≡ names_of decls.devices
  pub plain : slice_get decls.schemas 0 ≡ Some plain_table
  pub devices : IsTrue (list_all (is_device decls.schemas) decls.devices)
  pub few : length decls.devices ≤ MOST_DEVICES
  pub distinct : IsDistinct is_same_text decls.names
  pub items : IsTrue (list_all (is_data_item decls.data_schema) decls.data)
  pub served : IsTrue (list_all (λ put. not (is_served decls.services put.path)) decls.data)
  pub services : IsTrue (list_all (is_list_of_services decls.data_schema) decls.services)
  pub apart : IsDistinct (eq_by_cmp path_cmp) (map (λ it. it.list) decls.services)
  pub table : decls.table ≡ device_table decls
  pub valid : broken_of decls.data_schema (opening_data decls.names decls.data) ≡ None
  pub accepted : IsTrue (list_all (accepts_base decls.schemas) decls.devices)
