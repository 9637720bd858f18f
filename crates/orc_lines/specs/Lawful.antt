-- What was declared so far, and that it is lawful.
use Rattle.std.specs.Prelude.{ℕ, List, ◌≡◌, ◌≤◌, suc, not, [], length, map, slice_get, IsTrue}
use Rattle.orc_decls.specs.declared.declarations.Decls.{Decls}
use Rattle.orc_lines.specs.declared.declared.Declared.{Declared}
use Rattle.std.specs.declared.option.Option.TheVariants.{Some}
use Rattle.std.specs.List.{list_all, All, IsDistinct}
use Rattle.std.specs.Ordering.{eq_by_cmp}
use Rattle.orc_path.specs.Order.{path_cmp}
use Rattle.orc_schema_nodes.specs.Schemas.{plain_table}
use Rattle.orc_schema_nodes.specs.Sound.{IsSound}
use Rattle.orc_decls.specs.Devices.{names_of}
use Rattle.orc_decls.specs.Calls.{is_data_item, is_device, is_served}
use Rattle.orc_decls.specs.Declarations.{is_list_of_services}
use Rattle.orc_decls.specs.declared.declarations.TheConstants.{MOST_DEVICES}

-- what was declared, with its text
abbrev pub decls_with : List ℕ → Declared → Decls
decls_with text declared = record {
  text = text;
  names = declared.names;
  schemas = declared.schemas;
  devices = declared.devices;
  data_schema = declared.data_schema;
  «data» = declared.data;
  services = declared.services;
  table = record {
    names = declared.names;
    schemas = declared.schemas;
    of = map (λ device. device.schema) declared.devices;
  };
}

-- what was declared so far
pub record AreDeclared (declared : Declared) : Type 0 where
  pub named : declared.names ≡ names_of declared.devices
  pub plain : slice_get declared.schemas 0 ≡ Some plain_table
  pub typed : length declared.schemas ≡ suc (length declared.types)
  pub devices : IsTrue (list_all (is_device declared.schemas) declared.devices)
  pub few : length declared.names ≤ MOST_DEVICES
  pub items : IsTrue (list_all (is_data_item declared.data_schema) declared.data)
  pub served : IsTrue (list_all (λ put. not (is_served declared.services put.path)) declared.data)
  pub services : IsTrue (list_all (is_list_of_services declared.data_schema) declared.services)
  pub apart : IsDistinct (eq_by_cmp path_cmp) (map (λ it. it.list) declared.services)
  pub sound : All IsSound declared.schemas

-- the declarations, without their text
abbrev pub decls_in : Declared → Decls
decls_in declared = decls_with [] declared
