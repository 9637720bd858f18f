-- Services that templates make.
use Rattle.std.specs.Prelude.{ℕ, List, Option, Result}
use Rattle.std.specs.Option.{option_and_then, option_map}
use Rattle.std.specs.List.{find}
use Rattle.serde_json.specs.Data.{Data}
use Rattle.orc_path.specs.Steps.{PathStep}
use Rattle.orc_path.specs.Configurations.{is_entry_of}
use Rattle.orc_path.specs.Reading.{path_of}
use Rattle.orc_path.specs.Views.{Viewed}
use Rattle.orc_schema_nodes.specs.Schemas.{shape_at}
use Rattle.orc_template.specs.declared.view.View.{View}
use Rattle.orc_template.specs.Devices.{DeviceTable}
use Rattle.orc_template.specs.Expansions.{Expanding, Failed, expanded}
use Rattle.orc_template.specs.Said.{template_json}
use Rattle.orc_template.specs.TheReaders.{the_readers}
use Rattle.orc_services.specs.declared.list.ServiceList.{ServiceList}

-- What services stand on: the lists whose entries they are, each with its template; the devices; and the data with its
-- schema.
pub record Serving : Type 0 where
  pub lists : List ServiceList
  pub devices : DeviceTable
  pub view : Viewed

-- what services stand on, with the data and its schema in a view
abbrev pub serving : List ServiceList → DeviceTable → View → Serving
serving lists devices view = record {
  lists = lists;
  devices = devices;
  view = record { items = view.tree.now; shapes = shape_at view.schema.now };
}

-- the list that a path is an entry of, where it is one of these
abbrev pub list_with : List ServiceList → List PathStep → Option ServiceList
list_with lists path = find (λ it. is_entry_of it.list path) lists

-- a service: the path of its entry, and the JSON of the template of its list
pub record Instance : Type 0 where
  pub path : List PathStep
  pub template : Data

abbrev pub instance_at : List ServiceList → List PathStep → Option Instance
instance_at lists path =
    option_map (λ it. record { path = path; template = template_json it.template }) (list_with lists path)

-- the service of an id, which is its entry's path text
abbrev pub instance_of : List ServiceList → List ℕ → Option Instance
instance_of lists id = option_and_then (instance_at lists) (path_of id)

-- what it writes on each device, and reads, or the first fault
abbrev pub expansion_at : Serving → Instance → Result Expanding Failed
expansion_at s it = expanded the_readers s.devices it.path it.template s.view

abbrev pub expansion_of : Serving → List ℕ → Option (Result Expanding Failed)
expansion_of s id = option_map (expansion_at s) (instance_of s.lists id)
