-- Which calls a call block can give, and which devices and data can be declared.
use Rattle.std.specs.Prelude.{ℕ, ◌-◌, ◌^◌, Bool, true, false, ◌&&◌, ◌||◌, not, nat_le, nat_lt, List, [], ◌∷◌, length, take, Option, is_some, slice_get, if◌then◌else◌}
use Rattle.std.specs.declared.option.Option.TheVariants.{None, Some}
use Rattle.std.specs.List.{find, list_all, list_any}
use Rattle.std.specs.FinMap.{empty, entries}
use Rattle.std.specs.Ordering.{eq_by_cmp}
use Rattle.orc_path.specs.Order.{path_cmp, is_prefix}
use Rattle.orc_path.specs.Reading.{path_of}
use Rattle.orc_services.specs.Services.{list_with}
use Rattle.orc_services.specs.declared.list.ServiceList.{ServiceList}
use Rattle.std.specs.Option.{option_map_or}
use Rattle.orc_path.specs.Alphabet.{is_identifier, is_value}
use Rattle.orc_path.specs.Limits.{is_long_name, is_long_path, is_long_value}
use Rattle.orc_path.specs.Steps.{PathStep, ends_in_keys, is_path}
use Rattle.orc_path.specs.Items.{fits}
use Rattle.orc_path.specs.declared.item.Item.{Item}
use Rattle.orc_path.specs.declared.item.Item.TheVariants.{Entry, Leaf}
use Rattle.orc_schema_nodes.specs.Schemas.{SchemaTable, node_at, path_names, plain_table}
use Rattle.orc_schema_nodes.specs.declared.line.Node.{Node}
use Rattle.orc_schema_nodes.specs.declared.line.Node.TheVariants as node
use Rattle.orc_typed.specs.Typed.{are_canonical_steps, is_in_schema, is_typed, stand}
use Rattle.orc_decls.specs.Devices.{device_list_path, is_same_text}
use Rattle.orc_decls.specs.Openings.{put_all}
use Rattle.orc_decls.specs.declared.declarations.Decls.{Decls}
use Rattle.orc_decls.specs.declared.declarations.Device.{Device}
use Rattle.orc_decls.specs.declared.lawful.TheConstants.{MOST_WRITES}
use Rattle.orc_call.specs.declared.call.TheConstants.{MOST_ACTIONS}
use Rattle.orc_call.specs.declared.call.Put.{Put}
use Rattle.orc_call.specs.declared.call.Call.{Call}
use Rattle.orc_call.specs.declared.call.Action.{Action}
use Rattle.orc_call.specs.declared.call.Action.TheVariants.{Create, Modify, Redeploy, Literal, Delete, Set, Unset, BasePut, BaseRemove}
use Rattle.orc_call.specs.declared.call.DevicePut.{DevicePut}

-- what a caller, a device and a literal service can be called: an identifier that keeps the limit
abbrev pub is_lawful_name : List ℕ → Bool
is_lawful_name name = is_identifier name && not (is_long_name name)

-- what a leaf can hold: a value that keeps the limit
abbrev pub is_lawful_item : Item → Bool
is_lawful_item Entry = true
is_lawful_item (Leaf text) = is_value text && not (is_long_value text)

-- the path is one, path and item keep the limits, and the item fits the path
abbrev pub is_item_at : List PathStep → Item → Bool
is_item_at path item = is_path path && not (is_long_path path) && is_lawful_item item && fits path item

-- the item may stand there, and the schema has it there in its canonical form
abbrev pub is_item_under : SchemaTable → List PathStep → Item → Bool
is_item_under schema path item = is_item_at path item && is_typed schema path item

-- the item that a path can carry, but for a leaf's text
abbrev pub blank_item : List PathStep → Item
blank_item path = if ends_in_keys path then Entry else Leaf []

-- the path can carry an item, and the schema has it there, with its keys in their canonical form
abbrev pub is_path_under : SchemaTable → List PathStep → Bool
is_path_under schema path = is_item_at path (blank_item path)
    && (is_in_schema schema path (blank_item path) && (schema.plain || are_canonical_steps schema [] path))

-- devices

-- the schema of a place; the plain one where there is none
abbrev pub schema_in : List SchemaTable → ℕ → SchemaTable
schema_in schemas place = option_map_or (λ schema. schema) (slice_get schemas place) plain_table

-- the first device of this name
abbrev pub device_named : List Device → List ℕ → Option Device
device_named devices name = find (λ device. is_same_text name device.name) devices

-- the schema of the device of this name; the plain one where there is none
abbrev pub schema_named : List SchemaTable → List Device → List ℕ → SchemaTable
schema_named schemas devices name =
    option_map_or (λ device. schema_in schemas device.schema) (device_named devices name) plain_table

-- an item of the base of a device with this schema
abbrev pub is_put : SchemaTable → Put → Bool
is_put schema put = is_item_under schema put.path put.item

-- the node has entries: it is a list or a leaf-list
abbrev pub has_entries : Option Node → Bool
has_entries (Some (node.List list)) = true
has_entries (Some (node.LeafList list)) = true
has_entries other = false

-- The path is that of a list or a leaf-list: it has no keys in its last step, and the steps above it stand in the
-- schema with their keys in canonical form. Under a plain schema each path without keys in its last step is one.
abbrev pub is_list_path : SchemaTable → List PathStep → Bool
is_list_path schema path = is_path path && not (is_long_path path) && nat_lt 0 (length path) && not (ends_in_keys path)
    && (schema.plain || (stand schema [] (take (length path - 1) path)
    && (are_canonical_steps schema [] path && has_entries (node_at schema (path_names path)))))

-- a list of a device with this schema, and the most entries that it may have
abbrev pub is_max_rule : SchemaTable → List PathStep × ℕ → Bool
is_max_rule schema rule = is_list_path schema rule.0 && nat_lt rule.1 (2 ^ 64)

-- a leaf of one, and a text that it may not have
abbrev pub is_forbid_rule : SchemaTable → List PathStep × List ℕ → Bool
is_forbid_rule schema rule = is_item_under schema rule.0 (Leaf rule.1)

-- what is declared of a device with this schema
abbrev pub is_device_under : SchemaTable → Device → Bool
is_device_under schema device = list_all (is_put schema) device.base && list_all (is_max_rule schema) device.max
    && list_all (is_forbid_rule schema) device.forbid

-- a device that can be declared where these schemas are
abbrev pub is_device : List SchemaTable → Device → Bool
is_device schemas device = is_lawful_name device.name && nat_lt device.schema (length schemas)
    && is_device_under (schema_in schemas device.schema) device

-- data

-- a path is at, under or above a list, whatever the keys: the names of one begin with those of the other
abbrev pub meets : List PathStep → List PathStep → Bool
meets [] path = true
meets (step ∷ later) [] = true
meets (step ∷ later) (own ∷ below) = is_same_text own.node step.node && meets later below

-- The path is at, under or above a list of the data that the orchestrator keeps itself, so that no line may name it:
-- that of the devices.
abbrev pub is_kept : List PathStep → Bool
is_kept path = meets device_list_path path

-- an item of the data that a line may name
abbrev pub is_data_item : SchemaTable → Put → Bool
is_data_item schema put = is_put schema put && not (is_kept put.path)

-- a path of the data that a line may name and that can carry an item
abbrev pub is_data_path : SchemaTable → List PathStep → Bool
is_data_path schema path = is_path_under schema path && not (is_kept path)

-- calls

-- a write on a declared device
abbrev pub is_write : Decls → DevicePut → Bool
is_write decls write =
    is_some (device_named decls.devices write.device)
    && is_item_under (schema_named decls.schemas decls.devices write.device) write.path write.item

-- a path of a declared device that can carry an item of its base
abbrev pub is_base_path : Decls → List ℕ → List PathStep → Bool
is_base_path decls device path =
    is_some (device_named decls.devices device) && is_path_under (schema_named decls.schemas decls.devices device) path

-- the path is at, under or above a list whose entries are services, so that only actions on these may name it
abbrev pub is_served : List ServiceList → List PathStep → Bool
is_served lists path = list_any (λ it. meets it.list path) lists

-- the path of an entry of such a list, with its keys in canonical form
abbrev pub is_service_path : Decls → List PathStep → Bool
is_service_path decls path = is_data_path decls.data_schema path && is_some (list_with decls.services path)

-- the id of a service: the text of such a path
abbrev pub is_service : Decls → List ℕ → Bool
is_service decls id = option_map_or (is_service_path decls) (path_of id) false

-- an item of a body stands below the entry, where the schema has it
abbrev pub is_body_item : SchemaTable → List PathStep → Put → Bool
is_body_item schema entry put =
    is_put schema put && (is_prefix entry put.path && nat_lt (length entry) (length put.path))

-- these items are those rows below an entry
abbrev pub are_below : List PathStep → List (List PathStep × Item) → List Put → Bool
are_below entry [] [] = true
are_below entry [] (put ∷ puts) = false
are_below entry (row ∷ rows) [] = is_prefix row.0 entry && are_below entry rows []
are_below entry (row ∷ rows) (put ∷ puts) =
    if is_prefix row.0 entry then are_below entry rows (put ∷ puts)
    else eq_by_cmp path_cmp row.0 put.path && are_below entry rows puts

-- the body of a service: such items, which are, in path order, all that a configuration has below the entry
abbrev pub is_body : SchemaTable → List PathStep → List Put → Bool
is_body schema entry body =
    nat_le (length body) MOST_WRITES && list_all (is_body_item schema entry) body
    && are_below entry (entries (put_all body empty)) body

abbrev pub has_body : Decls → List ℕ → List Put → Bool
has_body decls id body = option_map_or (λ entry. is_body decls.data_schema entry body) (path_of id) false

-- the service that an action of a call names, if it names one
abbrev pub service_of : Action → Option (List ℕ)
service_of (Create id body) = Some id
service_of (Modify id body) = Some id
service_of (Redeploy id) = Some id
service_of (Literal id writes) = Some id
service_of (Delete id) = Some id
service_of other = None

-- one of the actions of a call names it
abbrev pub is_service_among : List Action → List ℕ → Bool
is_service_among actions id =
    list_any (λ action. option_map_or (λ own. is_same_text id own) (service_of action) false) actions

-- the actions of a call name each service at most once
abbrev pub services_once : List Action → Bool
services_once [] = true
services_once (action ∷ actions) =
    option_map_or (λ id. not (is_service_among actions id)) (service_of action) true && services_once actions

-- an action that a call block gives
abbrev pub is_action : Decls → Action → Bool
is_action decls (Create id body) = is_service decls id && has_body decls id body
is_action decls (Modify id body) = is_service decls id && has_body decls id body
is_action decls (Redeploy id) = is_service decls id
is_action decls (Literal id writes) =
    is_lawful_name id && nat_le (length writes) MOST_WRITES && list_all (is_write decls) writes
is_action decls (Delete id) = is_lawful_name id || is_service decls id
is_action decls (Set put) = is_data_item decls.data_schema put && not (is_served decls.services put.path)
is_action decls (Unset path) = is_data_path decls.data_schema path && not (is_served decls.services path)
is_action decls (BasePut write) = is_write decls write
is_action decls (BaseRemove device path) = is_base_path decls device path

-- a call that a call block gives: it has 1 to 64 actions, and names each service at most once
abbrev pub is_call : Decls → Call → Bool
is_call decls call =
    is_lawful_name call.caller && nat_lt call.number (2 ^ 64)
    && (nat_le 1 (length call.actions) && nat_le (length call.actions) MOST_ACTIONS)
    && (list_all (is_action decls) call.actions && services_once call.actions)
