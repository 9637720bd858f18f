-- What the actions of a call do: those on the data and on the bases of devices in their order, and those on services.
use Rattle.std.specs.Prelude.{ℕ, Bool, true, false, not, ◌&&◌, List, [], ◌∷◌, ◌++◌, filter, Option, if◌then◌else◌}
use Rattle.std.specs.declared.option.Option.TheVariants.{None, Some}
use Rattle.std.specs.Option.{option_map_or}
use Rattle.std.specs.List.{flat_map, fold, list_any}
use Rattle.orc_path.specs.Configurations.{Config, put_item, drop_item}
use Rattle.orc_call.specs.declared.call.Action.{Action}
use Rattle.orc_call.specs.declared.call.Action.TheVariants.{Create, Modify, Literal, Delete, Set, Unset, BasePut, BaseRemove}
use Rattle.orc_path.specs.Steps.{PathStep}
use Rattle.orc_path.specs.Reading.{path_of}
use Rattle.orc_path.specs.declared.item.Item.TheVariants.{Entry}
use Rattle.orc_call.specs.declared.call.Put.{Put}
use Rattle.orc_datastore.specs.States.{expansion}
use Rattle.orc_decls.specs.Devices.{is_same_text}
use Rattle.orc_decls.specs.Openings.{put_all}
use Rattle.orc_datastore.specs.declared.service.Service.{Service}

-- The service that an expanded action names, if it names one. An action on a service of a list that isn't expanded
-- names none and changes nothing.
abbrev pub named : Action → Option (List ℕ)
named (Literal id writes) = Some id
named (Delete id) = Some id
named other = None

-- the action names the service of this name
abbrev pub names : Action → List ℕ → Bool
names action id = option_map_or (λ own. is_same_text id own) (named action) false

-- one of the actions names it
abbrev pub is_named_by : List Action → List ℕ → Bool
is_named_by actions id = list_any (λ action. names action id) actions

-- the actions name each service at most once
abbrev pub name_each_once : List Action → Bool
name_each_once [] = true
name_each_once (action ∷ actions) =
    option_map_or (λ id. not (is_named_by actions id)) (named action) true && name_each_once actions

-- with the entry of a service, which stands at a path, and its body
abbrev pub enter_service : Option (List PathStep) → List Put → Config → Config
enter_service None body config = config
enter_service (Some path) body config = put_all body (put_item config path Entry)

-- without that entry and all below it
abbrev pub leave_service : Option (List PathStep) → Config → Config
leave_service None config = config
leave_service (Some path) config = drop_item config path

-- The data after an action. Creating a service adds its entry and its body, modifying it replaces all below its entry
-- by the body, and deleting it removes the entry and all below; its id is the entry's path text, and that of a literal
-- service is no path's. Setting an item adds the entries on its way; removing a path that ends in keys removes that
-- entry and all below it, and removing another one that leaf.
abbrev pub data_step : Config → Action → Config
data_step config (Create id body) = enter_service (path_of id) body config
data_step config (Modify id body) = enter_service (path_of id) body (leave_service (path_of id) config)
data_step config (Delete id) = leave_service (path_of id) config
data_step config (Set put) = put_item config put.path put.item
data_step config (Unset path) = drop_item config path
data_step config other = config

-- the data after actions, which are done in their order
abbrev pub data_after : List Action → Config → Config
data_after actions config = fold data_step config actions

-- the base of the device of this name after an action
abbrev pub base_step : List ℕ → Config → Action → Config
base_step name base (BasePut put) = if is_same_text put.device name then put_item base put.path put.item else base
base_step name base (BaseRemove device path) = if is_same_text device name then drop_item base path else base
base_step name base other = base

-- the bases of the devices of these names after actions, which are done in their order
abbrev pub bases_after : List (List ℕ) → List Action → List Config → List Config
bases_after names actions [] = []
bases_after [] actions (base ∷ bases) = base ∷ bases
bases_after (name ∷ names) actions (base ∷ bases) =
    fold (base_step name) base actions ∷ bases_after names actions bases

-- the services that an action makes, once it is expanded: none or one
abbrev pub new_services : List (List ℕ) → Action → List Service
new_services devices (Literal id writes) = record { id = id; parts = expansion devices writes } ∷ []
new_services devices other = []

-- the living services after an action: the one that it names goes, and the one that it makes comes
abbrev pub live_step : List (List ℕ) → List Service → Action → List Service
live_step devices live action = filter (λ service. not (names action service.id)) live ++ new_services devices action

-- the living services after actions
abbrev pub live_after : List (List ℕ) → List Action → List Service → List Service
live_after devices actions live = fold (live_step devices) live actions

-- of these services those that the actions name, in the order of the actions
abbrev pub touched : List Action → List Service → List Service
touched actions live = flat_map (λ action. filter (λ service. names action service.id) live) actions
