-- What a snapshot says of a call.
use Rattle.std.specs.Prelude.{ℕ, ◌+◌, ◌==◌, Bool, true, if◌then◌else◌, List, [], ◌∷◌, ◌++◌, codes, map, length, Option, Result}
use Rattle.std.specs.declared.option.Option.TheVariants.{None, Some}
use Rattle.std.specs.declared.result.Result.TheVariants.{Ok, Err}
use Rattle.std.specs.FinMap.{len}
use Rattle.std.specs.List.{filter, fold, list_any, range_with_len}
use Rattle.std.specs.Option.{option_map_or, option_or}
use Rattle.orc_path.specs.Alphabet.{is_key}
use Rattle.orc_path.specs.Configurations.{Config, drop_item, put_item}
use Rattle.orc_path.specs.declared.item.Item.TheVariants.{Entry}
use Rattle.orc_call.specs.declared.answer.Answer.{Answer}
use Rattle.orc_call.specs.declared.call.Action.{Action}
use Rattle.orc_call.specs.declared.call.Action.TheVariants.{Create, Modify, Redeploy, Literal}
use Rattle.orc_call.specs.declared.call.Call.{Call}
use Rattle.orc_expr.specs.declared.read.Read.{Read}
use Rattle.orc_expr.specs.declared.read.Read.TheVariants as read
use Rattle.orc_queue.specs.declared.held.Held.{Held}
use Rattle.orc_services.specs.Expanded.{expanded_actions}
use Rattle.orc_template.specs.Expansions.{device_parts}
use Rattle.orc_template.specs.declared.expansion.Expansion.{Expansion}
use Rattle.orc_datastore.specs.Actions.{data_after}
use Rattle.orc_decls.specs.Calls.{service_of}
use Rattle.orc_datastore.specs.Next.{first_service_fault, invalid, serving_on}
use Rattle.orc_datastore.specs.Plans.{call_targets, services_named}
use Rattle.orc_datastore.specs.Snapshots.{Snapshot, device_row, is_entered, service_entry, service_step}
use Rattle.orc_path.specs.Steps.{PathStep}
use Rattle.orc_datastore.specs.States.{expansion}
use Rattle.orc_decls.specs.Devices.{name_of}
use Rattle.orc_datastore.specs.Touched.{touches_device}
use Rattle.orc_decls.specs.declared.declarations.Decls.{Decls}
use Rattle.orc_datastore.specs.declared.plan.Plan.{Plan}
use Rattle.orc_datastore.specs.declared.service.Service.{Service}

-- what is known, by the entries

abbrev pub knows_service : Config → List ℕ → Bool
knows_service known id = is_entered known (service_entry id)

abbrev pub knows_device : Config → List ℕ → ℕ → Bool
knows_device known id device = is_entered known (device_row id device)

-- the list of the devices below the entry of the service of a name
abbrev pub device_list : List ℕ → List PathStep
device_list id = service_step id ∷ record { node = codes "device"; keys = [] } ∷ []

-- with an entry for each device on which one of these parts has an item, the first of them that of a number
abbrev pub enter_parts : List ℕ → ℕ → List Config → Config → Config
enter_parts id number [] known = known
enter_parts id number (config ∷ parts) known =
    enter_parts id (number + 1) parts (if len config == 0 then known else put_item known (device_row id number) Entry)

-- with the entries of a service
abbrev pub enter_living : Config → Service → Config
enter_living known service =
    enter_parts service.id 0 service.parts (put_item known (service_entry service.id) Entry)

-- without those of the service of a name
abbrev pub leave_living : Config → List ℕ → Config
leave_living known id = drop_item known (service_entry id)

-- without those of the services of these names, and with those of other ones
abbrev pub known_behind : Config → List (List ℕ) → List Service → Config
known_behind known ids services = fold enter_living (fold leave_living known ids) services

-- the name of the service that the action names can stand in an entry
abbrev pub service_key : Action → Bool
service_key action = option_map_or is_key (service_of action) true

-- what is planned

-- the devices that expanded actions touch
abbrev pub touched_known : List (List ℕ) → Config → List Action → List ℕ
touched_known names known actions =
    filter (λ device. list_any (touches_device (name_of names device) (knows_device known) device) actions)
    (range_with_len 0 (length names))

-- the expansion of the service that an action makes, by the literal service that it came to
abbrev pub literal_parts : List (List ℕ) → Action → Expansion
literal_parts names (Literal id writes) = record { parts = device_parts 0 (expansion names writes) }
literal_parts names other = record { parts = [] }

abbrev pub expansions_by : List (List ℕ) → Action → Action → List (List ℕ × Expansion)
expansions_by names (Create id body) made = (id, literal_parts names made) ∷ []
expansions_by names (Modify id body) made = (id, literal_parts names made) ∷ []
expansions_by names (Redeploy id) made = (id, literal_parts names made) ∷ []
expansions_by names other made = []

abbrev pub all_expansions : List (List ℕ) → List Action → List Action → List (List ℕ × Expansion)
all_expansions names [] made = []
all_expansions names (action ∷ actions) [] = []
all_expansions names (action ∷ actions) (one ∷ made) =
    expansions_by names action one ++ all_expansions names actions made

abbrev pub held_known : Decls → Config → List Action → List Action → List Read → Held
held_known decls known actions made reads = record {
  devices = touched_known decls.names known made;
  services = services_named actions;
  reads = record { reads = reads ++ map read.Service (services_named actions) };
  targets = call_targets actions;
}

-- the plan of actions with this data after them, by what they come to, or why there is none
abbrev pub planned_by : Decls → Config → ℕ → List Action → Config → Result (List Action) Answer → List Read
    → Result Plan Answer
planned_by decls known front actions config (Ok made) reads = Ok (record {
  front = front;
  held = held_known decls known actions made reads;
  expansions = all_expansions decls.names actions made;
  next = config;
})
planned_by decls known front actions config (Err answer) reads = Err answer

-- the plan of actions on the data after them, or why there is none
abbrev pub planned_known : Decls → Config → ℕ → List Action → Config → Result Plan Answer
planned_known decls known front actions config =
    let due = expanded_actions (serving_on decls config) actions in
    planned_by decls known front actions config due.outcome due.reads

-- what is planned where nothing is at fault, and else the fault
abbrev pub unless_fault : Option Answer → Result Plan Answer → Result Plan Answer
unless_fault None due = due
unless_fault (Some answer) due = Err answer

-- the plan of a call by a snapshot, or why there is none
abbrev pub planned_sight : Decls → Snapshot → Call → Result Plan Answer
planned_sight decls snapshot call =
    let config = data_after call.actions snapshot.data in
    let fault = first_service_fault (knows_service snapshot.known) call.actions in
    unless_fault (option_or fault (invalid decls.data_schema config))
    (planned_known decls snapshot.known snapshot.front call.actions config)
