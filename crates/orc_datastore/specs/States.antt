-- The state: the data, the bases of the devices, and the living services with what they write.
use Rattle.std.specs.Prelude.{ℕ, Bool, not, ◌≡◌, List, [], ◌∷◌, length, map, filter, All, if◌then◌else◌}
use Rattle.std.specs.List.{list_any, slice_get}
use Rattle.std.specs.Option.{option_map_or}
use Rattle.std.specs.FinMap.{empty}
use Rattle.orc_path.specs.Configurations.{Config}
use Rattle.orc_call.specs.declared.call.Put.{Put}
use Rattle.orc_call.specs.declared.call.DevicePut.{DevicePut}
use Rattle.orc_refs.specs.Live.{overlaid}
use Rattle.orc_decls.specs.Devices.{is_same_text}
use Rattle.orc_decls.specs.Openings.{declared_base, opening_data, put_all}
use Rattle.orc_decls.specs.declared.declarations.Decls.{Decls}
use Rattle.orc_datastore.specs.declared.service.Service.{Service}

-- The state: the data; the base of each device, which no service wrote; and the living services with what they write,
-- in the order in which they were made.
pub record Datastore : Type 0 where
  pub «data» : Config
  pub bases : List Config
  pub live : List Service

-- devices

-- what the configurations of the devices hold for the device of a number
abbrev pub config_of : List Config → ℕ → Config
config_of configs device = option_map_or (λ config. config) (slice_get configs device) empty

-- what a service writes on a device
abbrev pub part : Service → ℕ → Config
part service device = config_of service.parts device

-- writes

-- those writes that are on the device of this name
abbrev pub puts_on : List ℕ → List DevicePut → List Put
puts_on name [] = []
puts_on name (write ∷ writes) =
    if is_same_text write.device name
    then record { path = write.path; item = write.item } ∷ puts_on name writes
    else puts_on name writes

-- what a literal service of these writes writes on each device
abbrev pub expansion : List (List ℕ) → List DevicePut → List Config
expansion names writes = map (λ name. put_all (puts_on name writes) empty) names

-- the state

-- the declared data and bases, and no service
abbrev pub opening : Decls → Datastore
opening decls = record {
  «data» = opening_data decls.names decls.data;
  bases = map declared_base decls.devices;
  live = [];
}

-- each living service has a part on each device that has a base
abbrev pub IsComplete : Datastore → Type 0
IsComplete state = All (λ service. length service.parts ≡ length state.bases) state.live

-- the tree that is due on a device: its base overlaid with the items that living services write
abbrev pub tree_due : Datastore → ℕ → Config
tree_due state device = overlaid (map (λ service. part service device) state.live) (config_of state.bases device)

-- services by their names

-- the service has this name
abbrev pub has_id : List ℕ → Service → Bool
has_id id service = is_same_text service.id id

-- one of the living services has this name
abbrev pub lives : List Service → List ℕ → Bool
lives live id = list_any (has_id id) live

-- the living services but that of this name
abbrev pub others : List Service → List ℕ → List Service
others live id = filter (λ service. not (has_id id service)) live
