-- What a snapshot of a state holds: the front, the data, and what lives on which devices.
use Rattle.std.specs.Prelude.{◌≡◌, ℕ, ◌<◌, ◌^◌, Bool, List, [], ◌∷◌, codes, is_some}
use Rattle.std.specs.Fmt.{decimal}
use Rattle.std.specs.FinMap.{get}
use Rattle.std.specs.List.{list_any}
use Rattle.orc_path.specs.Steps.{PathStep}
use Rattle.orc_path.specs.Configurations.{Config}
use Rattle.orc_datastore.specs.Next.{IsStateOf}
use Rattle.orc_datastore.specs.States.{Datastore, lives}
use Rattle.orc_datastore.specs.Touched.{is_held_by}
use Rattle.orc_decls.specs.declared.declarations.Decls.{Decls}
use Rattle.orc_datastore.specs.declared.service.Service.{Service}

-- The number of calls that were committed; the data; and an entry for each living service with one below it for each
-- device on which the service has an item.
pub record Snapshot : Type 0 where
  pub front : ℕ
  pub «data» : Config
  pub known : Config

-- the entry `/orc:service[ID]` of the service of a name
abbrev pub service_step : List ℕ → PathStep
service_step id = record { node = codes "orc:service"; keys = id ∷ [] }

abbrev pub service_entry : List ℕ → List PathStep
service_entry id = service_step id ∷ []

-- the entry `device[N]` below it of the device of a number, which is written in decimal digits
abbrev pub device_step : ℕ → PathStep
device_step device = record { node = codes "device"; keys = decimal device ∷ [] }

abbrev pub device_row : List ℕ → ℕ → List PathStep
device_row id device = service_step id ∷ device_step device ∷ []

-- an item stands at the path
abbrev pub is_entered : Config → List PathStep → Bool
is_entered config path = is_some (get config path)

-- one of the living services has this name and an item on the device
abbrev pub holds_on : List Service → List ℕ → ℕ → Bool
holds_on live id device = list_any (is_held_by id device) live

-- the entries are those of the living services and of the devices on which they have items
pub record KnowsLiving (live : List Service) (known : Config) : Type 0 where
  pub services : (id : List ℕ) → is_entered known (service_entry id) ≡ lives live id
  pub devices : (id : List ℕ) (device : ℕ) → device < 2 ^ 32
      → is_entered known (device_row id device) ≡ holds_on live id device

-- the snapshot is one of the state: it has the state's data, and knows what lives there
pub record IsSnapshotOf (state : Datastore) (snapshot : Snapshot) : Type 0 where
  pub same_data : snapshot.data ≡ state.data
  pub living : KnowsLiving state.live snapshot.known

-- it is one of some state of these declarations
abbrev pub IsSnapshotUnder : Decls → Snapshot → Type 0
IsSnapshotUnder decls snapshot = (state : Datastore) × (IsStateOf decls state × IsSnapshotOf state snapshot)
