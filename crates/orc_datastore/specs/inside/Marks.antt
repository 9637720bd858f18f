-- Marks of devices by their numbers.
use Rattle.std.specs.Prelude.{◌≡◌, ℕ, ◌<◌, ◌^◌, ◌⊎◌, Bool, true, false, ◌||◌, List, length}
use Rattle.std.specs.List.{list_any, slice_get}
use Rattle.std.specs.Option.{option_map_or, option_to_list}
use Rattle.orc_path.specs.Configurations.{Config}
use Rattle.orc_path.specs.Steps.{PathStep}
use Rattle.orc_datastore.specs.Snapshots.{device_row}
use Rattle.orc_datastore.specs.inside.Sights.{knows_device}
use Rattle.orc_call.specs.declared.call.Action.{Action}
use Rattle.orc_decls.specs.Devices.{name_of}
use Rattle.orc_datastore.specs.States.{Datastore}
use Rattle.orc_datastore.specs.Touched.{is_touched_among}
use Rattle.orc_datastore.specs.inside.Touching.{is_edited_by, is_on, taken_by}
use Rattle.orc_datastore.specs.declared.service.Service.{Service}

-- the device of a number is marked
abbrev pub is_marked : List Bool → ℕ → Bool
is_marked marks device = option_map_or (λ mark. mark) (slice_get marks device) false

-- the devices that pass a test are marked, and of the others those that were
pub record AddsMarks (test : ℕ → Bool) (marks marks' : List Bool) : Type 0 where
  pub len : length marks' ≡ length marks
  pub each : (device : ℕ) → device < length marks → is_marked marks' device ≡ (is_marked marks device || test device)

-- More devices are marked, only ones on which the living service of a name is known to have an item, and that among them
-- of which this is the entry.
pub record MarksRow (known : Config) (id : List ℕ) (row : List PathStep) (marks marks' : List Bool) : Type 0 where
  pub len : length marks' ≡ length marks
  pub each : (device : ℕ) → device < length marks
      → (is_marked marks' device ≡ is_marked marks device)
      ⊎ ((is_marked marks' device ≡ true) × (knows_device known id device ≡ true))
  pub own : (device : ℕ) → device < length marks → device < 2 ^ 32 → row ≡ device_row id device
      → knows_device known id device ≡ true → is_marked marks' device ≡ true

-- the action edits the device, or takes a living service away that has an item on it
abbrev pub marks_on : List (List ℕ) → List Service → Action → ℕ → Bool
marks_on names live action device =
    is_edited_by (name_of names device) action || list_any (is_on device) (option_to_list (taken_by live action))

-- of the devices of these names those are marked that the actions touch
pub record AreTouched (names : List (List ℕ)) (state : Datastore) (actions : List Action) (marks : List Bool) : Type 0 where
  pub len : length marks ≡ length names
  pub each : (device : ℕ) → device < length names
      → is_marked marks device ≡ is_touched_among names state actions device
