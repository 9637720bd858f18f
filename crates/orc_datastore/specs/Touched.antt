-- The devices that a call touches: those on which a service that it names writes, before or after it, and those
-- whose base it edits.
use Rattle.std.specs.Prelude.{ℕ, Bool, false, ◌&&◌, ◌||◌, ◌==◌, not, List, length}
use Rattle.std.specs.FinMap.{len}
use Rattle.std.specs.List.{filter, list_any, range_with_len}
use Rattle.orc_call.specs.declared.call.Action.{Action}
use Rattle.orc_call.specs.declared.call.Action.TheVariants.{Literal, Delete, BasePut, BaseRemove}
use Rattle.orc_call.specs.declared.call.Call.{Call}
use Rattle.orc_call.specs.declared.call.DevicePut.{DevicePut}
use Rattle.orc_datastore.specs.States.{has_id, part, Datastore}
use Rattle.orc_decls.specs.Devices.{is_same_text, name_of}
use Rattle.orc_datastore.specs.Next.{expanded_call, expanded_to}
use Rattle.orc_decls.specs.declared.declarations.Decls.{Decls}
use Rattle.orc_datastore.specs.declared.service.Service.{Service}

-- one of the writes is on the device of this name
abbrev pub is_written_by : List DevicePut → List ℕ → Bool
is_written_by writes name = list_any (λ write. is_same_text write.device name) writes

-- the service has this name and an item on the device
abbrev pub is_held_by : List ℕ → ℕ → Service → Bool
is_held_by id device service = has_id id service && not (len (part service device) == 0)

-- the action, once it is expanded, makes a service that writes on the device, takes one away that has an item on it, or
-- edits its base
abbrev pub touches_device : List ℕ → (List ℕ → ℕ → Bool) → ℕ → Action → Bool
touches_device name holds device (Literal id writes) = is_written_by writes name || holds id device
touches_device name holds device (Delete id) = holds id device
touches_device name holds device (BasePut put) = is_same_text put.device name
touches_device name holds device (BaseRemove own path) = is_same_text own name
touches_device name holds device other = false

abbrev pub is_touched_by : List (List ℕ) → Datastore → ℕ → Action → Bool
is_touched_by names state device action =
    touches_device (name_of names device) (λ id number. list_any (is_held_by id number) state.live) device action

-- one of these actions touches the device
abbrev pub is_touched_among : List (List ℕ) → Datastore → List Action → ℕ → Bool
is_touched_among names state actions device = list_any (is_touched_by names state device) actions

abbrev pub touched_among : List (List ℕ) → Datastore → List Action → List ℕ
touched_among names state actions = filter (is_touched_among names state actions) (range_with_len 0 (length names))

-- a call touches the device
abbrev pub is_touched : Decls → Datastore → Call → ℕ → Bool
is_touched decls state call device =
    is_touched_among decls.names state (expanded_to (expanded_call decls state call)) device

-- the numbers of the devices that it touches on a state, ascending
abbrev pub touched_devices : Decls → Datastore → Call → List ℕ
touched_devices decls state call = touched_among decls.names state (expanded_to (expanded_call decls state call))
