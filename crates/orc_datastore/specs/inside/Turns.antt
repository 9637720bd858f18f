-- What a call does to the services that it names, and what that asks of the store of one device.
use Rattle.std.specs.Prelude.{◌≡◌, ℕ, false, List, [], ◌∷◌, ◌++◌, if◌then◌else◌}
use Rattle.std.specs.List.{find, fold}
use Rattle.std.specs.Option.{option_map_or}
use Rattle.orc_call.specs.declared.call.Put.{Put}
use Rattle.orc_call.specs.declared.call.Action.{Action}
use Rattle.orc_call.specs.declared.call.Action.TheVariants.{Literal, Delete, BasePut, BaseRemove}
use Rattle.orc_refs.specs.Moves.{items_of}
use Rattle.orc_refs.specs.declared.moves.Move.{Move}
use Rattle.orc_refs.specs.declared.moves.BaseEdit.{BaseEdit}
use Rattle.orc_refs.specs.declared.moves.BaseEdit.TheVariants as edit
use Rattle.orc_datastore.specs.States.{expansion, has_id, lives, others, part}
use Rattle.orc_decls.specs.Devices.{is_same_text}
use Rattle.orc_datastore.specs.declared.service.Service.{Service}
use Rattle.orc_datastore.specs.declared.turns.Turn.{Turn}
use Rattle.orc_datastore.specs.declared.turns.Turn.TheVariants.{Comes, Goes}

-- what an action does to the service that it names: none or one
abbrev pub turns_of : List (List ℕ) → Action → List Turn
turns_of names (Literal id writes) = Comes (record { id = id; parts = expansion names writes }) ∷ []
turns_of names (Delete id) = Goes id ∷ []
turns_of names other = []

-- what the living service of a name holds on a device
abbrev pub held_by : List Service → ℕ → List ℕ → List Put
held_by live device id = option_map_or (λ service. items_of (part service device)) (find (has_id id) live) []

-- the move of a service on a device: from what it holds there, if it lives, to what it writes; or to nothing
abbrev pub move_of : List Service → ℕ → Turn → List Move
move_of live device (Comes service) =
    record { service = service.id; old = held_by live device service.id; new = items_of (part service device) } ∷ []
move_of live device (Goes id) = option_map_or
    (λ service. record { service = id; old = items_of (part service device); new = [] } ∷ [])
    (find (has_id id) live) []

-- the edit of the base of the device of this name that an action is: none or one
abbrev pub edits_of : List ℕ → Action → List BaseEdit
edits_of name (BasePut write) =
    if is_same_text write.device name then edit.Put (record { path = write.path; item = write.item }) ∷ [] else []
edits_of name (BaseRemove device path) = if is_same_text device name then edit.Remove path ∷ [] else []
edits_of name other = []

-- the service that comes
abbrev pub comers : Turn → List Service
comers (Comes service) = service ∷ []
comers (Goes id) = []

-- each of these services has a name that none of the living ones has, nor one of those before it
abbrev pub AreFresh : List Service → List Service → Type 0
AreFresh live [] = Unit {0}
AreFresh live (service ∷ services) = (lives live service.id ≡ false) × AreFresh (live ++ service ∷ []) services

-- the name of the service that comes or goes
abbrev pub turn_id : Turn → List ℕ
turn_id (Comes service) = service.id
turn_id (Goes id) = id

-- the living services without those of these names
abbrev pub left_by : List Service → List (List ℕ) → List Service
left_by live ids = fold others live ids
