-- The one encoding of each call.
use Rattle.std.specs.Prelude.{◌≡◌, ℕ, ◌<◌, ◌≤◌, List, [], ◌∷◌, ◌++◌, length, take, Option}
use Rattle.std.specs.declared.option.Option.TheVariants.{None, Some}
use Rattle.std.specs.List.{flat_map}
use Rattle.orc_path.specs.Steps.{PathStep}
use Rattle.orc_call.specs.declared.call.Put.{Put}
use Rattle.orc_call.specs.declared.call.DevicePut.{DevicePut}
use Rattle.orc_call.specs.declared.call.Action.{Action}
use Rattle.orc_call.specs.declared.call.Action.TheVariants.{Create, Modify, Redeploy, Delete, Literal, Set, Unset, BasePut, BaseRemove}
use Rattle.orc_call.specs.declared.call.Call.{Call}
use Rattle.orc_call.specs.Fields.{Field, a_text, a_number, a_count_of_actions, a_count_of_items, a_kind, a_path, an_item, spelled, AreLawful}

-- a path, after the one before it where there is one, and its item
abbrev pub put_fields : Option (List PathStep) → Put → List Field
put_fields before put = a_path before put.path ∷ an_item put.path put.item ∷ []

-- puts in path order, each path once
abbrev pub puts_fields : Option (List PathStep) → List Put → List Field
puts_fields before [] = []
puts_fields before (put ∷ puts) = put_fields before put ++ puts_fields (Some put.path) puts

-- the device, then the path and its item
abbrev pub device_put_fields : DevicePut → List Field
device_put_fields put = a_text put.device ∷ a_path None put.path ∷ an_item put.path put.item ∷ []

-- the service, the number of its puts, and the puts
abbrev pub body_fields : List ℕ → List Put → List Field
body_fields service puts = a_text service ∷ a_count_of_items (length puts) ∷ puts_fields None puts

-- the name, the number of its writes, and the writes in the order given
abbrev pub literal_fields : List ℕ → List DevicePut → List Field
literal_fields name writes = a_text name ∷ a_count_of_items (length writes) ∷ flat_map device_put_fields writes

-- the byte that stands for each kind of action
abbrev pub action_kind : Action → ℕ
action_kind (Create service puts) = 1
action_kind (Modify service puts) = 2
action_kind (Redeploy service) = 3
action_kind (Delete service) = 4
action_kind (Set put) = 5
action_kind (Unset path) = 6
action_kind (BasePut put) = 7
action_kind (BaseRemove device path) = 8
action_kind (Literal name writes) = 9

-- what stands after that byte
abbrev pub content_fields : Action → List Field
content_fields (Create service puts) = body_fields service puts
content_fields (Modify service puts) = body_fields service puts
content_fields (Redeploy service) = a_text service ∷ []
content_fields (Delete service) = a_text service ∷ []
content_fields (Set put) = put_fields None put
content_fields (Unset path) = a_path None path ∷ []
content_fields (BasePut put) = device_put_fields put
content_fields (BaseRemove device path) = a_text device ∷ a_path None path ∷ []
content_fields (Literal name writes) = literal_fields name writes

abbrev pub action_fields : Action → List Field
action_fields action = a_kind (action_kind action) ∷ content_fields action

-- the caller, its number, the number of actions, and the actions
abbrev pub call_fields : Call → List Field
call_fields call =
    a_text call.caller ∷ a_number call.number ∷ a_count_of_actions (length call.actions)
    ∷ flat_map action_fields call.actions

-- the encoding of a call
abbrev pub call_bytes : Call → List ℕ
call_bytes call = spelled (call_fields call)

-- a call that has an encoding: each of its fields is lawful
abbrev pub IsCall : Call → Type 0
IsCall call = AreLawful (call_fields call)

-- the bytes begin with the encoding of this call, of this length
pub record HasEncoding (bytes : List ℕ) (call : Call) (len : ℕ) : Type 0 where
  pub lawful : IsCall call
  pub within : len ≤ length bytes
  pub spells : take len bytes ≡ call_bytes call

-- the bytes up to this offset are the first fields of the call, each of them whole and lawful
pub record BeginsAs (bytes : List ℕ) (call : Call) (count at : ℕ) : Type 0 where
  pub within : at ≤ length bytes
  pub lawful : AreLawful (take count (call_fields call))
  pub spells : take at bytes ≡ spelled (take count (call_fields call))

-- The first field that isn't there whole or has no lawful value is at this offset: up to there the bytes are the first
-- fields of some call, and no call has more of its fields there, let alone all of them.
pub record IsBadFieldAt (bytes : List ℕ) (at : ℕ) : Type 0 where
  pub begins : (call : Call) × (count : ℕ) × BeginsAs bytes call count at
  pub no_further : (call : Call) (count other : ℕ) → BeginsAs bytes call count other
      → (other ≤ at) × (count < length (call_fields call))
