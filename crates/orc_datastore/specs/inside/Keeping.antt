-- The stores that a state keeps for its devices, and what they are after the actions of a call.
use Rattle.std.specs.Prelude.{◌≡◌, ℕ, List, [], ◌∷◌, map, length, slice_get, All, IsTrue, Option, Result}
use Rattle.std.specs.declared.option.Option.TheVariants.{None, Some}
use Rattle.std.specs.declared.result.Result.TheVariants.{Ok, Err}
use Rattle.std.specs.List.{fold}
use Rattle.orc_path.specs.Steps.{PathStep}
use Rattle.orc_path.specs.Configurations.{Config}
use Rattle.orc_call.specs.declared.answer.Answer.{Answer}
use Rattle.orc_call.specs.declared.answer.Answer.TheVariants.{Clash}
use Rattle.orc_call.specs.declared.call.Action.{Action}
use Rattle.orc_refs.specs.Stores.{Store, IsStore, written_by}
use Rattle.orc_refs.specs.Live.{Living, IsStoreOf}
use Rattle.orc_refs.specs.Moves.{IsMoved, writes_after}
use Rattle.orc_refs.specs.Clashes.{ClashesAt}
use Rattle.orc_refs.specs.declared.moves.Move.{Move}
use Rattle.orc_refs.specs.declared.moves.BaseEdit.{BaseEdit}
use Rattle.orc_decls.specs.Devices.{name_of}
use Rattle.orc_datastore.specs.States.{part}
use Rattle.orc_datastore.specs.Actions.{base_step, live_after, name_each_once, touched}
use Rattle.orc_datastore.specs.Clashes.{clash_at}
use Rattle.orc_datastore.specs.Next.{clash}
use Rattle.orc_datastore.specs.inside.Placed.{AreNamedOnce}
use Rattle.orc_datastore.specs.declared.service.Service.{Service}

-- what services write on a device
abbrev pub on_device : List Service → ℕ → List Living
on_device live device = map (λ service. record { id = service.id; items = part service device }) live

-- the store is that of what these services write on a device over the store's base
pub record IsStoreFor (live : List Service) (device : ℕ) (store : Store) : Type 0 where
  pub sound : IsStore store
  pub of : IsStoreOf (on_device live device) store.base store

-- each device has a store of what living services write on it, and each of them has a part for each store
pub record AreKept (stores : List Store) (live : List Service) : Type 0 where
  pub each : (device : ℕ) (store : Store) → slice_get stores device ≡ Some store → IsStoreFor live device store
  pub parts : All (λ service. length service.parts ≡ length stores) live

-- no two of these living services have one name, and the actions name each service once
pub record IsOpenTo (live : List Service) (actions : List Action) : Type 0 where
  pub once : IsTrue (name_each_once actions)
  pub differ : AreNamedOnce live

-- what moves and edits make of a store, or the clash for which they make nothing of it
abbrev pub ComesTo : Store → List Move → List BaseEdit → ℕ → Result Store Answer → Type 0
ComesTo store moves edits device (Ok new) = IsMoved store moves edits new
ComesTo store moves edits device (Err answer) =
    (path : List PathStep) × (other : List ℕ) × (answer ≡ Clash device path other)
    × ClashesAt (writes_after moves (written_by store)) moves path other

-- the store is that of a device after actions, and its base the device's base after them
pub record IsBehind (names : List (List ℕ)) (live : List Service) (actions : List Action) (device : ℕ) (base : Config)
    (store : Store) : Type 0 where
  pub edited : store.base ≡ fold (base_step (name_of names device)) base actions
  pub holds : IsStoreFor (live_after names actions live) device store

-- the store that a device has stays as it is
abbrev pub StaysOn : List (List ℕ) → List Service → List Action → ℕ → Type 0
StaysOn names live actions device =
    (store : Store) → IsStoreFor live device store → IsBehind names live actions device store.base store

-- the clash of a call on a device
abbrev pub clash_on : List (List ℕ) → List Service → List Action → ℕ → Option Answer
clash_on names live actions device =
    let behind = live_after names actions live in clash_at behind (touched actions behind) device

-- the store after actions, or the clash that they meet on the device
abbrev pub IsStoreBehind : List (List ℕ) → List Service → List Action → ℕ → Store → Result Store Answer → Type 0
IsStoreBehind names live actions device store (Ok new) = IsBehind names live actions device store.base new
IsStoreBehind names live actions device store (Err answer) = clash_on names live actions device ≡ Some answer

-- the store that a device has after a change of it, or without one
abbrev pub picked : Store → Option Store → Store
picked store None = store
picked store (Some new) = new

-- the store after actions as a change of it, or none, or the clash that they meet on the device
abbrev pub IsChangeOf : List (List ℕ) → List Service → List Action → ℕ → Store → Result (Option Store) Answer → Type 0
IsChangeOf names live actions device store (Ok change) =
    IsBehind names live actions device store.base (picked store change)
IsChangeOf names live actions device store (Err answer) = clash_on names live actions device ≡ Some answer

-- the stores with their changes
abbrev pub placed : List Store → List (Option Store) → List Store
placed [] changes = []
placed (store ∷ stores) [] = store ∷ stores
placed (store ∷ stores) (change ∷ changes) = picked store change ∷ placed stores changes

-- the first changes are those of the first devices
pub record AreChanges (names : List (List ℕ)) (live : List Service) (actions : List Action) (stores : List Store)
    (changes : List (Option Store)) : Type 0 where
  pub each : (device : ℕ) (store : Store) (change : Option Store) → slice_get stores device ≡ Some store
      → slice_get changes device ≡ Some change → IsBehind names live actions device store.base (picked store change)

-- a change of each store, and no clash; or the clash of the call
abbrev pub AreBehind : List (List ℕ) → List Service → List Action → List Store → Result (List (Option Store)) Answer
    → Type 0
AreBehind names live actions stores (Ok changes) =
    (length changes ≡ length stores) × AreChanges names live actions stores changes
    × (clash names live actions ≡ None)
AreBehind names live actions stores (Err answer) = clash names live actions ≡ Some answer
