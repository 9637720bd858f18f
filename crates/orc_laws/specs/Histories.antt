-- What holds after whole histories: of trees and data, and where a service came and went.
use Rattle.std.specs.Prelude.{◌≡◌, ℕ, true, false, List, [], ◌∷◌, ◌++◌, All, Contains, IsTrue}
use Rattle.std.specs.declared.option.Option.TheVariants.{None, Some}
use Rattle.std.specs.FinMap.{get}
use Rattle.orc_path.specs.Steps.{PathStep}
use Rattle.orc_path.specs.Configurations.{Config, IsConfig}
use Rattle.orc_path.specs.declared.item.Item.{Item}
use Rattle.orc_check.specs.Validity.{broken_of}
use Rattle.orc_datastore.specs.States.{config_of, lives, opening, part, tree_due, Datastore}
use Rattle.orc_decls.specs.Openings.{opening_data}
use Rattle.orc_path.specs.Reading.{path_of}
use Rattle.orc_decls.specs.Calls.{is_service_among, is_data_item, is_kept, is_lawful_name}
use Rattle.orc_datastore.specs.Histories.{fold_from, IsUnrefused}
use Rattle.orc_datastore.specs.Legal.{IsLegal, state_of}
use Rattle.orc_decls.specs.declared.declarations.Decls.{Decls}
use Rattle.orc_call.specs.declared.call.Action.TheVariants.{Literal, Delete}
use Rattle.orc_call.specs.declared.call.Call.{Call}
use Rattle.orc_call.specs.declared.call.DevicePut.{DevicePut}
use Rattle.orc_datastore.specs.declared.service.Service.{Service}
use Rattle.orc_datastore.specs.Laws.{AreActions}

-- Where the actions of a history are ones that call blocks can give, the data after it is a configuration.
abbrev pub DataIsConfiguration : Type 0
DataIsConfiguration =
    (decls : Decls) (history : List Call)
    → All (λ put. IsTrue (is_data_item decls.data_schema put)) decls.data
    → All (λ name. IsTrue (is_lawful_name name)) decls.names
    → AreActions decls history → IsConfig (state_of decls history).data

-- Where the opening data is valid and no call of a history is refused, the data after it is valid.
abbrev pub DataIsValid : Type 0
DataIsValid =
    (decls : Decls) (history : List Call)
    → broken_of decls.data_schema (opening_data decls.names decls.data) ≡ None
    → IsUnrefused decls (opening decls) history
    → broken_of decls.data_schema (state_of decls history).data ≡ None

-- No call changes what stands in the list of the devices: the data keeps the entries of the declared devices, and gets
-- no other ones.
abbrev pub DevicesStay : Type 0
DevicesStay =
    (decls : Decls) (history : List Call) (path : List PathStep)
    → AreActions decls history → is_kept path ≡ true
    → get (state_of decls history).data path ≡ get (opening_data decls.names decls.data) path

-- at each path the item that some living service writes there, else the base's
pub record IsOverlay (live : List Service) (device : ℕ) (base tree : Config) : Type 0 where
  pub written :
      (service : Service) (path : List PathStep) (item : Item)
      → Contains live service → get (part service device) path ≡ Some item → get tree path ≡ Some item
  pub others :
      (path : List PathStep) → ((service : Service) → Contains live service → get (part service device) path ≡ None)
      → get tree path ≡ get base path

-- Where no call of a history is refused, the tree of each device is one configuration: the overlay of what lives on its
-- base, and no other one is.
abbrev pub OverlayIsOne : Type 0
OverlayIsOne =
    (decls : Decls) (history : List Call) (device : ℕ) → IsUnrefused decls (opening decls) history
    → let state = state_of decls history in
    IsOverlay state.live device (config_of state.bases device) (tree_due state device)
    × ((tree : Config) → IsOverlay state.live device (config_of state.bases device) tree → tree ≡ tree_due state device)

-- none of the call's actions names this service
abbrev pub NamesOther : List ℕ → Call → Type 0
NamesOther id call = is_service_among call.actions id ≡ false

-- the call makes a literal service, and does nothing else
abbrev pub Creates : Call → List ℕ → List DevicePut → Type 0
Creates call id writes = call.actions ≡ Literal id writes ∷ []

-- the call deletes a service, and does nothing else
abbrev pub Deletes : Call → List ℕ → Type 0
Deletes call id = call.actions ≡ Delete id ∷ []

-- Deleting a literal service, whose name is no path's text, leaves the state, and so each device's tree, as if it had
-- never been created: whatever calls that don't name it came between.
abbrev pub DeletedWithoutTrace : Type 0
DeletedWithoutTrace =
    (decls : Decls) (state : Datastore) (before between : List Call) (create delete : Call)
    (id : List ℕ) (writes : List DevicePut)
    → Creates create id writes → Deletes delete id → path_of id ≡ None
    → lives (fold_from decls state before).live id ≡ false → All (NamesOther id) between
    → fold_from decls state (before ++ create ∷ [] ++ between ++ delete ∷ [])
    ≡ fold_from decls state (before ++ between)

-- Nor is a call refused for lack of it: where no call of a history is refused, none is without the two, whatever calls
-- come later.
abbrev pub UnrefusedWithoutTrace : Type 0
UnrefusedWithoutTrace =
    (decls : Decls) (state : Datastore) (before between later : List Call) (create delete : Call)
    (id : List ℕ) (writes : List DevicePut)
    → Creates create id writes → Deletes delete id → path_of id ≡ None → All (NamesOther id) between
    → IsUnrefused decls state (before ++ create ∷ [] ++ between ++ delete ∷ [] ++ later)
    → IsUnrefused decls state (before ++ between ++ later)

-- So a legal history is legal without the two, and leaves the same state.
abbrev pub LegalWithoutTrace : Type 0
LegalWithoutTrace =
    (decls : Decls) (before between later : List Call) (create delete : Call) (id : List ℕ) (writes : List DevicePut)
    → Creates create id writes → Deletes delete id → All (NamesOther id) between
    → let whole = before ++ create ∷ [] ++ between ++ delete ∷ [] ++ later in
    let without = before ++ between ++ later in
    IsLegal decls whole → IsLegal decls without × (state_of decls whole ≡ state_of decls without)

-- each service of a state lives in another one too
abbrev pub LivesIn : Datastore → Datastore → Type 0
LivesIn one other = (service : Service) → Contains one.live service → Contains other.live service

-- The tree of a device doesn't depend on the order in which the services that live now were created: two histories that
-- leave the same services alive, and the same base of a device, leave the same tree of it.
abbrev pub OrderOfCreationIsFree : Type 0
OrderOfCreationIsFree =
    (decls : Decls) (one other : List Call) (device : ℕ)
    → let state = state_of decls one in
    let state' = state_of decls other in
    IsUnrefused decls (opening decls) one → IsUnrefused decls (opening decls) other
    → LivesIn state state' → LivesIn state' state → config_of state.bases device ≡ config_of state'.bases device
    → tree_due state device ≡ tree_due state' device
