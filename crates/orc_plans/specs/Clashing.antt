-- How services that live together agree, and which clash refuses a call.
use Rattle.std.specs.Prelude.{◌≡◌, ℕ, ◌≤◌, List, Contains, MatchOption, slice_get}
use Rattle.std.specs.declared.option.Option.TheVariants.{Some}
use Rattle.std.specs.declared.cmp.Ordering.TheVariants.{Less}
use Rattle.std.specs.FinMap.{get}
use Rattle.orc_path.specs.Steps.{PathStep}
use Rattle.orc_path.specs.Order.{path_cmp, text_cmp}
use Rattle.orc_path.specs.declared.item.Item.{Item}
use Rattle.orc_call.specs.declared.answer.Answer.TheVariants.{Clash}
use Rattle.orc_call.specs.declared.call.Action.{Action}
use Rattle.orc_call.specs.declared.call.Call.{Call}
use Rattle.orc_datastore.specs.Actions.{live_after, touched}
use Rattle.orc_datastore.specs.Clashes.{IsClash}
use Rattle.orc_datastore.specs.Histories.{IsUnrefused}
use Rattle.orc_datastore.specs.Legal.{state_of}
use Rattle.orc_datastore.specs.Next.{clash}
use Rattle.orc_datastore.specs.States.{opening, part}
use Rattle.orc_datastore.specs.declared.service.Service.{Service}
use Rattle.orc_decls.specs.declared.declarations.Decls.{Decls}

-- two services write no unequal items at one path of a device
abbrev pub Agree : Service → Service → Type 0
Agree one other =
    (device : ℕ) (path : List PathStep) (item item' : Item)
    → get (part one device) path ≡ Some item → get (part other device) path ≡ Some item' → item ≡ item'

-- no two of the services write unequal items at one path of a device
abbrev pub AllAgree : List Service → Type 0
AllAgree live = (one other : Service) → Contains live one → Contains live other → Agree one other

-- Where no call of a history is refused, the services that it leaves alive agree.
abbrev pub ServicesAgree : Type 0
ServicesAgree =
    (decls : Decls) (history : List Call) → IsUnrefused decls (opening decls) history
    → AllAgree (state_of decls history).live

-- There is a clash of the service at a place among these, and there is none of them on a lesser device, nor at a lesser
-- path of that device, nor of one before it there, nor of it with a lesser name there.
pub record IsLeastClash (services live : List Service) (device : ℕ) (path : List PathStep) (id : List ℕ) : Type 0 where
  pub place : ℕ
  pub service : Service
  pub there : slice_get services place ≡ Some service
  pub rival : Service
  pub named : rival.id ≡ id
  pub clash : IsClash live device path service rival
  pub least_device :
      (device' : ℕ) (path' : List PathStep) (service' rival' : Service)
      → Contains services service' → IsClash live device' path' service' rival' → device ≤ device'
  pub least_path :
      (path' : List PathStep) (service' rival' : Service)
      → Contains services service' → IsClash live device path' service' rival' → path_cmp path' path ≡ Less → ⊥
  pub first :
      (place' : ℕ) (service' rival' : Service)
      → slice_get services place' ≡ Some service' → IsClash live device path service' rival' → place ≤ place'
  pub least_name :
      (rival' : Service) → IsClash live device path service rival' → text_cmp rival'.id id ≡ Less → ⊥

-- The clash that refuses a call is the least one between the services that it names and the others that live after it,
-- and where no clash refuses it there is none.
abbrev pub ClashIsLeast : Type 0
ClashIsLeast =
    (names : List (List ℕ)) (before : List Service) (actions : List Action)
    → let live = live_after names actions before in
    let services = touched actions live in
    MatchOption (clash names before actions)
    ((device : ℕ) (path : List PathStep) (service rival : Service)
    → Contains services service → IsClash live device path service rival → ⊥)
    (λ answer.
    (device : ℕ) × (path : List PathStep) × (id : List ℕ)
    × (answer ≡ Clash device path id) × IsLeastClash services live device path id)
