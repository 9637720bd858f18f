-- What is kept of who is served under a hub: each open call is one that waits or is under way, and each that is under way
-- has its workers. (For proofs alone, and for who runs a script.)
use Rattle.std.specs.Prelude.{◌≡◌, ℕ, nat_eq, Bool, true, false, not, ◌&&◌, List, Some, None, slice_get}
use Rattle.std.specs.List.{list_any}
use Rattle.orc_worker.specs.Workers.{has_outcome, is_waiting}
use Rattle.orc_worker.specs.declared.stage.Stage.{Stage}
use Rattle.orc_worker.specs.declared.worker.Worker.{Worker}
use Rattle.orc_rules.specs.Hubs.{Hub, duty_on}
use Rattle.orc_rules.specs.Transactions.{are_over, is_preparing, is_told, nothing_held}
use Rattle.orc_rules.specs.UnderHub.{is_under_way}
use Rattle.orc_rules.specs.Worlds.{World}
use Rattle.orc_rules.specs.declared.asked.Asked.{Asked}
use Rattle.orc_rules.specs.declared.duty.Duty.{Duty}
use Rattle.orc_rules.specs.declared.duty.Duty.TheVariants as duty
use Rattle.orc_rules.specs.declared.transaction.Transaction.{Transaction}
use Rattle.orc_rules.specs.declared.transaction.Waiting.{Waiting}

-- a call that waits, or is under way without its decision, and is answered at this place
pub data IsAsking (waiting : List Waiting) (active : List Transaction) (place : ℕ) : Type 0 where
  asks_waiting : (i : ℕ) (one : Waiting) → slice_get waiting i ≡ Some one → one.asker ≡ place
      → IsAsking waiting active place
  asks_preparing : (i : ℕ) (it : Transaction) → slice_get active i ≡ Some it → is_preparing it.phase ≡ true
      → it.asker ≡ place → IsAsking waiting active place

-- each caller and number with a call open has such a call
abbrev pub EachOpenAsks : List Asked → List Waiting → List Transaction → Type 0
EachOpenAsks asked waiting active = (place : ℕ) (one : Asked) → slice_get asked place ≡ Some one
    → one.is_open ≡ true → IsAsking waiting active place

-- a worker is past preparing, with its outcome, and doesn't wait for the decision
abbrev pub is_going : Stage → Bool
is_going stage = has_outcome stage && not (is_waiting stage)

-- the device works for the transaction; once that is decided its worker goes on
pub record HasWorker (duties : List Duty) (it : Transaction) (device : ℕ) : Type 0 where
  pub worker : Worker
  pub there : duty_on duties device ≡ duty.Works worker
  pub number : worker.t ≡ it.t
  pub goes : is_told it.phase ≡ true → is_going worker.stage ≡ true

-- each transaction under way has a worker on each of its devices
abbrev pub EachWorks : List Duty → List Transaction → Type 0
EachWorks duties active = (i : ℕ) (it : Transaction) → slice_get active i ≡ Some it → is_under_way it.phase ≡ true
    → (device : ℕ) → list_any (nat_eq device) it.plan.held.devices ≡ true → HasWorker duties it device

-- each that is decided or aborted, and under way, has work left
abbrev pub EachGoes : List Duty → List Transaction → Type 0
EachGoes duties active = (i : ℕ) (it : Transaction) → slice_get active i ≡ Some it → is_told it.phase ≡ true
    → are_over duties it.t it.plan.held.devices ≡ false

-- each whose work has ended holds nothing
abbrev pub EachEndedIsEmpty : List Transaction → Type 0
EachEndedIsEmpty active = (i : ℕ) (it : Transaction) → slice_get active i ≡ Some it
    → is_under_way it.phase ≡ false → it.plan.held ≡ nothing_held

-- what is kept of these lists
pub record ServesEach (waiting : List Waiting) (active : List Transaction) (duties : List Duty) (asked : List Asked)
    : Type 0 where
  pub asks : EachOpenAsks asked waiting active
  pub works : EachWorks duties active
  pub goes : EachGoes duties active
  pub empty : EachEndedIsEmpty active

-- of a hub
abbrev pub ServesHub : Hub → Type 0
ServesHub hub = ServesEach hub.waiting hub.active hub.duties hub.asked

-- of the hub of a world, where one is up
abbrev pub ServesWorld : {D : Type 0} → World D → Type 0
ServesWorld world = (hub : Hub) → world.hub ≡ Some hub → ServesHub hub

-- no reconciliation is begun and unfinished
abbrev pub IsRested : {D : Type 0} → World D → Type 0
IsRested world = (hub : Hub) → world.hub ≡ Some hub → hub.mends ≡ None
