-- What is kept of a world by every event: the devices as the crash invariant has them, and the hub. (For proofs alone.)
use Rattle.orc_path.specs.Configurations.{Config}
use Rattle.std.specs.Prelude.{◌≡◌, ◌≢◌, ℕ, nat_eq, ◌&&◌, ◌||◌, Bool, true, false, IsTrue, Option, Some, None, List, [], ◌∷◌, ◌++◌, map, filter, All, slice_get, if◌then◌else◌}
use Rattle.std.specs.List.{find, list_any}
use Rattle.std.specs.Option.{option_map}
use Rattle.orc_call.specs.declared.answer.Why.{Why}
use Rattle.orc_call.specs.declared.call.Call.{Call}
use Rattle.orc_device.specs.Nodes.{NodeState}
use Rattle.orc_device.specs.declared.kind.OpKind.{OpKind}
use Rattle.orc_device.specs.declared.reply.Reply.{Reply}
use Rattle.orc_journal.specs.Committed.{call_of, history_of}
use Rattle.orc_journal.specs.Laws.{IsUnnamed, MayFollow}
use Rattle.orc_journal.specs.Orders.{is_ordered}
use Rattle.orc_journal.specs.declared.entry.Entry.{Entry}
use Rattle.orc_journal.specs.declared.entry.Entry.TheVariants as entry
use Rattle.orc_plans.specs.Plans.{IsValidWith, StandsOn}
use Rattle.orc_queue.specs.Fitting.{FitTogether}
use Rattle.orc_recover.specs.declared.stage.MendStage.{MendStage}
use Rattle.orc_recover.specs.declared.stage.MendStage.TheVariants as stage
use Rattle.orc_decls.specs.Calls.{is_call}
use Rattle.orc_datastore.specs.Legal.{IsLegal, IsNew, IsSame, state_of}
use Rattle.orc_datastore.specs.Plans.{call_held}
use Rattle.orc_datastore.specs.States.{Datastore}
use Rattle.orc_decls.specs.declared.declarations.Decls.{Decls}
use Rattle.orc_datastore.specs.declared.plan.Plan.{Plan}
use Rattle.orc_worker.specs.declared.stage.Stage.{Stage}
use Rattle.orc_rules.specs.Cells.{DeviceRole}
use Rattle.orc_rules.specs.Cells.DeviceRole.{Free, Works, Mends}
use Rattle.orc_rules.specs.Duties.{duty_took, is_over, stale_by}
use Rattle.orc_rules.specs.Hubs.{Hub, duty_on}
use Rattle.orc_rules.specs.Journals.{HoldsEntries, IsReadBack, Journal, entries_read}
use Rattle.orc_rules.specs.Network.{Plan as Named, Local, Network, Kept, intent_seen}
use Rattle.orc_rules.specs.Standing.{AreFit, IsAdmitted, IsWaiting}
use Rattle.orc_rules.specs.Told.{Told, named_call, told_by}
use Rattle.orc_rules.specs.Transactions.{is_preparing, is_settling, is_told}
use Rattle.orc_rules.specs.Works.{Intent, Mend, Mend as mend}
use Rattle.orc_rules.specs.Worlds.{Link, Setting, World, over}
use Rattle.orc_rules.specs.declared.duty.Duty.{Duty}
use Rattle.orc_rules.specs.declared.duty.Duty.TheVariants as duty
use Rattle.orc_rules.specs.declared.transaction.Phase.{Phase}
use Rattle.orc_rules.specs.declared.transaction.Transaction.{Transaction}
use Rattle.orc_rules.specs.declared.transaction.Waiting.{Waiting}

-- plans after histories

-- the state after the calls of a history that call blocks give
abbrev pub lawful_state : Decls → List Call → Datastore
lawful_state decls history = state_of decls (filter (is_call decls) history)

-- a call with its devices stands after a history: made afresh there, its plan holds these devices
pub record StandsAt (decls : Decls) (history : List Call) (one : Named Call) : Type 0 where
  pub lawful : is_call decls one.call ≡ true
  pub plan : Plan
  pub stands : StandsOn decls (lawful_state decls history) one.call plan
  pub names : (device : ℕ) → one.names device ≡ list_any (nat_eq device) plan.held.devices

-- what two calls hold there fits together
abbrev pub FitAt : Decls → List Call → Named Call → Named Call → Type 0
FitAt decls history one other =
    FitTogether (call_held decls (lawful_state decls history) one.call)
    (call_held decls (lawful_state decls history) other.call)

-- the data is valid there with the call
abbrev pub ValidAt : Decls → List Call → Named Call → Type 0
ValidAt decls history one = IsValidWith decls (lawful_state decls history) one.call

-- devices

-- where a mender stands, as a role has it
abbrev pub mend_at : List ℕ → MendStage → Option Mend
mend_at left stage.Opening = Some (mend.Mopening left)
mend_at left stage.Resolving = Some (mend.Mresolving left)
mend_at left (stage.LockingRunning read) = Some (mend.MlockingRunning read)
mend_at left (stage.LockingCandidate read) = Some (mend.MlockingCandidate read)
mend_at left (stage.Editing read) = Some (mend.Mediting read)
mend_at left stage.Validating = Some mend.Mvalidating
mend_at left stage.Committing = Some mend.Mcommitting
mend_at left stage.UnlockingCandidate = Some mend.MunlockingCandidate
mend_at left stage.UnlockingRunning = Some mend.MunlockingRunning
mend_at left stage.Closing = Some mend.Mclosing
mend_at left stage.Over = None

-- what is done on a device by a mender that stands there, if it does
abbrev pub mends_at : Option Mend → DeviceRole Call
mends_at None = Free
mends_at (Some at) = Mends at

-- what is done on a device by a worker of this intent at a stage: nothing once it has ended
abbrev pub works_at : Option (Intent Call) → Stage → DeviceRole Call
works_at None at = Free
works_at (Some intent) at = if is_over at then Free else Works intent at

-- what is done on a device, as the crash invariant has it: who has ended does nothing
abbrev pub role_of : (List Call → Config) → Told → ℕ → Duty → DeviceRole Call
role_of over told device duty.Free = Free
role_of over told device (duty.Works worker) =
    works_at (intent_seen over device worker.t (told.intents worker.t)) worker.stage
role_of over told device (duty.Mends mender) = mends_at (mend_at (map (λ one. one.0) mender.left) mender.stage)

-- The hub hears of an operation later than it happens. This is what it will know.
abbrev pub heard : Option (OpKind × Reply) → ℕ → Duty → Duty
heard None faults on = on
heard (Some one) faults on = duty_took on one.1 faults

-- why the device will be stale once the hub has heard
abbrev pub stale_then : Option (OpKind × Reply) → ℕ → Duty → Option Why → Option Why
stale_then None faults on before = before
stale_then (Some one) faults on before = stale_by on one.1 faults before

-- there is a cause, or the device isn't declared
abbrev pub is_stale : Option (Option Why) → Bool
is_stale (Some None) = false
is_stale other = true

-- For which transactions a device did what their settling asks, and the prefix of the history that it came to last.
-- (The world doesn't have these; the proofs do.)
pub record Shadow : Type 0 where
  pub clear : ℕ → Bool
  pub at : ℕ

-- a transaction's call with the devices that it holds
abbrev pub plan_of : Transaction → Named Call
plan_of it = named_call it.call it.plan.held.devices

-- the plan of the transaction of this number that prepares under the hub
abbrev pub active_under : Option Hub → ℕ → Option (Named Call)
active_under None t = None
active_under (Some hub) t = option_map plan_of (find (λ it. nat_eq it.t t && is_preparing it.phase) hub.active)

module _ (decls : Decls) (shadow : ℕ → Shadow) (entries : List Entry) where
  -- what is done on a device, with what the hub will know
  abbrev pub role_on : Option Hub → ℕ → Link → DeviceRole Call
  role_on None device link = Free
  role_on (Some hub) device link =
      role_of (over decls device) (told_by entries) device (heard link.unheard link.faults (duty_on hub.duties device))

  -- whether the device is stale, with what the hub will know; without a hub each is
  abbrev pub stale_on : Option Hub → ℕ → Link → Bool
  stale_on None device link = true
  stale_on (Some hub) device link =
      is_stale (option_map (stale_then link.unheard link.faults (duty_on hub.duties device))
      (slice_get hub.stale device))

  -- a device's own part
  abbrev pub local_of : Option Hub → ℕ → NodeState → Link → Local Call
  local_of hub device node link = record {
    node = node;
    session = link.session;
    clear = (shadow device).clear;
    role = role_on hub device link;
    stale = stale_on hub device link;
    at = (shadow device).at;
  }

  -- the network of a world: what its entries say as they are read, what the hub has active, and the devices
  abbrev pub network_of : Option Hub → (ℕ → NodeState) → (ℕ → Link) → Network Call
  network_of hub nodes links = record {
    history = (told_by entries).history;
    place = (told_by entries).place;
    intents = (told_by entries).intents;
    active = active_under hub;
    locals = λ device. local_of hub device (nodes device) (links device);
  }

-- the network of a world
abbrev pub network : {D : Type 0} → Decls → (ℕ → Shadow) → World D → Network Call
network decls shadow world = network_of decls shadow (entries_read world.journal) world.hub world.nodes world.links

-- the crash invariant holds of a network
abbrev pub NetworkKept : Decls → Network Call → Type 0
NetworkKept decls network = Kept (over decls) (StandsAt decls) (FitAt decls) (ValidAt decls) network

-- the hub

-- it is so of each transaction that isn't decided
abbrev pub EachPreparing : (Transaction → Type 0) → List Transaction → Type 0
EachPreparing P active =
    (place : ℕ) (it : Transaction) → slice_get active place ≡ Some it → is_preparing it.phase ≡ true → P it

-- the journal has the intent of the transaction, and its decision may follow
pub record IsOpenIn (entries : List Entry) (it : Transaction) : Type 0 where
  pub call : call_of it.t entries ≡ Some it.call
  pub undecided : MayFollow entries (entry.Decide it.t)

-- its workers go on after the decision, or have ended and it is to be settled
abbrev pub is_unsettled : Phase → Bool
is_unsettled phase = is_told phase || is_settling phase

-- two calls that wait have other numbers and other callers
abbrev pub AreWaitingApart : List Waiting → Type 0
AreWaitingApart [] = Unit {0}
AreWaitingApart (one ∷ later) =
    All (λ other. (one.t ≢ other.t) × (one.call.caller ≢ other.call.caller)) later × AreWaitingApart later

-- What is kept of a hub that is up, over the entries that a read gives and their history: each call under way without
-- its decision has its Intent, and may get its Decide; each that is to be settled may be; what waits has no entry.
pub record HubKept (decls : Decls) (entries : List Entry) (history : List Call) (active : List Transaction)
    (waiting : List Waiting) (taken : ℕ → Bool) : Type 0 where
  pub intents : EachPreparing (IsOpenIn entries) active
  pub settle : (place : ℕ) (it : Transaction) → slice_get active place ≡ Some it → is_unsettled it.phase ≡ true
      → MayFollow entries (entry.Settled it.t)
  pub admitted : EachPreparing (IsAdmitted decls history) active
  pub fresh : EachPreparing (λ it. IsNew history it.call) active
  pub fit : AreFit active
  pub apart : (place place' : ℕ) (it other : Transaction) → slice_get active place ≡ Some it
      → slice_get active place' ≡ Some other → is_preparing it.phase ≡ true → is_preparing other.phase ≡ true
      → (it.t ≡ other.t → ⊥) → IsSame other.call it.call → ⊥
  pub waits_apart : EachPreparing (λ it. All (λ one. it.call.caller ≢ one.call.caller) waiting) active
  pub waits : All (IsWaiting decls history) waiting
  pub unused : All (λ one. IsUnnamed entries one.t) waiting
  pub numbered : All (λ one. taken one.t ≡ true) waiting
  pub waiting_apart : AreWaitingApart waiting

-- the journal

-- each prefix of a row, after these entries, leaves them in order, and their history legal
abbrev pub FrontsAre : Decls → List Entry → List Entry → Type 0
FrontsAre decls entries row = (done rest : List Entry) → row ≡ done ++ rest
    → IsTrue (is_ordered (entries ++ done)) × IsLegal decls (history_of (entries ++ done))

module _ {D : Type 0} (here : Setting D) where
  -- What the disk holds; and each image is one of two legal journals: what is synced, and that with the cut entry.
  pub record JournalKept (journal : Journal D) : Type 0 where
    pub holds : HoldsEntries here.disk here.decls.text here.limit journal
    pub fronts : FrontsAre here.decls journal.synced journal.cut
    pub read_back : IsReadBack here.disk here.decls.text here.limit here.granted journal.disk

  -- The part of what is kept that says nothing of devices: the journal, and under a hub that is up nothing is cut.
  pub record HistoryKept (world : World D) : Type 0 where
    pub journal : JournalKept world.journal
    pub hub : (hub : Hub) → world.hub ≡ Some hub
        → (world.journal.cut ≡ [])
        × HubKept here.decls world.journal.synced (history_of world.journal.synced) hub.active hub.waiting hub.given
