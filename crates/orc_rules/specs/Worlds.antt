-- The world: the journal, the hub, each device and the link to it; and which of its facts answers need.
use Rattle.orc_path.specs.Configurations.{Config}
use Rattle.std.specs.Prelude.{◌≡◌, ◌≢◌, ◌⊎◌, ◌↔◌, ℕ, ◌+◌, ◌<◌, ◌≤◌, nat_lt, Bool, true, false, Option, Some, None, List, [], ◌∷◌, All, Contains, Err, filter, take, slice_get, length, is_some, if◌then◌else◌}
use Rattle.std.specs.FinMap.{empty}
use Rattle.std.specs.List.{list_all, range_with_len}
use Rattle.std.specs.Option.{option_map_or}
use Rattle.orc_call.specs.declared.call.Call.{Call}
use Rattle.orc_call.specs.declared.answer.Answer.{Answer}
use Rattle.orc_call.specs.declared.answer.Answer.TheVariants as answer
use Rattle.orc_call.specs.declared.answer.Why.{Why}
use Rattle.orc_device.specs.Nodes.{DeviceKind, NodeState, dropped}
use Rattle.orc_device.specs.declared.kind.OpKind.{OpKind}
use Rattle.orc_device.specs.declared.kind.When.{When}
use Rattle.orc_device.specs.declared.reply.Reply.{Reply}
use Rattle.orc_disk.specs.Meanings.{DiskMeaning}
use Rattle.orc_journal.specs.Laws.{IsUnnamed}
use Rattle.orc_journal.specs.declared.entry.Entry.{Entry}
use Rattle.orc_decls.specs.Calls.{is_call}
use Rattle.orc_datastore.specs.Legal.{IsNew, IsSame, state_of}
use Rattle.orc_datastore.specs.Plans.{planned}
use Rattle.orc_decls.specs.Devices.{is_same_text}
use Rattle.orc_datastore.specs.States.{tree_due}
use Rattle.orc_decls.specs.declared.declarations.Decls.{Decls}
use Rattle.orc_rules.specs.Asked.{open_of}
use Rattle.orc_rules.specs.Hubs.{Hub}
use Rattle.orc_rules.specs.Journals.{Journal}
use Rattle.orc_rules.specs.Told.{Told}
use Rattle.orc_rules.specs.Transactions.{is_preparing}
use Rattle.orc_rules.specs.declared.duty.Duty.{Duty}
use Rattle.orc_rules.specs.declared.transaction.Phase.{Phase}
use Rattle.orc_rules.specs.declared.transaction.Phase.TheVariants as phase

-- Where a run takes place: what the disk reports, what is declared, what each device accepts, the most bytes of a
-- journal, and whether it is taken for granted that a journal that is opened again reads what was written. (Over a disk
-- that reports what it holds that is so, granted or not. Nobody reports what a file holds.)
pub record Setting (D : Type 0) : Type 1 where
  pub disk : DiskMeaning D
  pub decls : Decls
  pub kinds : ℕ → DeviceKind
  pub limit : ℕ
  pub granted : Bool

-- a link: its session, 0 before the first; its listed faults, the count of those that came, and what was replied to an
-- operation that the hub hasn't heard of yet
pub record Link : Type 0 where
  pub session : ℕ
  pub listed : List (OpKind × When)
  pub faults : ℕ
  pub unheard : Option (OpKind × Reply)

-- the world: the journal on its disk, the hub where one is up, the front of each caller's snapshot, the devices, and the
-- links to them
pub record World (D : Type 0) : Type 0 where
  pub journal : Journal D
  pub hub : Option Hub
  pub snapshots : List ℕ → Option ℕ
  pub nodes : ℕ → NodeState
  pub links : ℕ → Link

-- The tree due on a device after a history. (The calls that no call block can give, of which a journal has none, are
-- left out, so that it is a configuration after every list.)
abbrev pub over : Decls → ℕ → List Call → Config
over decls device history =
    if nat_lt device (length decls.names) then tree_due (state_of decls (filter (is_call decls) history)) device
    else empty

-- the numbers of the declared devices
abbrev pub declared : Decls → List ℕ
declared decls = range_with_len 0 (length decls.names)

-- hubs

-- a hub over a journal that was opened: nothing is under way, and each device is stale for this cause, if for one
abbrev pub new_hub : List Duty → List (Option Why) → Hub
new_hub duties stale =
    record { waiting = []; active = []; duties = duties; stale = stale; asked = []; given = λ t. false; mends = None }

-- with a snapshot of a caller, or without one
abbrev pub with_snapshot : (List ℕ → Option ℕ) → List ℕ → Option ℕ → List ℕ → Option ℕ
with_snapshot snapshots caller front other = if is_same_text other caller then front else snapshots other

-- what was replied is heard by nobody
abbrev pub unheard_of : Link → Link
unheard_of link = record link { unheard = None }

-- No hub is up: what was replied is heard by nobody, and no caller has a snapshot.
abbrev pub without_hub : {D : Type 0} → World D → World D
without_hub world =
    record world { hub = None; snapshots = λ caller. None; links = λ device. unheard_of (world.links device) }

-- the controller stopped, and its sessions ended
abbrev pub stopped : {D : Type 0} → World D → World D
stopped world = record (without_hub world) { nodes = λ device. dropped (world.nodes device) }

-- a transaction in this phase has no worker at work, and its Settled isn't due
abbrev pub is_over : Phase → Bool
is_over phase.Left = true
is_over other = false

-- nothing waits, no transaction has anything due, and no reconciliation is begun
abbrev pub IsIdle : Hub → Type 0
IsIdle hub = (hub.waiting ≡ []) × (list_all (λ it. is_over it.phase) hub.active ≡ true) × (hub.mends ≡ None)

-- entries

-- the call is the entry of this number; entries are counted from 1 on
pub record IsNumberedEntry (history : List Call) (number : ℕ) (call : Call) : Type 0 where
  pub index : ℕ
  pub counted : number ≡ index + 1
  pub there : slice_get history index ≡ Some call

-- no call of this caller waits, and none is under way without its decision
pub record HasNoneOf (hub : Hub) (caller : List ℕ) : Type 0 where
  pub waits : All (λ one. one.call.caller ≢ caller) hub.waiting
  pub prepares : All (λ it. is_preparing it.phase ≡ true → it.call.caller ≢ caller) hub.active

-- A call is answered as it is submitted to a hub that is up: Busy, a repeated number, or what refuses its plan, in this
-- order, or that memory runs out.
pub data AnswersSubmission (decls : Decls) (hub : Hub) (history : List Call) (call : Call) (front : ℕ) : Answer
    → Type 0 where
  busy : (number : ℕ) → open_of hub.asked call.caller ≡ Some number
      → AnswersSubmission decls hub history call front (answer.Busy number)
  again : (number : ℕ) → open_of hub.asked call.caller ≡ None → IsNumberedEntry history number call
      → AnswersSubmission decls hub history call front (answer.Committed number)
  reused : (number : ℕ) (entry : Call) → open_of hub.asked call.caller ≡ None
      → IsNumberedEntry history number entry → IsSame entry call → entry ≢ call
      → AnswersSubmission decls hub history call front (answer.Reused number)
  refuses : (given : Answer) → open_of hub.asked call.caller ≡ None → IsNew history call
      → planned decls (state_of decls (take front history)) front call ≡ Err given
      → AnswersSubmission decls hub history call front given
  wanting : AnswersSubmission decls hub history call front answer.Memory

-- the number is the least from 1 on that the hub gave to none and that no entry has
pub record IsNextNumber (hub : Hub) (entries : List Entry) (t : ℕ) : Type 0 where
  pub positive : 1 ≤ t
  pub new : hub.given t ≡ false
  pub unused : IsUnnamed entries t
  pub least : (lower : ℕ) → 1 ≤ lower → lower < t → (hub.given lower ≡ true) ⊎ (IsUnnamed entries lower → ⊥)

-- each number is below all later ones
abbrev pub DoAscend : List ℕ → Type 0
DoAscend [] = Unit {0}
DoAscend (number ∷ later) = All (λ other. number < other) later × DoAscend later

-- these are the unsettled transactions that a journal reports, in order of their numbers
pub record AreUnsettled (told : Told) (numbers : List ℕ) : Type 0 where
  pub ascending : DoAscend numbers
  pub all : (t : ℕ) → Contains numbers t ↔ (told.intents t ≢ None)

-- those of these transactions whose Intent names the device
abbrev pub numbers_naming : Told → ℕ → List ℕ → List ℕ
numbers_naming told device numbers =
    filter (λ t. option_map_or (λ noted. noted.plan.names device) (told.intents t) false) numbers

-- a transaction with whether it is decided
abbrev pub to_resolve : Told → ℕ → ℕ × Bool
to_resolve told t = (t, is_some (told.place t))
