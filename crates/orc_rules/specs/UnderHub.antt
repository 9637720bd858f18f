-- What is kept of the work on devices under a hub that is up. (For proofs alone.)
use Rattle.std.specs.Prelude.{◌≡◌, ◌⊎◌, ℕ, Bool, true, false, nat_eq, nat_lt, Option, Some, None, List, ◌∷◌, [], ◌++◌, length, slice_get}
use Rattle.std.specs.List.{list_any}
use Rattle.orc_call.specs.declared.answer.RecFault.{RecFault}
use Rattle.orc_call.specs.declared.answer.Why.{Why}
use Rattle.orc_call.specs.declared.call.Call.{Call}
use Rattle.orc_decls.specs.declared.declarations.Decls.{Decls}
use Rattle.orc_device.specs.Nodes.{DeviceKind, NodeState}
use Rattle.orc_path.specs.Configurations.{Config}
use Rattle.orc_tree.specs.Changes.{applied}
use Rattle.orc_tree.specs.Sameness.{equal_configs}
use Rattle.orc_tree.specs.declared.change.ChangeSet.{ChangeSet}
use Rattle.orc_device.specs.declared.kind.OpKind.{OpKind}
use Rattle.orc_device.specs.declared.reply.Reply.{Reply}
use Rattle.orc_journal.specs.Laws.{HasIntent}
use Rattle.orc_journal.specs.declared.entry.Entry.{Entry}
use Rattle.orc_recover.specs.Menders.{MenderState, differences, is_mending}
use Rattle.orc_recover.specs.declared.stage.MendStage.TheVariants as mend_stage
use Rattle.orc_worker.specs.declared.worker.Worker.{Worker}
use Rattle.orc_rules.specs.Agreement.{mender_of}
use Rattle.orc_rules.specs.Courses.{agrees, stands_undecided, is_clear}
use Rattle.orc_rules.specs.Duties.{is_busy, is_over}
use Rattle.orc_rules.specs.Hubs.{Hub, duty_on}
use Rattle.orc_rules.specs.Journals.{entries_read}
use Rattle.orc_rules.specs.Kept.{NetworkKept, Shadow, heard, network, network_of, plan_of}
use Rattle.orc_rules.specs.Network.{Noted}
use Rattle.orc_rules.specs.Told.{told_by}
use Rattle.orc_rules.specs.Transactions.{is_preparing, is_settling}
use Rattle.orc_rules.specs.Works.{Mend}
use Rattle.orc_rules.specs.Worlds.{Link, World, over}
use Rattle.orc_rules.specs.declared.duty.Duty.{Duty}
use Rattle.orc_rules.specs.declared.duty.Duty.TheVariants as duty
use Rattle.orc_rules.specs.declared.transaction.Phase.{Phase}
use Rattle.orc_rules.specs.declared.transaction.Phase.TheVariants as phase
use Rattle.orc_rules.specs.declared.transaction.Transaction.{Transaction}

-- A kind of device says which trees are equal, and the way from one tree to another, as the hub's menders and workers
-- do; and a set of changes does there what it says.
pub record IsOfHub (kind : DeviceKind) : Type 0 where
  pub same : kind.same ≡ equal_configs
  pub between : kind.between ≡ differences
  pub changed : (set : ChangeSet) (config : Config) → kind.changed set config ≡ applied set.changes config

-- some worker of it hasn't ended
abbrev pub is_under_way : Phase → Bool
is_under_way phase.Preparing = true
is_under_way phase.Decided = true
is_under_way phase.Aborted = true
is_under_way phase.Settling = false
is_under_way phase.Left = false

module _ (decls : Decls) (entries : List Entry) where
  -- a transaction under way works on the device, and changes there what it is to change
  pub record IsOwned (active : List Transaction) (device : ℕ) (worker : Worker) : Type 0 where
    pub place : ℕ
    pub it : Transaction
    pub there : slice_get active place ≡ Some it
    pub number : it.t ≡ worker.t
    pub under_way : is_under_way it.phase ≡ true
    pub names : list_any (nat_eq device) it.plan.held.devices ≡ true
    pub noted : Noted Call
    pub known : (told_by entries).intents worker.t ≡ Some noted
    pub plan : noted.plan ≡ plan_of it
    pub set : worker.set ≡ differences (over decls device noted.base)
        (over decls device (noted.base ++ noted.plan.call ∷ []))

  -- a mender has ended, or stands where a reconciliation of the device does
  abbrev pub IsMenderOf : ℕ → MenderState → Type 0
  IsMenderOf device mender = (mender.stage ≡ mend_stage.Over)
      ⊎ ((mend : Mend)
      × (mender ≡ mender_of (told_by entries).place (over decls device (told_by entries).history) mend))

  -- in a reconciliation: no transaction is under way, and each declared device has its mender; where none has failed,
  -- those that have ended leave no device stale
  pub record AreMending (active : List Transaction) (duties : List Duty) (stale : List (Option Why))
      (met : Option RecFault)
      : Type 0 where
    pub left : (place : ℕ) (it : Transaction) → slice_get active place ≡ Some it → it.phase ≡ phase.Left
    pub all : (device : ℕ) → nat_lt device (length decls.names) ≡ true → (mender : MenderState)
        × (duty_on duties device ≡ duty.Mends mender)
    pub stand : (device : ℕ) (mender : MenderState) → duty_on duties device ≡ duty.Mends mender
        → IsMenderOf device mender
    pub done : met ≡ None → (device : ℕ) (mender : MenderState) → duty_on duties device ≡ duty.Mends mender
        → is_mending mender.stage ≡ false
        → slice_get stale device ≡ Some None

  -- without a reconciliation nobody mends a device; in one the menders are as they are to be
  abbrev pub MendingKept : List Transaction → List Duty → List (Option Why) → Option (Option RecFault) → Type 0
  MendingKept active duties stale None = (device : ℕ) (mender : MenderState)
      → duty_on duties device ≡ duty.Mends mender → ⊥
  MendingKept active duties stale (Some met) = AreMending active duties stale met

module _ (decls : Decls) (shadow : ℕ → Shadow) (entries : List Entry) where
  -- What is kept of the work on devices: a reply that isn't heard is to what is due; each worker stands where its outcome
  -- says, and works for a transaction under way, until it has ended; what is to be settled is resolved.
  pub record UnderHub (active : List Transaction) (duties : List Duty) (stale : List (Option Why))
      (mends : Option (Option RecFault))
      (links : ℕ → Link) : Type 0 where
    pub duties_sized : length duties ≡ length decls.names
    pub stale_sized : length stale ≡ length decls.names
    pub due : (device : ℕ) (one : OpKind × Reply) → (links device).unheard ≡ Some one
        → is_busy (duty_on duties device) ≡ true
    pub agree : (device : ℕ) (worker : Worker) → duty_on duties device ≡ duty.Works worker
        → agrees worker.stage worker.outcome ≡ true
    pub worked : (device : ℕ) (worker : Worker) → duty_on duties device ≡ duty.Works worker → HasIntent entries worker.t
    pub owned : (device : ℕ) (worker : Worker) → duty_on duties device ≡ duty.Works worker
        → is_over worker.stage ≡ false → IsOwned decls entries active device worker
    pub before : (place : ℕ) (it : Transaction) → slice_get active place ≡ Some it → is_preparing it.phase ≡ true
        → (device : ℕ) (worker : Worker) → duty_on duties device ≡ duty.Works worker → worker.t ≡ it.t
        → stands_undecided worker.stage worker.outcome ≡ true
    pub noted : (place : ℕ) (it : Transaction) → slice_get active place ≡ Some it → is_under_way it.phase ≡ true
        → (note : Noted Call) × ((told_by entries).intents it.t ≡ Some note) × (note.plan ≡ plan_of it)
    pub numbers : (place place' : ℕ) (it other : Transaction) → slice_get active place ≡ Some it
        → slice_get active place' ≡ Some other
        → it.t ≡ other.t → place ≡ place'
    pub intent : (place : ℕ) (it : Transaction) → slice_get active place ≡ Some it → HasIntent entries it.t
    pub clear : (device : ℕ) (worker : Worker)
        → heard (links device).unheard (links device).faults (duty_on duties device) ≡ duty.Works worker
        → is_clear worker.outcome ≡ true → (shadow device).clear worker.t ≡ true
    pub settling : (place : ℕ) (it : Transaction) → slice_get active place ≡ Some it → is_settling it.phase ≡ true
        → (device : ℕ) (note : Noted Call) → (told_by entries).intents it.t ≡ Some note → note.plan.names device ≡ true
        → (shadow device).clear it.t ≡ true
    pub mending : MendingKept decls entries active duties stale mends

-- of a hub as it is
abbrev pub Attends : Decls → (ℕ → Shadow) → List Entry → Hub → (ℕ → Link) → Type 0
Attends decls shadow entries hub links = UnderHub decls shadow entries hub.active hub.duties hub.stale hub.mends links

-- nothing is pending on a device that isn't declared
abbrev pub UndeclaredRest : Decls → (ℕ → NodeState) → Type 0
UndeclaredRest decls nodes = (device : ℕ) → nat_lt device (length decls.names) ≡ false → (nodes device).pending ≡ None

-- What is kept of devices: there is a network of which the crash invariant holds, and the work on them under a hub that
-- is up.
pub record DevicesKept {D : Type 0} (decls : Decls) (world : World D) : Type 0 where
  pub shadow : ℕ → Shadow
  pub kept : NetworkKept decls (network decls shadow world)
  pub silent : world.hub ≡ None → (device : ℕ) → (world.links device).unheard ≡ None
  pub under : (hub : Hub) → world.hub ≡ Some hub → Attends decls shadow (entries_read world.journal) hub world.links
  pub rests : UndeclaredRest decls world.nodes

-- After entries and an event it is kept, before the entries are known to be done.
pub record Leads {D : Type 0} (decls : Decls) (world : World D) (row : List Entry) (next : World D) : Type 0 where
  pub shadow : ℕ → Shadow
  pub kept : NetworkKept decls
      (network_of decls shadow (entries_read world.journal ++ row) next.hub next.nodes next.links)
  pub under : (hub : Hub) → next.hub ≡ Some hub
      → Attends decls shadow (entries_read world.journal ++ row) hub next.links
  pub rests : UndeclaredRest decls next.nodes
