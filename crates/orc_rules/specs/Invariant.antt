-- The crash invariant of one device.
use Rattle.std.specs.Prelude.{ℕ, ◌≡◌, ◌≤◌, Bool, true, false, nat_eq, Option, Some, None, ◌⊎◌, List, [], ◌∷◌, ◌++◌, length, take}
use Rattle.std.specs.List.{list_any}
use Rattle.orc_device.specs.Nodes.{DeviceKind, NodeState, is_live, kept_tree, kept_by}
use Rattle.orc_rules.specs.Facts.{Locks, Unlocked, Quiet, Held, pending_id}
use Rattle.orc_worker.specs.declared.stage.Stage.{Stage}
use Rattle.orc_rules.specs.Works.{Intent, Mend}
use Rattle.orc_worker.specs.declared.stage.Stage.TheVariants.{Opening, LockingRunning, LockingCandidate, Editing, Validating, Committing, Refusing, Prepared, Lost, Confirming, Cancelling, Reopening, Recancelling, UnlockingCandidate, UnlockingRunning, Closing, Over}
use Rattle.orc_rules.specs.Works.Mend.{Mopening, Mresolving, MlockingRunning, MlockingCandidate, Mediting, Mvalidating, Mcommitting, MunlockingCandidate, MunlockingRunning, Mclosing}
use Rattle.orc_rules.specs.Cells.{Cell, DeviceRole}
use Rattle.orc_rules.specs.Cells.DeviceRole.{Free, Works, Mends}
use Rattle.orc_path.specs.Configurations.{Config}

-- the pending commit is that of an unsettled intent, which the device hasn't resolved
pub record IsKnown {Call : Type 0} (node : NodeState) (open_intent : ℕ → Option (Intent Call)) (clear : ℕ → Bool)
    (t : ℕ) : Type 0 where
  pub intent : Intent Call
  pub unsettled : open_intent t ≡ Some intent
  pub unresolved : clear t ≡ false
  pub held : Held node t intent.before intent.due

-- an intent that is not decided: the history has not moved away from what it was planned on
pub record IsUndecided {Call : Type 0} (over : List Call → Config) (history : List Call) (place_of : ℕ → Option ℕ)
    (clear : ℕ → Bool) (intent : Intent Call) : Type 0 where
  pub unresolved : clear intent.t ≡ false
  pub place : place_of intent.t ≡ None
  pub before : over history ≡ intent.before
  pub due : over (history ++ intent.call ∷ []) ≡ intent.due

-- an intent that is decided and whose tree the history has
pub record IsDecided {Call : Type 0} (over : List Call → Config) (history : List Call) (place_of : ℕ → Option ℕ)
    (clear : ℕ → Bool) (intent : Intent Call) : Type 0 where
  pub n : ℕ
  pub unresolved : clear intent.t ≡ false
  pub place : place_of intent.t ≡ Some n
  pub due : over history ≡ intent.due

-- an intent that is not decided and will not be
pub record IsLeft {Call : Type 0} (over : List Call → Config) (history : List Call) (place_of : ℕ → Option ℕ)
    (intent : Intent Call) : Type 0 where
  pub place : place_of intent.t ≡ None
  pub before : over history ≡ intent.before

-- pending over the tree before with the tree due running, or the tree before
abbrev pub HeldOrBack : {Call : Type 0} → NodeState → Intent Call → Type 0
HeldOrBack node intent = Held node intent.t intent.before intent.due ⊎ Quiet node intent.before

-- candidate equals running
abbrev pub Same : NodeState → Type 0
Same node = node.candidate ≡ node.running

-- while the session lives it holds the candidate's lock, and candidate is this tree
abbrev pub Edits : NodeState → ℕ → Config → Type 0
Edits node session config = is_live node session ≡ true → (node.candidate_lock ≡ Some session)
    × (node.candidate ≡ config)

-- while the session lives it holds the lock on running
abbrev pub HoldsRunning : NodeState → ℕ → Type 0
HoldsRunning node session = is_live node session ≡ true → node.running_lock ≡ Some session

-- no session locks candidate, which equals running
abbrev pub CandidateFree : NodeState → Type 0
CandidateFree node = (node.candidate_lock ≡ None) × Same node

-- while the session lives it holds the lock on candidate
abbrev pub HoldsCandidate : NodeState → ℕ → Type 0
HoldsCandidate node session = is_live node session ≡ true → node.candidate_lock ≡ Some session

-- a device that isn't stale has the tree of the history
abbrev pub AtRest : NodeState → Config → Bool → Type 0
AtRest node config stale = stale ≡ false → Quiet node config

module _ {Call : Type 0} (over : List Call → Config) where
  -- What is so of a device at each stage of the worker of an intent.
  abbrev pub StageFacts : Cell Call → Intent Call → Stage → Type 0
  StageFacts cell intent Opening = IsUndecided over cell.history cell.place cell.clear intent
      × Quiet cell.node (over cell.history)
  StageFacts cell intent LockingRunning = IsUndecided over cell.history cell.place cell.clear intent
      × Quiet cell.node (over cell.history)
      × Unlocked cell.node
  StageFacts cell intent LockingCandidate = IsUndecided over cell.history cell.place cell.clear intent
      × Quiet cell.node (over cell.history)
      × HoldsRunning cell.node cell.session × CandidateFree cell.node
  StageFacts cell intent Editing = IsUndecided over cell.history cell.place cell.clear intent
      × Quiet cell.node (over cell.history)
      × HoldsRunning cell.node cell.session × Edits cell.node cell.session intent.before
  StageFacts cell intent Validating = IsUndecided over cell.history cell.place cell.clear intent
      × Quiet cell.node (over cell.history)
      × HoldsRunning cell.node cell.session × Edits cell.node cell.session intent.due
  StageFacts cell intent Committing = IsUndecided over cell.history cell.place cell.clear intent
      × Quiet cell.node (over cell.history)
      × HoldsRunning cell.node cell.session × Edits cell.node cell.session intent.due
  StageFacts cell intent Refusing = Quiet cell.node (over cell.history)
  StageFacts cell intent Prepared = IsUndecided over cell.history cell.place cell.clear intent
      × HeldOrBack cell.node intent × Same cell.node
  StageFacts cell intent Lost = IsLeft over cell.history cell.place intent × HeldOrBack cell.node intent
      × (cell.stale ≡ true)
  StageFacts cell intent Confirming = IsDecided over cell.history cell.place cell.clear intent
      × HeldOrBack cell.node intent × Same cell.node
  StageFacts cell intent Cancelling = IsLeft over cell.history cell.place intent × HeldOrBack cell.node intent
  StageFacts cell intent Reopening = IsLeft over cell.history cell.place intent × HeldOrBack cell.node intent
  StageFacts cell intent Recancelling = IsLeft over cell.history cell.place intent × HeldOrBack cell.node intent
  StageFacts cell intent UnlockingCandidate = AtRest cell.node (over cell.history) cell.stale
  StageFacts cell intent UnlockingRunning = AtRest cell.node (over cell.history) cell.stale
  StageFacts cell intent Closing = AtRest cell.node (over cell.history) cell.stale
  StageFacts cell intent Over = AtRest cell.node (over cell.history) cell.stale

  -- what is pending is among these
  abbrev pub IsPendingOf : Cell Call → List ℕ → Type 0
  IsPendingOf cell numbers = (t : ℕ) → pending_id cell.node.pending ≡ Some t → list_any (nat_eq t) numbers ≡ true

  -- What is so of a device at each stage of its reconciliation.
  abbrev pub MendFacts : Cell Call → Mend → Type 0
  MendFacts cell (Mopening numbers) = IsPendingOf cell numbers
  MendFacts cell (Mresolving numbers) = IsPendingOf cell numbers × Unlocked cell.node
  MendFacts cell (MlockingRunning read) = Quiet cell.node read × Unlocked cell.node
  MendFacts cell (MlockingCandidate read) = Quiet cell.node read × HoldsRunning cell.node cell.session
      × CandidateFree cell.node
  MendFacts cell (Mediting read) = Quiet cell.node read × HoldsRunning cell.node cell.session
      × Edits cell.node cell.session read
  MendFacts cell Mvalidating = (cell.node.pending ≡ None) × HoldsRunning cell.node cell.session
      × Edits cell.node cell.session (over cell.history)
  MendFacts cell Mcommitting = (cell.node.pending ≡ None) × HoldsRunning cell.node cell.session
      × Edits cell.node cell.session (over cell.history)
  MendFacts cell MunlockingCandidate = Quiet cell.node (over cell.history) × HoldsRunning cell.node cell.session
      × HoldsCandidate cell.node cell.session
  MendFacts cell MunlockingRunning = Quiet cell.node (over cell.history) × HoldsRunning cell.node cell.session
  MendFacts cell Mclosing = Quiet cell.node (over cell.history)

  -- What is so of a device by what is done there.
  abbrev pub RoleFacts : Cell Call → DeviceRole Call → Type 0
  RoleFacts cell Free = AtRest cell.node (over cell.history) cell.stale
  RoleFacts cell (Works intent stage) = (cell.open_intent intent.t ≡ Some intent) × StageFacts cell intent stage
  RoleFacts cell (Mends mend) = AtRest cell.node (over cell.history) cell.stale × MendFacts cell mend

  -- What is kept of one device, whatever happens.
  pub record Invariant (cell : Cell Call) : Type 0 where
    -- locks and the candidate
    pub locks : Locks cell.node cell.session
    -- the tree that the device comes back to is that of a prefix of the history
    pub at : cell.at ≤ length cell.history
    pub kept_at : kept_tree cell.node ≡ over (take cell.at cell.history)
    -- what is pending belongs to an unsettled intent
    pub known : (t : ℕ) → pending_id cell.node.pending ≡ Some t → IsKnown cell.node cell.open_intent cell.clear t
    -- an intent's number is its own
    pub number : (t : ℕ) (intent : Intent Call) → cell.open_intent t ≡ Some intent → intent.t ≡ t
    -- a decided intent's tree is that of its place in the history
    pub placed : (t number : ℕ) (intent : Intent Call) → cell.open_intent t ≡ Some intent → cell.place t ≡ Some number
        → cell.clear t ≡ false
        → (number ≤ length cell.history) × (over (take number cell.history) ≡ intent.due)
    pub role : RoleFacts cell cell.role

-- What is asked of a device's kind: its test decides equality, and the way to a tree that is due leads there.
pub record IsLawful {Call : Type 0} (kind : DeviceKind) (over : List Call → Config) : Type 0 where
  pub same : (config other : Config) → kind.same config other ≡ true → config ≡ other
  pub changed : (config : Config) (history : List Call)
      → kind.changed (kind.between config (over history)) config ≡ over history

-- in preparing, with the decision open
abbrev pub is_preparing_stage : Stage → Bool
is_preparing_stage Opening = true
is_preparing_stage LockingRunning = true
is_preparing_stage LockingCandidate = true
is_preparing_stage Editing = true
is_preparing_stage Validating = true
is_preparing_stage Committing = true
is_preparing_stage stage = false

-- it may still be decided
abbrev pub is_open : Stage → Bool
is_open Prepared = true
is_open stage = is_preparing_stage stage

-- When the other events may come, for this device.
module _ {Call : Type 0} (over : List Call → Config) where
  -- t names the device, which isn't stale and has no work, and t is new
  pub record MayAdmit (cell : Cell Call) (t : ℕ) : Type 0 where
    pub free : cell.role ≡ Free
    pub fresh : cell.stale ≡ false
    pub unused : cell.open_intent t ≡ None
    pub undecided : cell.place t ≡ None

  -- t names the device, which answered CommitConfirmed
  pub record MayDecide (cell : Cell Call) (t : ℕ) (call : Call) : Type 0 where
    pub intent : Intent Call
    pub prepared : cell.role ≡ Works intent Prepared
    pub number : intent.t ≡ t
    pub call_is : intent.call ≡ call

  -- what is being done here: another call may change neither
  abbrev pub Commutes : List Call → Call → DeviceRole Call → Type 0
  Commutes history call Free = Unit {0}
  Commutes history call (Works intent stage) = is_open stage ≡ true
      → over ((history ++ call ∷ []) ++ intent.call ∷ []) ≡ over (history ++ intent.call ∷ [])
  Commutes history call (Mends mend) = Unit {0}

  -- t doesn't name the device, and its call fits what is done here
  pub record MayDecideElsewhere (cell : Cell Call) (t : ℕ) (call : Call) : Type 0 where
    pub unnamed : cell.open_intent t ≡ None
    pub frame : over (cell.history ++ call ∷ []) ≡ over cell.history
    pub commutes : Commutes cell.history call cell.role

  -- no worker of this transaction is at work there
  abbrev pub IsNotOn : ℕ → DeviceRole Call → Type 0
  IsNotOn t Free = Unit {0}
  IsNotOn t (Works intent stage) = nat_eq t intent.t ≡ false
  IsNotOn t (Mends mend) = Unit {0}

  -- the device did what the settling of t asks, and works for it no more
  pub record MaySettle (cell : Cell Call) (t : ℕ) : Type 0 where
    pub clear : (intent : Intent Call) → cell.open_intent t ≡ Some intent → cell.clear t ≡ true
    pub ended : IsNotOn t cell.role

  -- the worker has ended, or a reconciliation ends
  abbrev pub MayRest : DeviceRole Call → Type 0
  MayRest (Works intent Over) = Unit {0}
  MayRest (Works intent stage) = ⊥
  MayRest Free = Unit {0}
  MayRest (Mends mend) = Unit {0}

  -- these are the unsettled intents that name the device
  pub record MayMend (cell : Cell Call) (numbers : List ℕ) : Type 0 where
    pub free : cell.role ≡ Free
    pub all : (t : ℕ) (intent : Intent Call) → cell.open_intent t ≡ Some intent → list_any (nat_eq t) numbers ≡ true

-- what moreover holds where trees are of one schema, and a tree equals itself
pub record IsFitting {Call : Type 0} (kind : DeviceKind) (over : List Call → Config) : Type 0 where
  pub equal : (config : Config) → kind.same config config ≡ true
  pub fits : (earlier history : List Call) → kind.fits (kind.between (over earlier) (over history)) ≡ true

-- the trees that the device runs or may come back to are accepted: the node's own fact
pub record RunsAccepted (kind : DeviceKind) (node : NodeState) : Type 0 where
  pub running : kind.accepts node.running ≡ true
  pub kept : kind.accepts (kept_by node.pending node.running) ≡ true
