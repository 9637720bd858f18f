-- One device of the network: the node, what the journal says of it, and what is done there now.
use Rattle.std.specs.Prelude.{◌≡◌, ℕ, ◌+◌, Bool, true, false, ◌||◌, nat_eq, Option, Some, None, List, [], ◌∷◌, ◌++◌, length, if◌then◌else◌}
use Rattle.orc_device.specs.declared.op.Op.{Op}
use Rattle.orc_device.specs.declared.reply.Reply.{Reply}
use Rattle.orc_device.specs.Nodes.{DeviceKind, NodeState, dropped}
use Rattle.orc_device.specs.declared.op.Op.TheVariants.{Commit, Confirm}
use Rattle.orc_device.specs.declared.reply.Reply.TheVariants.{Tree}
use Rattle.orc_device.specs.Links.{Way, Possible, takes_memory, way_node, way_session, way_reply, took_effect}
use Rattle.orc_worker.specs.declared.stage.Stage.{Stage}
use Rattle.orc_device.specs.Links.Way.{NoMemory}
use Rattle.orc_device.specs.Operations.{is_ok, is_fault, is_resolved}
use Rattle.orc_rules.specs.Works.{Intent, Mend, work_operation, worker_after, worker_spoils, worker_clears, mend_operation}
use Rattle.orc_worker.specs.declared.stage.Stage.TheVariants.{Opening, Prepared, Lost, Confirming, Cancelling, Reopening}
use Rattle.orc_rules.specs.Works.Mend.{Mopening, Mresolving, MlockingRunning, MlockingCandidate, Mediting, Mvalidating, Mcommitting, MunlockingCandidate, MunlockingRunning, Mclosing}
use Rattle.orc_path.specs.Configurations.{Config}

-- What is done on a device: nothing, the work of an intent at a stage of its worker, or a reconciliation.
pub data DeviceRole (Call : Type 0) : Type 0 where
  Free : DeviceRole Call
  Works : Intent Call → Stage → DeviceRole Call
  Mends : Mend → DeviceRole Call

-- One device with what the journal says of it: the node, the session of its link, the history, its intents, what is
-- done there, whether it is stale, and the prefix of the history that it came to last.
pub record Cell (Call : Type 0) : Type 0 where
  pub node : NodeState
  pub session : ℕ
  pub history : List Call
  pub open_intent : ℕ → Option (Intent Call)  -- the unsettled intents that name the device
  pub place : ℕ → Option ℕ  -- the place of a decided intent's call in the history
  pub clear : ℕ → Bool  -- the device did for the intent what its settling asks
  pub role : DeviceRole Call
  pub stale : Bool
  pub at : ℕ

-- the function with this value at one number
abbrev pub updated_at : {A : Type 0} → (ℕ → A) → ℕ → A → ℕ → A
updated_at values at value other = if nat_eq at other then value else values other

-- the place, or this front where there is none
abbrev pub place_or : Option ℕ → ℕ → ℕ
place_or None at = at
place_or (Some place) at = place

-- the prefix of the history that an operation with effect brings the device to
abbrev pub at_after : {Call : Type 0} → Cell Call → Op → Bool → ℕ
at_after cell op false = cell.at
at_after cell (Confirm t) true = place_or (cell.place t) cell.at
at_after cell Commit true = length cell.history
at_after cell op true = cell.at

-- with this transaction among those for which the device did what their settling asks, where it did
abbrev pub cleared : Bool → (ℕ → Bool) → ℕ → ℕ → Bool
cleared good values t = if good then updated_at values t true else values

-- a worker's operation, with what happened to it
abbrev pub worked : {Call : Type 0} → DeviceKind → Cell Call → Intent Call → Stage → Op → Way → Cell Call
worked kind cell intent stage op way =
    let reply = way_reply cell.node op way in
    record cell {
      node = way_node kind cell.node cell.session op way;
      session = way_session cell.node cell.session op way;
      role = Works intent (worker_after stage reply);
      stale = cell.stale || worker_spoils stage reply;
      clear = cleared (worker_clears stage reply) cell.clear intent.t;
      at = at_after cell op (took_effect way);
    }

-- there is an intent
abbrev pub has_intent : {I : Type 0} → Option I → Bool
has_intent None = false
has_intent (Some intent) = true

-- what a reconciliation of the device has come to: it goes on, it is done, or it has failed
pub data Mended : Type 0 where
  Goes : Mend → Mended
  Whole : Mended
  Fails : Bool → Mended  -- by a link fault or not

-- where the reply is good the reconciliation goes on, and else it has failed
abbrev pub mended_if : Bool → Reply → Mend → Mended
mended_if good reply mend = if good then Goes mend else Fails (is_fault reply)

-- after the reading of the running tree: where it is the one due there is nothing to change
abbrev pub read_after : DeviceKind → Config → Reply → Mended
read_after kind due (Tree read) = if kind.same read due then Goes Mclosing else Goes (MlockingRunning read)
read_after kind due reply = Fails (is_fault reply)

-- what a reconciliation comes to by a reply
abbrev pub mender_after : DeviceKind → Config → Mend → Reply → Mended
mender_after kind due (Mopening later) reply = mended_if (is_ok reply) reply (Mresolving later)
mender_after kind due (Mresolving []) reply = read_after kind due reply
mender_after kind due (Mresolving (t ∷ later)) reply = mended_if (is_resolved reply) reply (Mresolving later)
mender_after kind due (MlockingRunning read) reply = mended_if (is_ok reply) reply (MlockingCandidate read)
mender_after kind due (MlockingCandidate read) reply = mended_if (is_ok reply) reply (Mediting read)
mender_after kind due (Mediting read) reply = mended_if (is_ok reply) reply Mvalidating
mender_after kind due Mvalidating reply = mended_if (is_ok reply) reply Mcommitting
mender_after kind due Mcommitting reply = mended_if (is_ok reply) reply MunlockingCandidate
mender_after kind due MunlockingCandidate reply = mended_if (is_ok reply) reply MunlockingRunning
mender_after kind due MunlockingRunning reply = mended_if (is_ok reply) reply Mclosing
mender_after kind due Mclosing reply = if is_ok reply then Whole else Fails (is_fault reply)

-- what is done on the device then
abbrev pub mended_role : {Call : Type 0} → Mended → DeviceRole Call
mended_role (Goes mend) = Mends mend
mended_role Whole = Free
mended_role (Fails fault) = Free

-- whether it is stale then: one that is reconciled isn't
abbrev pub mended_stale : Bool → Mended → Bool
mended_stale stale (Goes mend) = stale
mended_stale stale Whole = false
mended_stale stale (Fails fault) = stale || fault

-- a device that is reconciled did what the settling of each intent asks
abbrev pub mended_clear : {I : Type 0} → (ℕ → Option I) → (ℕ → Bool) → Mended → ℕ → Bool
mended_clear open_intent clear Whole t = has_intent (open_intent t) || clear t
mended_clear open_intent clear ended t = clear t

-- a reconciliation's operation, with what happened to it
abbrev pub mended : {Call : Type 0} → DeviceKind → Config → Cell Call → Mend → Op → Way → Cell Call
mended kind due cell mend op way =
    let ended = mender_after kind due mend (way_reply cell.node op way) in
    record cell {
      node = way_node kind cell.node cell.session op way;
      session = way_session cell.node cell.session op way;
      role = mended_role ended;
      stale = mended_stale cell.stale ended;
      clear = mended_clear cell.open_intent cell.clear ended;
      at = at_after cell op (took_effect way);
    }

-- the operation of a worker that is due, if one is, with what happened to it
abbrev pub worked_due : {Call : Type 0} → DeviceKind → Cell Call → Intent Call → Stage → Option (Op) → Way → Cell Call
worked_due kind cell intent stage None way = cell
worked_due kind cell intent stage (Some op) way = worked kind cell intent stage op way

-- the operation that is due
abbrev pub due_op : {Call : Type 0} → DeviceKind → (List Call → Config) → Cell Call → DeviceRole Call → Option (Op)
due_op kind over cell Free = None
due_op kind over cell (Works intent stage) = work_operation kind intent stage
due_op kind over cell (Mends mend) = Some (mend_operation kind cell.place (over cell.history) mend)

-- it is performed, and this happens to it
abbrev pub performed : {Call : Type 0} → DeviceKind → (List Call → Config) → Cell Call → DeviceRole Call → Way
    → Cell Call
performed kind over cell Free way = cell
performed kind over cell (Works intent stage) way =
    worked_due kind cell intent stage (work_operation kind intent stage) way
performed kind over cell (Mends mend) way =
    mended kind (over cell.history) cell mend (mend_operation kind cell.place (over cell.history) mend) way

-- The other events.

-- a call's intent on this device after a history
abbrev pub new_intent : {Call : Type 0} → (List Call → Config) → List Call → ℕ → Call → Intent Call
new_intent over history t call = record { t = t; call = call; before = over history; due = over (history ++ call ∷ []) }

-- an intent that names the device is appended
abbrev pub cell_admitted : {Call : Type 0} → (List Call → Config) → Cell Call → ℕ → Call → Cell Call
cell_admitted over cell t call =
    let intent = new_intent over cell.history t call in
    record cell {
      open_intent = updated_at cell.open_intent t (Some intent);
      clear = updated_at cell.clear t false;
      role = Works intent Opening;
    }

-- a worker that is prepared for the decided transaction confirms
abbrev pub decided_role : {Call : Type 0} → ℕ → DeviceRole Call → DeviceRole Call
decided_role t Free = Free
decided_role t (Works intent Prepared) = if nat_eq t intent.t then Works intent Confirming else Works intent Prepared
decided_role t (Works intent stage) = Works intent stage
decided_role t (Mends mend) = Mends mend

-- an intent is decided, whether it names the device or not
abbrev pub decided : {Call : Type 0} → Cell Call → ℕ → Call → Cell Call
decided cell t call =
    record cell {
      history = cell.history ++ call ∷ [];
      place = updated_at cell.place t (Some (length cell.history + 1));
      role = decided_role t cell.role;
    }

-- a worker that waits for the aborted transaction cancels, or opens a session for that
abbrev pub aborted_role : {Call : Type 0} → ℕ → DeviceRole Call → DeviceRole Call
aborted_role t Free = Free
aborted_role t (Works intent Prepared) = if nat_eq t intent.t then Works intent Cancelling else Works intent Prepared
aborted_role t (Works intent Lost) = if nat_eq t intent.t then Works intent Reopening else Works intent Lost
aborted_role t (Works intent stage) = Works intent stage
aborted_role t (Mends mend) = Mends mend

-- an intent is aborted
abbrev pub aborted : {Call : Type 0} → Cell Call → ℕ → Cell Call
aborted cell t = record cell { role = aborted_role t cell.role }

-- an intent is settled
abbrev pub settled : {Call : Type 0} → Cell Call → ℕ → Cell Call
settled cell t = record cell { open_intent = updated_at cell.open_intent t None }

-- the worker that has ended is let go
abbrev pub released : {Call : Type 0} → Cell Call → Cell Call
released cell = record cell { role = Free }

-- the device with another state of its node
abbrev pub at_node : {Call : Type 0} → Cell Call → NodeState → Cell Call
at_node cell node = record cell { node = node }

-- the controller stops, and its sessions end
abbrev pub stopped : {Call : Type 0} → Cell Call → Cell Call
stopped cell = record cell { node = dropped cell.node; role = Free; stale = true }

-- a reconciliation begins, with these unsettled intents
abbrev pub mending : {Call : Type 0} → Cell Call → List ℕ → Cell Call
mending cell later = record cell { role = Mends (Mopening later) }

-- what may happen to an operation: what is possible of its link, or memory runs out before it is sent
abbrev pub MayHappen : DeviceKind → NodeState → ℕ → Op → Way → Type 0
MayHappen kind node session op NoMemory = (takes_memory op ≡ true) × Unit {0}
MayHappen kind node session op way = Possible kind node session op way

-- what happens to the operation that is due, if one is
abbrev pub PossibleDue : DeviceKind → NodeState → ℕ → Option (Op) → Way → Type 0
PossibleDue kind node session None way = ⊥
PossibleDue kind node session (Some op) way = MayHappen kind node session op way
