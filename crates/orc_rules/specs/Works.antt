-- What a worker does for one transaction on one device, and what a reconciliation does there.
use Rattle.std.specs.Prelude.{ℕ, Bool, false, not, ◌&&◌, Option, Some, None, List, [], ◌∷◌}
use Rattle.orc_path.specs.Configurations.{Config}
use Rattle.orc_device.specs.declared.op.Op.{Op}
use Rattle.orc_device.specs.declared.op.Op.TheVariants.{OpenSession, LockRunning, LockCandidate, Edit, Validate, Commit, Confirm, Cancel, UnlockCandidate, UnlockRunning, CloseSession, GetRunning}
use Rattle.orc_device.specs.declared.reply.Reply.{Reply}
use Rattle.orc_device.specs.Nodes.{DeviceKind}
use Rattle.orc_device.specs.Operations.{is_ok, is_fault, is_resolved}
use Rattle.orc_worker.specs.Workers.{order_at, work_stage_after}
use Rattle.orc_worker.specs.declared.stage.Stage.{Stage}
use Rattle.orc_worker.specs.declared.stage.Stage.TheVariants.{Opening, LockingRunning, LockingCandidate, Editing, Validating, Committing, Confirming, Cancelling, Reopening, Recancelling}

-- an intent on this device: the tree before it and the tree due by it
pub record Intent (Call : Type 0) : Type 0 where
  pub t : ℕ
  pub call : Call
  pub before : Config
  pub due : Config

-- the operation due for an intent at a stage of its worker
abbrev pub work_operation : {Call : Type 0} → DeviceKind → Intent Call → Stage → Option Op
work_operation kind intent stage = order_at intent.t (kind.between intent.before intent.due) stage

-- the stage of a worker after a reply
abbrev pub worker_after : Stage → Reply → Stage
worker_after = work_stage_after

-- the reply makes the device stale: it is a fault or counts as one, or nothing was pending that was to be confirmed
abbrev pub worker_spoils : Stage → Reply → Bool
worker_spoils Confirming reply = not (is_ok reply)
worker_spoils Cancelling reply = not (is_resolved reply)
worker_spoils Reopening reply = not (is_ok reply)
worker_spoils Recancelling reply = not (is_resolved reply)
worker_spoils stage reply = is_fault reply

-- in preparing, the device refused or found no memory
abbrev pub hinders : Reply → Bool
hinders reply = not (is_ok reply) && not (is_fault reply)

-- the reply is one after which nothing of this intent can be pending here
abbrev pub worker_clears : Stage → Reply → Bool
worker_clears Opening reply = hinders reply
worker_clears LockingRunning reply = hinders reply
worker_clears LockingCandidate reply = hinders reply
worker_clears Editing reply = hinders reply
worker_clears Validating reply = hinders reply
worker_clears Committing reply = hinders reply
worker_clears Confirming reply = is_resolved reply
worker_clears Cancelling reply = is_resolved reply
worker_clears Recancelling reply = is_resolved reply
worker_clears stage reply = false

-- A reconciliation of the device. Read is the running tree that it read.
pub data Mend : Type 0 where
  Mopening : List ℕ → Mend  -- the unsettled intents that name the device
  Mresolving : List ℕ → Mend  -- these intents are left; then the tree is read
  MlockingRunning : Config → Mend
  MlockingCandidate : Config → Mend
  Mediting : Config → Mend
  Mvalidating : Mend
  Mcommitting : Mend
  MunlockingCandidate : Mend
  MunlockingRunning : Mend
  Mclosing : Mend

-- the operation that resolves an intent: Confirm where it is decided, and else Cancel
abbrev pub resolve : Option ℕ → ℕ → Op
resolve None t = Cancel t
resolve (Some place) t = Confirm t

-- the order for what is left of the intents; place has the decided ones
abbrev pub resolving_operation : (ℕ → Option ℕ) → List ℕ → Op
resolving_operation place [] = GetRunning
resolving_operation place (t ∷ later) = resolve (place t) t

-- the operation due in a reconciliation
abbrev pub mend_operation : DeviceKind → (ℕ → Option ℕ) → Config → Mend → Op
mend_operation kind place due (Mopening later) = OpenSession
mend_operation kind place due (Mresolving later) = resolving_operation place later
mend_operation kind place due (MlockingRunning read) = LockRunning
mend_operation kind place due (MlockingCandidate read) = LockCandidate
mend_operation kind place due (Mediting read) = Edit (kind.between read due)
mend_operation kind place due Mvalidating = Validate
mend_operation kind place due Mcommitting = Commit
mend_operation kind place due MunlockingCandidate = UnlockCandidate
mend_operation kind place due MunlockingRunning = UnlockRunning
mend_operation kind place due Mclosing = CloseSession
