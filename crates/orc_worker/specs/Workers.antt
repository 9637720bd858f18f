-- What a transaction does on one of its devices.
use Rattle.std.specs.Prelude.{◌≡◌, ◌↔◌, ◌⊎◌, ℕ, Bool, true, false, not, Option, Some, None, is_some, IsTrue, if◌then◌else◌}
use Rattle.std.specs.Option.{option_or}
use Rattle.orc_tree.specs.declared.change.ChangeSet.{ChangeSet}
use Rattle.orc_call.specs.declared.answer.Tag.TheVariants.{OperationFailed}
use Rattle.orc_device.specs.Operations.{is_ok, is_fault, is_invalid_value, is_resolved}
use Rattle.orc_device.specs.declared.op.Op.{Op}
use Rattle.orc_device.specs.declared.op.Op.TheVariants.{OpenSession, LockRunning, LockCandidate, Edit, Validate, CommitConfirmed, Confirm, Cancel, UnlockCandidate, UnlockRunning, CloseSession}
use Rattle.orc_device.specs.declared.reply.Reply.{Reply}
use Rattle.orc_device.specs.declared.reply.Reply.TheVariants as reply
use Rattle.orc_worker.specs.declared.report.Outcome.{Outcome}
use Rattle.orc_worker.specs.declared.report.Outcome.TheVariants as outcome
use Rattle.orc_worker.specs.declared.report.Report.{Report}
use Rattle.orc_worker.specs.declared.stage.Stage.{Stage}
use Rattle.orc_worker.specs.declared.stage.Stage.TheVariants.{Opening, LockingRunning, LockingCandidate, Editing, Validating, Committing, Refusing, Prepared, Lost, Confirming, Cancelling, Reopening, Recancelling, UnlockingCandidate, UnlockingRunning, Closing, Over}
use Rattle.orc_worker.specs.declared.worker.Worker.{Worker}

-- a worker that has done nothing yet: the number of its transaction, and what that changes on the device
abbrev pub new_worker : ℕ → ChangeSet → Worker
new_worker t set = record { t = t; set = set; stage = Opening; outcome = None }

-- The operation due ---------------------------------------------------------------------------------------------------

-- the operation due at a stage, for the transaction of this number that changes this
abbrev pub order_at : ℕ → ChangeSet → Stage → Option Op
order_at t set Opening = Some OpenSession
order_at t set LockingRunning = Some LockRunning
order_at t set LockingCandidate = Some LockCandidate
order_at t set Editing = Some (Edit set)
order_at t set Validating = Some Validate
order_at t set Committing = Some (CommitConfirmed t 120)
order_at t set Refusing = Some CloseSession
order_at t set Prepared = None
order_at t set Lost = None
order_at t set Confirming = Some (Confirm t)
order_at t set Cancelling = Some (Cancel t)
order_at t set Reopening = Some OpenSession
order_at t set Recancelling = Some (Cancel t)
order_at t set UnlockingCandidate = Some UnlockCandidate
order_at t set UnlockingRunning = Some UnlockRunning
order_at t set Closing = Some CloseSession
order_at t set Over = None

-- the operation that is due for a worker
abbrev pub worker_order : Worker → Option Op
worker_order worker = order_at worker.t worker.set worker.stage

-- at this stage the worker waits for the decision
abbrev pub is_waiting : Stage → Bool
is_waiting Prepared = true
is_waiting Lost = true
is_waiting stage = false

-- at this stage an operation is due
abbrev pub is_due : Stage → Bool
is_due Prepared = false
is_due Lost = false
is_due Over = false
is_due stage = true

-- The next stage ------------------------------------------------------------------------------------------------------

-- the stage after a reply in preparing, where this one comes after Ok
abbrev pub prepares : Stage → Reply → Stage
prepares next reply.Ok = next
prepares next (reply.Tree tree) = Refusing
prepares next (reply.Refused tag) = Refusing
prepares next reply.Fault = Lost
prepares next reply.Memory = Refusing

-- the stage of a worker after a reply to the operation due
abbrev pub work_stage_after : Stage → Reply → Stage
work_stage_after Opening r = prepares LockingRunning r
work_stage_after LockingRunning r = prepares LockingCandidate r
work_stage_after LockingCandidate r = prepares Editing r
work_stage_after Editing r = prepares Validating r
work_stage_after Validating r = prepares Committing r
work_stage_after Committing r = prepares Prepared r
work_stage_after Refusing r = Over
work_stage_after Prepared r = Prepared
work_stage_after Lost r = Lost
work_stage_after Confirming r = if is_resolved r then UnlockingCandidate else Over
work_stage_after Cancelling r = if is_resolved r then UnlockingCandidate else Over
work_stage_after Reopening r = if is_ok r then Recancelling else Over
work_stage_after Recancelling r = if is_resolved r then Closing else Over
work_stage_after UnlockingCandidate r = UnlockingRunning
work_stage_after UnlockingRunning r = Closing
work_stage_after Closing r = Over
work_stage_after Over r = Over

-- The stage after the decision. A lost worker that is told to commit ends, since a transaction is decided only where
-- every device is prepared.
abbrev pub told_stage : Stage → Bool → Stage
told_stage Prepared true = Confirming
told_stage Prepared false = Cancelling
told_stage Lost true = Over
told_stage Lost false = Reopening
told_stage stage commit = stage

-- Outcomes ------------------------------------------------------------------------------------------------------------

-- the outcome by a reply in preparing, where Ok brings this one
abbrev pub hindered : Option Outcome → Reply → ℕ → Option Outcome
hindered next reply.Ok faults = next
hindered next (reply.Tree tree) faults = Some (outcome.Refused OperationFailed)
hindered next (reply.Refused tag) faults = Some (outcome.Refused tag)
hindered next reply.Fault faults = Some (outcome.Lost faults)
hindered next reply.Memory faults = Some outcome.Short

-- the outcome by a reply to a confirm or a cancel: by Ok, by invalid-value, and by any other reply
abbrev pub resolved_as : Outcome → Outcome → Reply → ℕ → Outcome
resolved_as good absent reply.Ok faults = good
resolved_as good absent (reply.Tree tree) faults = outcome.Lost faults
resolved_as good absent (reply.Refused tag) faults = if is_invalid_value tag then absent else outcome.Lost faults
resolved_as good absent reply.Fault faults = outcome.Lost faults
resolved_as good absent reply.Memory faults = outcome.Lost faults

-- the outcome that a reply at this stage brings, if it does
abbrev pub outcome_by : Stage → Reply → ℕ → Option Outcome
outcome_by Opening r faults = hindered None r faults
outcome_by LockingRunning r faults = hindered None r faults
outcome_by LockingCandidate r faults = hindered None r faults
outcome_by Editing r faults = hindered None r faults
outcome_by Validating r faults = hindered None r faults
outcome_by Committing r faults = hindered (Some outcome.Prepared) r faults
outcome_by Refusing r faults = None
outcome_by Prepared r faults = None
outcome_by Lost r faults = None
outcome_by Confirming r faults = Some (resolved_as outcome.Confirmed outcome.Gone r faults)
outcome_by Cancelling r faults = Some (resolved_as outcome.Cancelled outcome.Cancelled r faults)
outcome_by Reopening r faults = if is_ok r then None else Some (outcome.Lost faults)
outcome_by Recancelling r faults = Some (resolved_as outcome.Cancelled outcome.Cancelled r faults)
outcome_by UnlockingCandidate r faults = None
outcome_by UnlockingRunning r faults = None
outcome_by Closing r faults = None
outcome_by Over r faults = None

-- a reply at this stage is a fault of the link, or counts as one
abbrev pub spoils : Stage → Reply → Bool
spoils Confirming r = not (is_resolved r)
spoils Cancelling r = not (is_resolved r)
spoils Reopening r = not (is_ok r)
spoils Recancelling r = not (is_resolved r)
spoils stage r = is_fault r

-- the count of faults, where a reply at this stage is a fault of the link or counts as one
abbrev pub fault_by : Stage → Reply → ℕ → Option ℕ
fault_by stage r faults = if spoils stage r then Some faults else None

-- what a worker reports of an outcome that a reply brings, of the outcome before it, and of a fault
abbrev pub reported : Option Outcome → Option Outcome → Option ℕ → Option Report
reported (Some brought) before fault = Some (record { outcome = brought; fault = fault })
reported None (Some before) (Some count) = Some (record { outcome = before; fault = Some count })
reported None (Some before) None = None
reported None None fault = None

-- The worker ----------------------------------------------------------------------------------------------------------

-- the worker after a reply, with the link's count of faults
abbrev pub worker_took : Worker → Reply → ℕ → Worker
worker_took worker r faults = record worker {
  stage = work_stage_after worker.stage r;
  outcome = option_or (outcome_by worker.stage r faults) worker.outcome;
}

-- what a worker reports of a reply
abbrev pub worker_report : Worker → Reply → ℕ → Option Report
worker_report worker r faults =
    reported (outcome_by worker.stage r faults) worker.outcome (fault_by worker.stage r faults)

-- the worker after the decision
abbrev pub worker_told : Worker → Bool → Worker
worker_told worker commit = record worker { stage = told_stage worker.stage commit }

-- Laws ----------------------------------------------------------------------------------------------------------------

-- An operation is due for a worker except where it waits for the decision or has ended.
abbrev pub OperationIsDue : Type 0
OperationIsDue =
    (worker : Worker)
    → (is_some (worker_order worker) ≡ is_due worker.stage)
    × ((worker_order worker ≡ None) ↔ (IsTrue (is_waiting worker.stage) ⊎ (worker.stage ≡ Over)))

-- at this stage a worker has an outcome: in all but those of preparing
abbrev pub has_outcome : Stage → Bool
has_outcome Opening = false
has_outcome LockingRunning = false
has_outcome LockingCandidate = false
has_outcome Editing = false
has_outcome Validating = false
has_outcome Committing = false
has_outcome stage = true

-- the worker has an outcome exactly where its stage is to have one
abbrev pub IsSoundWorker : Worker → Type 0
IsSoundWorker worker = is_some worker.outcome ≡ has_outcome worker.stage

-- A new worker is sound, and replies and the decision leave a sound one. Such a worker reports nothing exactly where a
-- reply brings no outcome and is no fault.
pub record WorkersStaySound : Type 0 where
  pub begins : (t : ℕ) (set : ChangeSet) → IsSoundWorker (new_worker t set)
  pub replies : (worker : Worker) (answer : Reply) (faults : ℕ) → IsSoundWorker worker
      → IsSoundWorker (worker_took worker answer faults)
  pub decision : (worker : Worker) (commit : Bool) → IsSoundWorker worker → IsSoundWorker (worker_told worker commit)
  pub silent : (worker : Worker) (answer : Reply) (faults : ℕ) → IsSoundWorker worker
      → (worker_report worker answer faults ≡ None)
      ↔ ((outcome_by worker.stage answer faults ≡ None) × (fault_by worker.stage answer faults ≡ None))
