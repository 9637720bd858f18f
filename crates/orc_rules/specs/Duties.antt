-- What is done on the devices: the work of at most one transaction on each.
use Rattle.std.specs.Prelude.{ℕ, nat_eq, Bool, true, false, ◌&&◌, List, Option, Some, None, slice_get, if◌then◌else◌}
use Rattle.std.specs.Option.{option_map_or, option_or}
use Rattle.orc_call.specs.declared.answer.Why.{Why}
use Rattle.orc_call.specs.declared.answer.Why.TheVariants as why
use Rattle.orc_device.specs.declared.op.Op.{Op}
use Rattle.orc_device.specs.declared.reply.Reply.{Reply}
use Rattle.orc_worker.specs.Workers.{worker_order, worker_report, worker_told, worker_took, is_due, is_waiting}
use Rattle.orc_worker.specs.declared.report.Outcome.{Outcome}
use Rattle.orc_worker.specs.declared.report.Outcome.TheVariants as outcome
use Rattle.orc_worker.specs.declared.report.Report.{Report}
use Rattle.orc_worker.specs.declared.stage.Stage.{Stage}
use Rattle.orc_worker.specs.declared.stage.Stage.TheVariants as stage
use Rattle.orc_tree.specs.Sameness.{equal_configs}
use Rattle.orc_recover.specs.Menders.{differences, is_mending, mender_end, mender_order, mender_took}
use Rattle.orc_recover.specs.declared.ends.Mend.{Mend}
use Rattle.orc_recover.specs.declared.ends.Mend.TheVariants as mend
use Rattle.orc_rules.specs.declared.duty.Duty.{Duty}
use Rattle.orc_rules.specs.declared.duty.Duty.TheVariants.{Free, Works, Mends}

-- the worker has ended
abbrev pub is_over : Stage → Bool
is_over stage.Over = true
is_over other = false

-- no call works on the device: none ever did under this hub, or the last one's work has ended (a reconciliation may)
abbrev pub no_call_works : Duty → Bool
no_call_works (Works worker) = is_over worker.stage
no_call_works other = true

-- the operation that is next
abbrev pub duty_order : Duty → Option Op
duty_order Free = None
duty_order (Works worker) = worker_order worker
duty_order (Mends mender) = mender_order differences mender

-- something is left to do: an operation is next
abbrev pub is_busy : Duty → Bool
is_busy Free = false
is_busy (Works worker) = is_due worker.stage
is_busy (Mends mender) = is_mending mender.stage

-- the duty after the reply to the operation due, with the link's count of faults
abbrev pub duty_took : Duty → Reply → ℕ → Duty
duty_took Free reply faults = Free
duty_took (Works worker) reply faults = Works (worker_took worker reply faults)
duty_took (Mends mender) reply faults = Mends (mender_took equal_configs mender reply)

-- how the reconciliation of the device ended by that reply, if it did
abbrev pub duty_end : Duty → Reply → ℕ → Option Mend
duty_end (Mends mender) reply faults = mender_end mender reply faults
duty_end duty reply faults = None

-- the duty after the decision on a transaction
abbrev pub duty_told : ℕ → Bool → Duty → Duty
duty_told t commit Free = Free
duty_told t commit (Works worker) =
    if nat_eq worker.t t && is_waiting worker.stage then Works (worker_told worker commit) else Works worker
duty_told t commit (Mends mender) = Mends mender

-- the last outcome of a transaction's work
abbrev pub duty_outcome : ℕ → Duty → Option Outcome
duty_outcome t Free = None
duty_outcome t (Works worker) = if nat_eq worker.t t then worker.outcome else None
duty_outcome t (Mends mender) = None

-- a transaction's work has ended
abbrev pub is_over_for : ℕ → Duty → Bool
is_over_for t Free = false
is_over_for t (Works worker) = nat_eq worker.t t && is_over worker.stage
is_over_for t (Mends mender) = false

-- on the devices

-- the last outcome of a transaction's work on a device
abbrev pub outcome_on : List Duty → ℕ → ℕ → Option Outcome
outcome_on duties t device = option_map_or (duty_outcome t) (slice_get duties device) None

-- the work of a transaction on a device has ended
abbrev pub is_over_on : List Duty → ℕ → ℕ → Bool
is_over_on duties t device = option_map_or (is_over_for t) (slice_get duties device) false

-- staleness

-- the cause of staleness that an outcome is: the confirmed commit of this transaction was no longer pending
abbrev pub gone_cause : ℕ → Outcome → Option Why
gone_cause t outcome.Gone = Some (why.Gone t)
gone_cause t other = None

-- why a report makes the device stale, if it does: the link failed, or the confirmed commit of this transaction was no
-- longer pending
abbrev pub cause_by : ℕ → Option Report → Option Why
cause_by t None = None
cause_by t (Some report) =
    option_map_or (λ count. Some (why.Fault count)) report.fault (gone_cause t report.outcome)

-- whether a device is stale after the end of its reconciliation, where it ended
abbrev pub stale_ended : Option Why → Option Mend → Option Why
stale_ended before (Some mend.Done) = None
stale_ended before (Some (mend.LinkFault count)) = option_or before (Some (why.Fault count))
stale_ended before other = before

-- whether a device is stale after a reply to what was due there: the first cause is kept until it is reconciled
abbrev pub stale_by : Duty → Reply → ℕ → Option Why → Option Why
stale_by Free reply faults before = before
stale_by (Works worker) reply faults before = option_or before (cause_by worker.t (worker_report worker reply faults))
stale_by (Mends mender) reply faults before = stale_ended before (mender_end mender reply faults)
