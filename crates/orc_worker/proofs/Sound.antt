-- What a worker has at each stage.
use Rattle.std.proofs.Common.{◌≡◌, ◌↔◌, ◌⊎◌, ⊎_elim, ℕ, Bool, true, false, cond, IsTrue, Option, Some, None, is_some, inl, inr, refl, sym, ◌∙◌}
use Rattle.std.specs.Option.{option_or}
use Rattle.std.proofs.lemmas.Bool.{false≢true, true≢false}
use Rattle.orc_tree.specs.declared.change.ChangeSet.{ChangeSet}
use Rattle.orc_device.specs.Operations.{is_ok, is_fault, is_resolved}
use Rattle.orc_device.specs.declared.op.Op.{Op}
use Rattle.orc_device.specs.declared.op.Op.TheVariants.{OpenSession, LockRunning, LockCandidate, Edit, Validate, CommitConfirmed, Confirm, Cancel, UnlockCandidate, UnlockRunning, CloseSession}
use Rattle.orc_device.specs.declared.reply.Reply.{Reply}
use Rattle.orc_device.specs.declared.reply.Reply.TheVariants as reply
use Rattle.orc_worker.specs.Workers.{OperationIsDue, WorkersStaySound, order_at, is_due, is_waiting, prepares, work_stage_after, told_stage, hindered, outcome_by, fault_by, reported, has_outcome}
use Rattle.orc_worker.specs.declared.report.Outcome.{Outcome}
use Rattle.orc_worker.specs.declared.stage.Stage.{Stage}
use Rattle.orc_worker.specs.declared.stage.Stage.TheVariants.{Opening, LockingRunning, LockingCandidate, Editing, Validating, Committing, Refusing, Prepared, Lost, Confirming, Cancelling, Reopening, Recancelling, UnlockingCandidate, UnlockingRunning, Closing, Over}

-- an operation is due
asks : (op : Op) (stage : Stage) → (stage ≡ Over → ⊥) → (Some op ≡ None) ↔ (IsTrue false ⊎ (stage ≡ Over))
asks op stage apart = (λ e. absurd cc, ⊎_elim (λ h. absurd (false≢true h)) (λ e. absurd (apart e)))

due_at : (t : ℕ) (set : ChangeSet) (stage : Stage)
    → (is_some (order_at t set stage) ≡ is_due stage)
    × ((order_at t set stage ≡ None) ↔ (IsTrue (is_waiting stage) ⊎ (stage ≡ Over)))
due_at t set Opening = (refl, asks OpenSession Opening (λ e. absurd cc))
due_at t set LockingRunning = (refl, asks LockRunning LockingRunning (λ e. absurd cc))
due_at t set LockingCandidate = (refl, asks LockCandidate LockingCandidate (λ e. absurd cc))
due_at t set Editing = (refl, asks (Edit set) Editing (λ e. absurd cc))
due_at t set Validating = (refl, asks Validate Validating (λ e. absurd cc))
due_at t set Committing = (refl, asks (CommitConfirmed t 120) Committing (λ e. absurd cc))
due_at t set Refusing = (refl, asks CloseSession Refusing (λ e. absurd cc))
due_at t set Prepared = (refl, (λ e. inl refl, λ w. refl))
due_at t set Lost = (refl, (λ e. inl refl, λ w. refl))
due_at t set Confirming = (refl, asks (Confirm t) Confirming (λ e. absurd cc))
due_at t set Cancelling = (refl, asks (Cancel t) Cancelling (λ e. absurd cc))
due_at t set Reopening = (refl, asks OpenSession Reopening (λ e. absurd cc))
due_at t set Recancelling = (refl, asks (Cancel t) Recancelling (λ e. absurd cc))
due_at t set UnlockingCandidate = (refl, asks UnlockCandidate UnlockingCandidate (λ e. absurd cc))
due_at t set UnlockingRunning = (refl, asks UnlockRunning UnlockingRunning (λ e. absurd cc))
due_at t set Closing = (refl, asks CloseSession Closing (λ e. absurd cc))
due_at t set Over = (refl, (λ e. inr refl, λ w. refl))

pub due_always : OperationIsDue
due_always worker = due_at worker.t worker.set worker.stage

-- a reply in preparing
prepared : (next : Stage) (before : Option Outcome) (answer : Reply) (faults : ℕ) → has_outcome next ≡ false → is_some before ≡ false
    → is_some (option_or (hindered None answer faults) before) ≡ has_outcome (prepares next answer)
prepared next before reply.Ok faults none h = h ∙ sym none
prepared next before (reply.Tree tree) faults none h = refl
prepared next before (reply.Refused tag) faults none h = refl
prepared next before reply.Fault faults none h = refl
prepared next before reply.Memory faults none h = refl

committed : (before : Option Outcome) (answer : Reply) (faults : ℕ)
    → is_some (option_or (outcome_by Committing answer faults) before) ≡ has_outcome (work_stage_after Committing answer)
committed before reply.Ok faults = refl
committed before (reply.Tree tree) faults = refl
committed before (reply.Refused tag) faults = refl
committed before reply.Fault faults = refl
committed before reply.Memory faults = refl

-- a reply to a confirm or a cancel
resolves : (good : Bool) (next : Stage) → has_outcome next ≡ true → true ≡ has_outcome (cond good next Over)
resolves true next some = sym some
resolves false next some = refl

reopens : (good : Bool) (lost : Outcome) (before : Option Outcome) → is_some before ≡ true
    → is_some (option_or (cond good None (Some lost)) before) ≡ has_outcome (cond good Recancelling Over)
reopens true lost before h = h
reopens false lost before h = refl

took : (stage : Stage) (before : Option Outcome) (answer : Reply) (faults : ℕ) → is_some before ≡ has_outcome stage
    → is_some (option_or (outcome_by stage answer faults) before) ≡ has_outcome (work_stage_after stage answer)
took Opening before answer faults h = prepared LockingRunning before answer faults refl h
took LockingRunning before answer faults h = prepared LockingCandidate before answer faults refl h
took LockingCandidate before answer faults h = prepared Editing before answer faults refl h
took Editing before answer faults h = prepared Validating before answer faults refl h
took Validating before answer faults h = prepared Committing before answer faults refl h
took Committing before answer faults h = committed before answer faults
took Refusing before answer faults h = h
took Prepared before answer faults h = h
took Lost before answer faults h = h
took Confirming before answer faults h = resolves (is_resolved answer) UnlockingCandidate refl
took Cancelling before answer faults h = resolves (is_resolved answer) UnlockingCandidate refl
took Reopening before answer faults h = reopens (is_ok answer) _ before h
took Recancelling before answer faults h = resolves (is_resolved answer) Closing refl
took UnlockingCandidate before answer faults h = h
took UnlockingRunning before answer faults h = h
took Closing before answer faults h = h
took Over before answer faults h = h

decides : (stage : Stage) (commit : Bool) (before : Option Outcome) → is_some before ≡ has_outcome stage
    → is_some before ≡ has_outcome (told_stage stage commit)
decides Prepared true before h = h
decides Prepared false before h = h
decides Lost true before h = h
decides Lost false before h = h
decides stage commit before h = h

-- a reply in preparing that brings no outcome is no fault
unhindered : (next : Option Outcome) (answer : Reply) (faults : ℕ) → hindered next answer faults ≡ None → cond (is_fault answer) (Some faults) None ≡ None
unhindered next reply.Ok faults h = refl
unhindered next (reply.Tree tree) faults h = refl
unhindered next (reply.Refused tag) faults h = refl
unhindered next reply.Fault faults h = absurd cc
unhindered next reply.Memory faults h = refl

quiet : (stage : Stage) (answer : Reply) (faults : ℕ) → has_outcome stage ≡ false → outcome_by stage answer faults ≡ None → fault_by stage answer faults ≡ None
quiet Opening answer faults none h = unhindered None answer faults h
quiet LockingRunning answer faults none h = unhindered None answer faults h
quiet LockingCandidate answer faults none h = unhindered None answer faults h
quiet Editing answer faults none h = unhindered None answer faults h
quiet Validating answer faults none h = unhindered None answer faults h
quiet Committing answer faults none h = unhindered _ answer faults h
quiet stage answer faults none h = absurd (true≢false none)

silent : (brought before : Option Outcome) (fault : Option ℕ) → (is_some before ≡ false → brought ≡ None → fault ≡ None)
    → (reported brought before fault ≡ None) ↔ ((brought ≡ None) × (fault ≡ None))
silent (Some outcome) before fault none = (λ e. absurd cc, λ both. let e = both.0 in absurd cc)
silent None (Some outcome) (Some count) none = (λ e. absurd cc, λ both. let e = both.1 in absurd cc)
silent None (Some outcome) None none = (λ e. (refl, refl), λ both. refl)
silent None None fault none = (λ e. (refl, none refl refl), λ both. refl)

pub sound_always : WorkersStaySound
sound_always = record {
  begins = λ t set. refl;
  replies = λ worker answer faults h. took worker.stage worker.outcome answer faults h;
  decision = λ worker commit h. decides worker.stage commit worker.outcome h;
  silent = λ worker answer faults h.
      silent (outcome_by worker.stage answer faults) worker.outcome (fault_by worker.stage answer faults)
      (λ none brought. quiet worker.stage answer faults (sym h ∙ none) brought);
}
