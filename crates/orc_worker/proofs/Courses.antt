-- What a worker asks for along all replies.
use Rattle.std.proofs.Common.{◌≡◌, ℕ, Bool, true, false, cond, Option, None, List, [], ◌∷◌, refl, sym, ap, subst}
use Rattle.orc_tree.specs.declared.change.ChangeSet.{ChangeSet}
use Rattle.orc_device.specs.Operations.{is_ok, is_resolved}
use Rattle.orc_device.specs.declared.op.Op.{Op}
use Rattle.orc_device.specs.declared.op.Op.TheVariants.{OpenSession, LockRunning, LockCandidate, Edit, Validate, CommitConfirmed, Confirm, Cancel, UnlockCandidate, UnlockRunning, CloseSession}
use Rattle.orc_device.specs.declared.reply.Reply.{Reply}
use Rattle.orc_device.specs.declared.reply.Reply.TheVariants as reply
use Rattle.orc_worker.specs.Workers.{prepares, told_stage}
use Rattle.orc_worker.specs.Courses.{CoursesAreThese, after_reply, as_many, asked_for, ending, in_session, preparing, where_resolved, while_ok}
use Rattle.orc_worker.specs.declared.report.Outcome.{Outcome}
use Rattle.orc_worker.specs.declared.stage.Stage.{Stage}
use Rattle.orc_worker.specs.declared.stage.Stage.TheVariants.{Opening, LockingRunning, LockingCandidate, Editing, Validating, Committing, Refusing, Prepared, Lost, Confirming, Cancelling, Reopening, Recancelling, UnlockingCandidate, UnlockingRunning, Closing, Over}
use Rattle.orc_worker.specs.declared.worker.Worker.{Worker}

abbrev Replies : Type 0
Replies = List (Reply × ℕ)

module _ (t : ℕ) (set : ChangeSet) where
  -- the worker at this stage
  abbrev at : Stage → Option Outcome → Worker
  at stage outcome = record { t = t; set = set; stage = stage; outcome = outcome }

  over : (replies : Replies) (outcome : Option Outcome) → asked_for (at Over outcome) replies ≡ []
  over [] outcome = refl
  over (answer ∷ later) outcome = refl

  waits : (replies : Replies) (outcome : Option Outcome) → asked_for (at Prepared outcome) replies ≡ []
  waits [] outcome = refl
  waits (answer ∷ later) outcome = refl

  lost : (replies : Replies) (outcome : Option Outcome) → asked_for (at Lost outcome) replies ≡ []
  lost [] outcome = refl
  lost (answer ∷ later) outcome = refl

  refusing : (replies : Replies) (outcome : Option Outcome) → asked_for (at Refusing outcome) replies ≡ as_many (CloseSession ∷ []) replies
  refusing [] outcome = refl
  refusing (answer ∷ later) outcome = ap (λ ops. CloseSession ∷ ops) (over later _)

  closing : (replies : Replies) (outcome : Option Outcome) → asked_for (at Closing outcome) replies ≡ as_many (CloseSession ∷ []) replies
  closing [] outcome = refl
  closing (answer ∷ later) outcome = ap (λ ops. CloseSession ∷ ops) (over later _)

  unlocking_running : (replies : Replies) (outcome : Option Outcome) → asked_for (at UnlockingRunning outcome) replies ≡ as_many (UnlockRunning ∷ CloseSession ∷ []) replies
  unlocking_running [] outcome = refl
  unlocking_running (answer ∷ later) outcome = ap (λ ops. UnlockRunning ∷ ops) (closing later _)

  unlocking_candidate : (replies : Replies) (outcome : Option Outcome) → asked_for (at UnlockingCandidate outcome) replies ≡ as_many (UnlockCandidate ∷ UnlockRunning ∷ CloseSession ∷ []) replies
  unlocking_candidate [] outcome = refl
  unlocking_candidate (answer ∷ later) outcome = ap (λ ops. UnlockCandidate ∷ ops) (unlocking_running later _)

  -- a reply in preparing
  next : (stage : Stage) (ops : List Op) (later : Replies) → ((outcome : Option Outcome) → asked_for (at stage outcome) later ≡ while_ok ops later)
      → (answer : Reply) (outcome : Option Outcome) → asked_for (at (prepares stage answer) outcome) later ≡ after_reply answer (while_ok ops later) (as_many (CloseSession ∷ []) later)
  next stage ops later goes_on reply.Ok outcome = goes_on outcome
  next stage ops later goes_on (reply.Tree tree) outcome = refusing later outcome
  next stage ops later goes_on (reply.Refused tag) outcome = refusing later outcome
  next stage ops later goes_on reply.Fault outcome = lost later outcome
  next stage ops later goes_on reply.Memory outcome = refusing later outcome

  committing : (replies : Replies) (outcome : Option Outcome) → asked_for (at Committing outcome) replies ≡ while_ok (CommitConfirmed t 120 ∷ []) replies
  committing [] outcome = refl
  committing (answer ∷ later) outcome = ap (λ ops. CommitConfirmed t 120 ∷ ops) (next Prepared [] later (waits later) answer.0 _)

  validating : (replies : Replies) (outcome : Option Outcome) → asked_for (at Validating outcome) replies ≡ while_ok (Validate ∷ CommitConfirmed t 120 ∷ []) replies
  validating [] outcome = refl
  validating (answer ∷ later) outcome = ap (λ ops. Validate ∷ ops) (next Committing (CommitConfirmed t 120 ∷ []) later (committing later) answer.0 _)

  editing : (replies : Replies) (outcome : Option Outcome) → asked_for (at Editing outcome) replies ≡ while_ok (Edit set ∷ Validate ∷ CommitConfirmed t 120 ∷ []) replies
  editing [] outcome = refl
  editing (answer ∷ later) outcome = ap (λ ops. Edit set ∷ ops) (next Validating (Validate ∷ CommitConfirmed t 120 ∷ []) later (validating later) answer.0 _)

  locking_candidate : (replies : Replies) (outcome : Option Outcome)
      → asked_for (at LockingCandidate outcome) replies ≡ while_ok (LockCandidate ∷ Edit set ∷ Validate ∷ CommitConfirmed t 120 ∷ []) replies
  locking_candidate [] outcome = refl
  locking_candidate (answer ∷ later) outcome =
      ap (λ ops. LockCandidate ∷ ops) (next Editing (Edit set ∷ Validate ∷ CommitConfirmed t 120 ∷ []) later (editing later) answer.0 _)

  locking_running : (replies : Replies) (outcome : Option Outcome)
      → asked_for (at LockingRunning outcome) replies ≡ while_ok (LockRunning ∷ LockCandidate ∷ Edit set ∷ Validate ∷ CommitConfirmed t 120 ∷ []) replies
  locking_running [] outcome = refl
  locking_running (answer ∷ later) outcome =
      ap (λ ops. LockRunning ∷ ops)
      (next LockingCandidate (LockCandidate ∷ Edit set ∷ Validate ∷ CommitConfirmed t 120 ∷ []) later (locking_candidate later) answer.0 _)

  opening : (replies : Replies) (outcome : Option Outcome) → asked_for (at Opening outcome) replies ≡ while_ok (preparing t set) replies
  opening [] outcome = refl
  opening (answer ∷ later) outcome =
      ap (λ ops. OpenSession ∷ ops)
      (next LockingRunning (LockRunning ∷ LockCandidate ∷ Edit set ∷ Validate ∷ CommitConfirmed t 120 ∷ []) later (locking_running later) answer.0 _)

  -- a reply to a confirm or a cancel
  then : (good : Bool) (stage : Stage) (ops : List Op) (later : Replies) → ((outcome : Option Outcome) → asked_for (at stage outcome) later ≡ ops)
      → (outcome : Option Outcome) → asked_for (at (cond good stage Over) outcome) later ≡ cond good ops []
  then true stage ops later goes_on outcome = goes_on outcome
  then false stage ops later goes_on outcome = over later outcome

  confirming : (replies : Replies) (outcome : Option Outcome) → asked_for (at Confirming outcome) replies ≡ where_resolved (ending t true) replies
  confirming [] outcome = refl
  confirming (answer ∷ later) outcome = ap (λ ops. Confirm t ∷ ops) (then (is_resolved answer.0) UnlockingCandidate _ later (unlocking_candidate later) _)

  cancelling : (replies : Replies) (outcome : Option Outcome) → asked_for (at Cancelling outcome) replies ≡ where_resolved (ending t false) replies
  cancelling [] outcome = refl
  cancelling (answer ∷ later) outcome = ap (λ ops. Cancel t ∷ ops) (then (is_resolved answer.0) UnlockingCandidate _ later (unlocking_candidate later) _)

  recancelling : (replies : Replies) (outcome : Option Outcome) → asked_for (at Recancelling outcome) replies ≡ where_resolved (Cancel t ∷ CloseSession ∷ []) replies
  recancelling [] outcome = refl
  recancelling (answer ∷ later) outcome = ap (λ ops. Cancel t ∷ ops) (then (is_resolved answer.0) Closing _ later (closing later) _)

  reopening : (replies : Replies) (outcome : Option Outcome) → asked_for (at Reopening outcome) replies ≡ in_session (where_resolved (Cancel t ∷ CloseSession ∷ [])) replies
  reopening [] outcome = refl
  reopening (answer ∷ later) outcome = ap (λ ops. OpenSession ∷ ops) (then (is_ok answer.0) Recancelling _ later (recancelling later) _)

ends : (worker : Worker) (commit : Bool) (replies : Replies) → worker.stage ≡ Prepared
    → asked_for (record worker { stage = told_stage worker.stage commit }) replies ≡ where_resolved (ending worker.t commit) replies
ends worker true replies is =
    subst (λ (stage : Stage). asked_for (record worker { stage = told_stage stage true }) replies ≡ where_resolved (ending worker.t true) replies) (sym is)
    (confirming worker.t worker.set replies worker.outcome)
ends worker false replies is =
    subst (λ (stage : Stage). asked_for (record worker { stage = told_stage stage false }) replies ≡ where_resolved (ending worker.t false) replies) (sym is)
    (cancelling worker.t worker.set replies worker.outcome)

pub courses : CoursesAreThese
courses = record {
  prepares = λ t set replies. opening t set replies None;
  ends = ends;
  cancels = λ worker replies is.
      subst (λ (stage : Stage). asked_for (record worker { stage = told_stage stage false }) replies ≡ in_session (where_resolved (Cancel worker.t ∷ CloseSession ∷ [])) replies) (sym is)
      (reopening worker.t worker.set replies worker.outcome);
}
