-- What is known of the reply to one operation of a worker or a mender, and of the session in which it came.
use Rattle.std.proofs.Common.{◌≡◌, ℕ, Bool, true, false, cond, not, nat_eq, List, [], ◌∷◌, ◌++◌, Option, Some, None, refl, sym, ap, subst, ◌∙◌}
use Rattle.std.specs.Option.{option_or}
use Rattle.std.proofs.lemmas.Bool.{false≢true}
use Rattle.orc_call.specs.declared.answer.RecFault.TheVariants as fault
use Rattle.orc_call.specs.declared.answer.Tag.{Tag}
use Rattle.orc_call.specs.declared.answer.Tag.TheVariants.{InvalidValue, OperationFailed}
use Rattle.orc_call.specs.declared.call.Call.{Call}
use Rattle.orc_device.specs.Links.{Way, session_after, takes_memory, way_node, way_reply, way_session}
use Rattle.orc_rules.specs.Cells.{MayHappen}
use Rattle.orc_device.specs.Links.Way.{Done, Denied, Stranded, Before, After, NoMemory}
use Rattle.orc_device.specs.Nodes.{DeviceKind, NodeState, dropped, good_reply}
use Rattle.orc_device.specs.Operations.{is_fault, is_invalid_value, is_ok, is_resolved}
use Rattle.orc_device.specs.declared.op.Op.{Op}
use Rattle.orc_device.specs.declared.op.Op.TheVariants.{OpenSession, LockRunning, LockCandidate, Edit, Validate, CommitConfirmed, Commit, Confirm, Cancel, UnlockCandidate, UnlockRunning, CloseSession, GetRunning}
use Rattle.orc_device.specs.declared.reply.Reply.{Reply}
use Rattle.orc_device.specs.declared.reply.Reply.TheVariants as reply
use Rattle.orc_path.specs.Configurations.{Config}
use Rattle.orc_recover.specs.Menders.{MenderState, mend_order, mender_end, mender_took, resolving_order}
use Rattle.orc_recover.specs.declared.ends.Mend.{Mend as End}
use Rattle.orc_recover.specs.declared.ends.Mend.TheVariants as end
use Rattle.orc_recover.specs.declared.stage.MendStage.{MendStage}
use Rattle.orc_recover.specs.declared.stage.MendStage.TheVariants as mend_stage
use Rattle.orc_tree.specs.declared.change.ChangeSet.{ChangeSet}
use Rattle.orc_worker.specs.Workers.{hindered, order_at, outcome_by, spoils, work_stage_after}
use Rattle.orc_worker.specs.declared.report.Outcome.{Outcome}
use Rattle.orc_worker.specs.declared.report.Outcome.TheVariants as outcome
use Rattle.orc_worker.specs.declared.stage.Stage.{Stage}
use Rattle.orc_worker.specs.declared.stage.Stage.TheVariants as stage
use Rattle.orc_rules.specs.Acceptance.{Tells, mends_in_session, works_in_session}
use Rattle.orc_rules.specs.Agreement.{mend_stage_of, mender_of}
use Rattle.orc_rules.specs.Cells.{Cell, PossibleDue, due_op}
use Rattle.orc_rules.specs.Cells.DeviceRole.{Mends}
use Rattle.orc_rules.specs.Courses.{stands_undecided}
use Rattle.orc_rules.specs.Hubs.{mend_fault}
use Rattle.orc_rules.specs.Invariant.{Invariant, IsFitting, MendFacts, RunsAccepted, StageFacts, is_preparing_stage}
use Rattle.orc_rules.specs.Works.{Intent, Mend, mend_operation, resolve, work_operation as work_order}
use Rattle.orc_rules.specs.Works.Mend.{Mopening, Mresolving, MlockingRunning, MlockingCandidate, Mediting, Mvalidating, Mcommitting, MunlockingCandidate, MunlockingRunning, Mclosing}
use Rattle.orc_rules.proofs.Accepting.{commits_confirmed, effect_accepted}
use Rattle.orc_rules.proofs.NodeLaws.{live_of}
use Rattle.orc_rules.proofs.Opening.{next_is_one, stays}
use Rattle.orc_rules.proofs.Refusals.{AcceptsAll, IsHarmless, cancel_harmless, confirm_only_invalid, lives, mender_refused, worker_refused}

-- what a device accepts

pub way_accepted : (k : DeviceKind) (n : NodeState) (s : ℕ) (op : Op) (way : Way) → MayHappen k n s op way → RunsAccepted k n → RunsAccepted k (way_node k n s op way)
way_accepted k n s op Done p a = effect_accepted k n s op p a
way_accepted k n s op (Denied tag) p a = a
way_accepted k n s op Stranded p a = a
way_accepted k n s op Before p a = record { running = a.running; kept = a.kept }
way_accepted k n s op After p a = let b = effect_accepted k n s op p a in record { running = b.running; kept = b.kept }
way_accepted k n s op NoMemory p a = a

pub dropped_accepted : (k : DeviceKind) (n : NodeState) → RunsAccepted k n → RunsAccepted k (dropped n)
dropped_accepted k n a = record { running = a.running; kept = a.kept }

-- sessions

module _ (k : DeviceKind) (n : NodeState) (s : ℕ) where
  -- another operation than the opening of a session leaves it
  stays_open : (op : Op) (way : Way) → session_after n s op ≡ s → nat_eq s 0 ≡ false → nat_eq (way_session n s op way) 0 ≡ false
  stays_open op way same opened = ap (λ (x : ℕ). nat_eq x 0) (stays n s op way same) ∙ opened

  -- of a worker
  abbrev Works : Stage → Op → Way → Type 0
  Works st op way = MayHappen k n s op way → (works_in_session st ≡ true → nat_eq s 0 ≡ false)
      → works_in_session (work_stage_after st (way_reply n op way)) ≡ true → nat_eq (way_session n s op way) 0 ≡ false

  opening_worker : (way : Way) → Works stage.Opening OpenSession way
  opening_worker Done p h goes = next_is_one n.last
  opening_worker (Denied tag) p h goes = cc
  opening_worker Stranded p h goes = cc
  opening_worker Before p h goes = cc
  opening_worker After p h goes = cc
  opening_worker NoMemory p h goes = cc

  reopening_worker : (way : Way) → Works stage.Reopening OpenSession way
  reopening_worker Done p h goes = next_is_one n.last
  reopening_worker (Denied tag) p h goes = cc
  reopening_worker Stranded p h goes = cc
  reopening_worker Before p h goes = cc
  reopening_worker After p h goes = cc
  reopening_worker NoMemory p h goes = cc

  pub opened_work : (t : ℕ) (set : ChangeSet) (st : Stage) (op : Op) (way : Way) → order_at t set st ≡ Some op → Works st op way
  opened_work t set stage.Opening op way e = subst (λ (o : Op). Works stage.Opening o way) (let same : OpenSession ≡ op = cc in same) (opening_worker way)
  opened_work t set stage.Reopening op way e = subst (λ (o : Op). Works stage.Reopening o way) (let same : OpenSession ≡ op = cc in same) (reopening_worker way)
  opened_work t set stage.LockingRunning op way e =
      subst (λ (o : Op). Works stage.LockingRunning o way) (let same : LockRunning ≡ op = cc in same) (λ p h goes. stays_open LockRunning way refl (h refl))
  opened_work t set stage.LockingCandidate op way e =
      subst (λ (o : Op). Works stage.LockingCandidate o way) (let same : LockCandidate ≡ op = cc in same) (λ p h goes. stays_open LockCandidate way refl (h refl))
  opened_work t set stage.Editing op way e = subst (λ (o : Op). Works stage.Editing o way) (let same : Edit set ≡ op = cc in same) (λ p h goes. stays_open (Edit set) way refl (h refl))
  opened_work t set stage.Validating op way e = subst (λ (o : Op). Works stage.Validating o way) (let same : Validate ≡ op = cc in same) (λ p h goes. stays_open Validate way refl (h refl))
  opened_work t set stage.Committing op way e =
      subst (λ (o : Op). Works stage.Committing o way) (let same : CommitConfirmed t 120 ≡ op = cc in same) (λ p h goes. stays_open (CommitConfirmed t 120) way refl (h refl))
  opened_work t set stage.Refusing op way e = subst (λ (o : Op). Works stage.Refusing o way) (let same : CloseSession ≡ op = cc in same) (λ p h goes. stays_open CloseSession way refl (h refl))
  opened_work t set stage.Confirming op way e = subst (λ (o : Op). Works stage.Confirming o way) (let same : Confirm t ≡ op = cc in same) (λ p h goes. stays_open (Confirm t) way refl (h refl))
  opened_work t set stage.Cancelling op way e = subst (λ (o : Op). Works stage.Cancelling o way) (let same : Cancel t ≡ op = cc in same) (λ p h goes. stays_open (Cancel t) way refl (h refl))
  opened_work t set stage.Recancelling op way e = subst (λ (o : Op). Works stage.Recancelling o way) (let same : Cancel t ≡ op = cc in same) (λ p h goes. stays_open (Cancel t) way refl (h refl))
  opened_work t set stage.UnlockingCandidate op way e =
      subst (λ (o : Op). Works stage.UnlockingCandidate o way) (let same : UnlockCandidate ≡ op = cc in same) (λ p h goes. stays_open UnlockCandidate way refl (h refl))
  opened_work t set stage.UnlockingRunning op way e =
      subst (λ (o : Op). Works stage.UnlockingRunning o way) (let same : UnlockRunning ≡ op = cc in same) (λ p h goes. stays_open UnlockRunning way refl (h refl))
  opened_work t set stage.Closing op way e = subst (λ (o : Op). Works stage.Closing o way) (let same : CloseSession ≡ op = cc in same) (λ p h goes. stays_open CloseSession way refl (h refl))
  opened_work t set stage.Prepared op way e = cc
  opened_work t set stage.Lost op way e = cc
  opened_work t set stage.Over op way e = cc

  -- of a mender
  abbrev MendsSo : (Config → Config → Bool) → MenderState → Op → Way → Type 0
  MendsSo same mender op way = MayHappen k n s op way → (mends_in_session mender.stage ≡ true → nat_eq s 0 ≡ false)
      → mends_in_session (mender_took same mender (way_reply n op way)).stage ≡ true → nat_eq (way_session n s op way) 0 ≡ false

  opening_mender : (same : Config → Config → Bool) (left : List (ℕ × Bool)) (due : Config) (way : Way)
      → MendsSo same (record { left = left; due = due; stage = mend_stage.Opening }) OpenSession way
  opening_mender same left due Done p h goes = next_is_one n.last
  opening_mender same left due (Denied tag) p h goes = cc
  opening_mender same left due Stranded p h goes = cc
  opening_mender same left due Before p h goes = cc
  opening_mender same left due After p h goes = cc
  opening_mender same left due NoMemory p h goes = cc

  resolving_stays : (left : List (ℕ × Bool)) → session_after n s (resolving_order left) ≡ s
  resolving_stays [] = refl
  resolving_stays (one ∷ left) = on one.1
    where
      on : (b : Bool) → session_after n s (cond b (Confirm one.0) (Cancel one.0)) ≡ s
      on true = refl
      on false = refl

  -- the operation at a stage past the opening
  abbrev Past : MendStage → Op → Type 0
  Past st op = mends_in_session st ≡ true → session_after n s op ≡ s

  past_opening : (between : Config → Config → ChangeSet) (left : List (ℕ × Bool)) (due : Config) (st : MendStage) (op : Op) → mend_order between left due st ≡ Some op → Past st op
  past_opening between left due mend_stage.Opening op e h = absurd (false≢true h)
  past_opening between left due mend_stage.Over op e h = absurd (false≢true h)
  past_opening between left due mend_stage.Resolving op e h =
      subst (λ (o : Op). session_after n s o ≡ s) (let same : resolving_order left ≡ op = cc in same) (resolving_stays left)
  past_opening between left due (mend_stage.LockingRunning read) op e h = subst (λ (o : Op). session_after n s o ≡ s) (let same : LockRunning ≡ op = cc in same) refl
  past_opening between left due (mend_stage.LockingCandidate read) op e h = subst (λ (o : Op). session_after n s o ≡ s) (let same : LockCandidate ≡ op = cc in same) refl
  past_opening between left due (mend_stage.Editing read) op e h = subst (λ (o : Op). session_after n s o ≡ s) (let same : Edit (between read due) ≡ op = cc in same) refl
  past_opening between left due mend_stage.Validating op e h = subst (λ (o : Op). session_after n s o ≡ s) (let same : Validate ≡ op = cc in same) refl
  past_opening between left due mend_stage.Committing op e h = subst (λ (o : Op). session_after n s o ≡ s) (let same : Commit ≡ op = cc in same) refl
  past_opening between left due mend_stage.UnlockingCandidate op e h = subst (λ (o : Op). session_after n s o ≡ s) (let same : UnlockCandidate ≡ op = cc in same) refl
  past_opening between left due mend_stage.UnlockingRunning op e h = subst (λ (o : Op). session_after n s o ≡ s) (let same : UnlockRunning ≡ op = cc in same) refl
  past_opening between left due mend_stage.Closing op e h = subst (λ (o : Op). session_after n s o ≡ s) (let same : CloseSession ≡ op = cc in same) refl

  pub opened_mend : (same : Config → Config → Bool) (between : Config → Config → ChangeSet) (left : List (ℕ × Bool)) (due : Config) (st : MendStage) (op : Op) (way : Way)
      → mend_order between left due st ≡ Some op → MendsSo same (record { left = left; due = due; stage = st }) op way
  opened_mend same between left due mend_stage.Opening op way e =
      subst (λ (o : Op). MendsSo same (record { left = left; due = due; stage = mend_stage.Opening }) o way) (let is : OpenSession ≡ op = cc in is) (opening_mender same left due way)
  opened_mend same between left due mend_stage.Over op way e = cc
  opened_mend same between left due st op way e = λ p h goes. stays_open op way (past_opening between left due st op e refl) (h refl)

-- what the reply to a worker says

-- a reply in preparing
tells_by : (n : NodeState) (op : Op) (way : Way) (next o : Option Outcome) (f : ℕ) (accepted : Bool) → good_reply n op ≡ reply.Ok
    → (way ≡ Done → Tells (option_or next o) accepted) → ((tag : Tag) → way ≡ Denied tag → (tag ≡ OperationFailed) × (accepted ≡ false))
    → Tells (option_or (hindered next (way_reply n op way) f) o) accepted
tells_by n op Done next o f accepted good done denied = subst (λ (r : Reply). Tells (option_or (hindered next r f) o) accepted) (sym good) (done refl)
tells_by n op (Denied tag) next o f accepted good done denied = denied tag refl
tells_by n op Stranded next o f accepted good done denied = tt
tells_by n op Before next o f accepted good done denied = tt
tells_by n op After next o f accepted good done denied = tt
tells_by n op NoMemory next o f accepted good done denied = tt

-- one to Confirm or Cancel
resolves_honest : (k : DeviceKind) (n : NodeState) (s : ℕ) (op : Op) (way : Way) → good_reply n op ≡ reply.Ok → takes_memory op ≡ false
    → ((tag : Tag) → way ≡ Denied tag → tag ≡ InvalidValue) → MayHappen k n s op way → not (is_resolved (way_reply n op way)) ≡ true → is_fault (way_reply n op way) ≡ true
resolves_honest k n s op Done good small harmless p spoilt = absurd (false≢true (ap (λ (r : Reply). not (is_resolved r)) (sym good) ∙ spoilt))
resolves_honest k n s op (Denied tag) good small harmless p spoilt = absurd (false≢true (ap (λ (x : Tag). not (is_invalid_value x)) (sym (harmless tag refl)) ∙ spoilt))
resolves_honest k n s op Stranded good small harmless p spoilt = refl
resolves_honest k n s op Before good small harmless p spoilt = refl
resolves_honest k n s op After good small harmless p spoilt = refl
resolves_honest k n s op NoMemory good small harmless p spoilt = absurd (false≢true (sym small ∙ p.0))

reopens_honest : (k : DeviceKind) (n : NodeState) (s : ℕ) (way : Way) → MayHappen k n s OpenSession way → not (is_ok (way_reply n OpenSession way)) ≡ true
    → is_fault (way_reply n OpenSession way) ≡ true
reopens_honest k n s Done p spoilt = cc
reopens_honest k n s (Denied tag) p spoilt = absurd (no_refusal_there tag p.0)
  where
    no_refusal_there : (tag : Tag) → None ≡ Some tag → ⊥
    no_refusal_there tag e = cc
reopens_honest k n s Stranded p spoilt = refl
reopens_honest k n s Before p spoilt = refl
reopens_honest k n s After p spoilt = refl
reopens_honest k n s NoMemory p spoilt = absurd (false≢true p.0)

none_some : (tag : Tag) → ◌≡◌ {A = Option Tag} None (Some tag) → ⊥
none_some tag e = cc

module _ (k : DeviceKind) (over : List Call → Config) (fit : IsFitting k over) (c : Cell Call) (inv : Invariant over c) (o : Intent Call) where
  abbrev Accepted : Bool
  Accepted = k.accepts (over (c.history ++ o.call ∷ []))

  abbrev Told : Stage → Op → Way → ℕ → Option Outcome → Type 0
  Told st op way f out = MayHappen k c.node c.session op way → Tells (option_or (outcome_by st (way_reply c.node op way) f) out) Accepted

  -- it refused in preparing
  refuses : (st : Stage) (op : Op) (way : Way) (tag : Tag) → is_preparing_stage st ≡ true → work_order k o st ≡ Some op → over (c.history ++ o.call ∷ []) ≡ o.due → StageFacts over c o st
      → nat_eq c.session 0 ≡ false → MayHappen k c.node c.session op way → way ≡ Denied tag → (tag ≡ OperationFailed) × (Accepted ≡ false)
  refuses st op way tag preparing e due facts opened p is =
      let q = worker_refused k over fit c inv opened o st tag preparing facts
      (subst (λ (x : Option Op). PossibleDue k c.node c.session x (Denied tag)) (sym e) (subst (λ (w : Way). MayHappen k c.node c.session op w) is p)) in
      (q.0, ap k.accepts due ∙ q.1)

  pub tells_worked : (st : Stage) (op : Op) (way : Way) (f : ℕ) (out : Option Outcome) → work_order k o st ≡ Some op → (works_in_session st ≡ true → nat_eq c.session 0 ≡ false)
      → StageFacts over c o st → stands_undecided st out ≡ true → Tells out Accepted → Told st op way f out
  tells_worked stage.Opening op way f out e h facts before told =
      subst (λ (x : Op). Told stage.Opening x way f out) (let same : OpenSession ≡ op = cc in same)
      (λ p. tells_by c.node OpenSession way None out f Accepted refl (λ is. told)
      (λ tag is. absurd (none_some tag (subst (λ (w : Way). MayHappen k c.node c.session OpenSession w) is p).0)))
  tells_worked stage.LockingRunning op way f out e h facts before told =
      subst (λ (x : Op). Told stage.LockingRunning x way f out) (let same : LockRunning ≡ op = cc in same)
      (λ p. tells_by c.node LockRunning way None out f Accepted refl (λ is. told) (λ tag is. refuses stage.LockingRunning LockRunning way tag refl refl facts.0.due facts (h refl) p is))
  tells_worked stage.LockingCandidate op way f out e h facts before told =
      subst (λ (x : Op). Told stage.LockingCandidate x way f out) (let same : LockCandidate ≡ op = cc in same)
      (λ p. tells_by c.node LockCandidate way None out f Accepted refl (λ is. told) (λ tag is. refuses stage.LockingCandidate LockCandidate way tag refl refl facts.0.due facts (h refl) p is))
  tells_worked stage.Editing op way f out e h facts before told =
      subst (λ (x : Op). Told stage.Editing x way f out) (let same : Edit (k.between o.before o.due) ≡ op = cc in same)
      (λ p. tells_by c.node (Edit (k.between o.before o.due)) way None out f Accepted refl (λ is. told)
      (λ tag is. refuses stage.Editing (Edit (k.between o.before o.due)) way tag refl refl facts.0.due facts (h refl) p is))
  tells_worked stage.Validating op way f out e h facts before told =
      subst (λ (x : Op). Told stage.Validating x way f out) (let same : Validate ≡ op = cc in same)
      (λ p. tells_by c.node Validate way None out f Accepted refl (λ is. told) (λ tag is. refuses stage.Validating Validate way tag refl refl facts.0.due facts (h refl) p is))
  tells_worked stage.Committing op way f out e h facts before told =
      subst (λ (x : Op). Told stage.Committing x way f out) (let same : CommitConfirmed o.t 120 ≡ op = cc in same)
      (λ p. tells_by c.node (CommitConfirmed o.t 120) way (Some outcome.Prepared) out f Accepted refl
      (λ is. let q = subst (λ (w : Way). MayHappen k c.node c.session (CommitConfirmed o.t 120) w) is p in
      ap k.accepts facts.0.due ∙ ap k.accepts (sym (facts.3 (live_of k c.node c.session (CommitConfirmed o.t 120) refl q)).1) ∙ commits_confirmed k c.node c.session o.t 120 q)
      (λ tag is. refuses stage.Committing (CommitConfirmed o.t 120) way tag refl refl facts.0.due facts (h refl) p is))
  tells_worked stage.Refusing op way f out e h facts before told = λ p. told
  tells_worked stage.Prepared op way f out e h facts before told = cc
  tells_worked stage.Lost op way f out e h facts before told = cc
  tells_worked stage.Over op way f out e h facts before told = cc
  tells_worked stage.Confirming op way f out e h facts before told = absurd (false≢true before)
  tells_worked stage.Cancelling op way f out e h facts before told = absurd (false≢true before)
  tells_worked stage.Reopening op way f out e h facts before told = absurd (false≢true before)
  tells_worked stage.Recancelling op way f out e h facts before told = absurd (false≢true before)
  tells_worked stage.UnlockingCandidate op way f out e h facts before told = absurd (false≢true before)
  tells_worked stage.UnlockingRunning op way f out e h facts before told = absurd (false≢true before)
  tells_worked stage.Closing op way f out e h facts before told = absurd (false≢true before)

  -- no reply counts as a fault that is none
  abbrev Honest : Stage → Op → Way → Type 0
  Honest st op way = MayHappen k c.node c.session op way → spoils st (way_reply c.node op way) ≡ true → is_fault (way_reply c.node op way) ≡ true

  cancels_honest : (t : ℕ) (way : Way) → nat_eq c.session 0 ≡ false → MayHappen k c.node c.session (Cancel t) way → not (is_resolved (way_reply c.node (Cancel t) way)) ≡ true
      → is_fault (way_reply c.node (Cancel t) way) ≡ true
  cancels_honest t way opened p =
      resolves_honest k c.node c.session (Cancel t) way refl refl
      (λ tag is. let q = subst (λ (w : Way). MayHappen k c.node c.session (Cancel t) w) is p in
      cancel_harmless k over fit c inv opened t tag q.0 (lives k over fit c inv opened q.1)) p

  pub honest_worked : (st : Stage) (op : Op) (way : Way) → work_order k o st ≡ Some op → (works_in_session st ≡ true → nat_eq c.session 0 ≡ false) → StageFacts over c o st
      → RunsAccepted k c.node → Honest st op way
  honest_worked stage.Confirming op way e h facts a =
      subst (λ (x : Op). Honest stage.Confirming x way) (let same : Confirm o.t ≡ op = cc in same)
      (λ p. resolves_honest k c.node c.session (Confirm o.t) way refl refl
      (λ tag is. let q = subst (λ (w : Way). MayHappen k c.node c.session (Confirm o.t) w) is p in
      confirm_only_invalid k over fit c inv (h refl) o.t tag facts.2 a q.0 (lives k over fit c inv (h refl) q.1)) p)
  honest_worked stage.Cancelling op way e h facts a =
      subst (λ (x : Op). Honest stage.Cancelling x way) (let same : Cancel o.t ≡ op = cc in same) (λ p. cancels_honest o.t way (h refl) p)
  honest_worked stage.Recancelling op way e h facts a =
      subst (λ (x : Op). Honest stage.Recancelling x way) (let same : Cancel o.t ≡ op = cc in same) (λ p. cancels_honest o.t way (h refl) p)
  honest_worked stage.Reopening op way e h facts a =
      subst (λ (x : Op). Honest stage.Reopening x way) (let same : OpenSession ≡ op = cc in same) (λ p. reopens_honest k c.node c.session way p)
  honest_worked st op way e h facts a = λ p spoilt. spoilt

-- what the reply to a mender ends

abbrev pub is_refused : Option End → Bool
is_refused (Some (end.Refused tag)) = true
is_refused other = false

-- one that isn't refused ends by no refusal
pub met_unrefused : (device : ℕ) (e : Option End) → is_refused e ≡ false → (other : ℕ) (tag : Tag) → mend_fault device e ≡ Some (fault.Refused other tag) → ⊥
met_unrefused device None h other tag is = cc
met_unrefused device (Some end.Done) h other tag is = cc
met_unrefused device (Some (end.LinkFault count)) h other tag is = cc
met_unrefused device (Some (end.Refused t)) h other tag is = false≢true (sym h)
met_unrefused device (Some end.Memory) h other tag is = cc

ends_by : (n : NodeState) (op : Op) (way : Way) (e : Reply → Option End) → is_refused (e (good_reply n op)) ≡ false → is_refused (e reply.Fault) ≡ false → is_refused (e reply.Memory) ≡ false
    → ((tag : Tag) → way ≡ Denied tag → is_refused (e (reply.Refused tag)) ≡ false) → is_refused (e (way_reply n op way)) ≡ false
ends_by n op Done e good faulty short denied = good
ends_by n op (Denied tag) e good faulty short denied = denied tag refl
ends_by n op Stranded e good faulty short denied = faulty
ends_by n op Before e good faulty short denied = faulty
ends_by n op After e good faulty short denied = faulty
ends_by n op NoMemory e good faulty short denied = short

module _ (k : DeviceKind) (over : List Call → Config) (fit : IsFitting k over) (c : Cell Call) (inv : Invariant over c) where
  -- a refusal of what a mender asks is harmless
  pub mend_harmless : (m : Mend) (tag : Tag) → AcceptsAll k over c.history → MendFacts over c m → (mends_in_session (mend_stage_of m) ≡ true → nat_eq c.session 0 ≡ false)
      → PossibleDue k c.node c.session (due_op k over c (Mends m)) (Denied tag) → IsHarmless m tag
  mend_harmless (Mopening ts) tag all facts h p = absurd (none_some tag p.0)
  mend_harmless m tag all facts h p = mender_refused k over fit c inv (h refl) m tag all facts p

  -- where it is, the reconciliation isn't refused
  pub unrefused_end : (place : ℕ → Option ℕ) (due : Config) (m : Mend) (way : Way) (f : ℕ)
      → ((tag : Tag) → way ≡ Denied tag → IsHarmless m tag)
      → is_refused (mender_end (mender_of place due m) (way_reply c.node (mend_operation k place due m) way) f) ≡ false
  unrefused_end place due (Mopening ts) way f harmless =
      ends_by c.node OpenSession way (λ r. mender_end (mender_of place due (Mopening ts)) r f) refl refl refl (λ tag is. absurd (harmless tag is))
  unrefused_end place due (Mresolving []) way f harmless =
      ends_by c.node GetRunning way (λ r. mender_end (mender_of place due (Mresolving [])) r f) refl refl refl (λ tag is. absurd (harmless tag is))
  unrefused_end place due (Mresolving (t ∷ ts)) way f harmless =
      ends_by c.node (resolve (place t) t) way (λ r. mender_end (mender_of place due (Mresolving (t ∷ ts))) r f) (good (place t)) refl refl
      (λ tag is. subst (λ (x : Tag). is_refused (mender_end (mender_of place due (Mresolving (t ∷ ts))) (reply.Refused x) f) ≡ false) (sym (harmless tag is)) refl)
    where
      good : (q : Option ℕ) → is_refused (mender_end (mender_of place due (Mresolving (t ∷ ts))) (good_reply c.node (resolve q t)) f) ≡ false
      good None = refl
      good (Some n) = refl
  unrefused_end place due (MlockingRunning read) way f harmless =
      ends_by c.node LockRunning way (λ r. mender_end (mender_of place due (MlockingRunning read)) r f) refl refl refl (λ tag is. absurd (harmless tag is))
  unrefused_end place due (MlockingCandidate read) way f harmless =
      ends_by c.node LockCandidate way (λ r. mender_end (mender_of place due (MlockingCandidate read)) r f) refl refl refl (λ tag is. absurd (harmless tag is))
  unrefused_end place due (Mediting read) way f harmless =
      ends_by c.node (Edit (k.between read due)) way (λ r. mender_end (mender_of place due (Mediting read)) r f) refl refl refl (λ tag is. absurd (harmless tag is))
  unrefused_end place due Mvalidating way f harmless =
      ends_by c.node Validate way (λ r. mender_end (mender_of place due Mvalidating) r f) refl refl refl (λ tag is. absurd (harmless tag is))
  unrefused_end place due Mcommitting way f harmless =
      ends_by c.node Commit way (λ r. mender_end (mender_of place due Mcommitting) r f) refl refl refl (λ tag is. absurd (harmless tag is))
  unrefused_end place due MunlockingCandidate way f harmless =
      ends_by c.node UnlockCandidate way (λ r. mender_end (mender_of place due MunlockingCandidate) r f) refl refl refl (λ tag is. absurd (harmless tag is))
  unrefused_end place due MunlockingRunning way f harmless =
      ends_by c.node UnlockRunning way (λ r. mender_end (mender_of place due MunlockingRunning) r f) refl refl refl (λ tag is. absurd (harmless tag is))
  unrefused_end place due Mclosing way f harmless =
      ends_by c.node CloseSession way (λ r. mender_end (mender_of place due Mclosing) r f) refl refl refl (λ tag is. absurd (harmless tag is))
