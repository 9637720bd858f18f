-- Which refusals can come.
use Rattle.std.proofs.Common.{subst, eq-eqb, ℕ, ◌≡◌, ◌⊎◌, inl, inr, Bool, true, false, not, ◌&&◌, ◌||◌, nat_eq, Option, Some, None, List, [], ◌∷◌, ◌++◌, length, take, refl, sym, ◌∙◌, ap}
use Rattle.std.proofs.Math.Seq.{take-length}
use Rattle.orc_call.specs.declared.answer.Tag.{Tag}
use Rattle.orc_device.specs.declared.op.Op.{Op}
use Rattle.orc_device.specs.Nodes.{DeviceKind, NodeState, PendingCommit, op_refusal, denied, refuse, needs_session, is_locked_by_other, is_held_by_other, is_held, is_held_by_session, is_pending, is_pending_under, is_pending_by_other, is_live, kept_by}
use Rattle.orc_call.specs.declared.answer.Tag.TheVariants.{LockDenied, InUse, InvalidValue, OperationFailed, NoSession}
use Rattle.orc_device.specs.declared.op.Op.TheVariants.{LockRunning, LockCandidate, Edit, Validate, CommitConfirmed, Commit, Confirm, Cancel, UnlockCandidate, UnlockRunning, CloseSession, GetRunning}
use Rattle.orc_rules.specs.Facts.{Locks}
use Rattle.orc_worker.specs.declared.stage.Stage.{Stage}
use Rattle.orc_rules.specs.Works.{Intent, Mend, work_operation, resolve}
use Rattle.orc_worker.specs.declared.stage.Stage.TheVariants.{Opening, LockingRunning, LockingCandidate, Editing, Validating, Committing, Refusing, Prepared, Lost, Confirming, Cancelling, Reopening, Recancelling, UnlockingCandidate, UnlockingRunning, Closing, Over}
use Rattle.orc_rules.specs.Works.Mend.{Mopening, Mresolving, MlockingRunning, MlockingCandidate, Mediting, Mvalidating, Mcommitting, MunlockingCandidate, MunlockingRunning, Mclosing}
use Rattle.orc_device.specs.Links.Way.{Denied}
use Rattle.orc_rules.specs.Cells.{Cell, PossibleDue, due_op}
use Rattle.orc_rules.specs.Cells.DeviceRole.{Mends}
use Rattle.orc_rules.specs.Invariant.{Invariant, StageFacts, MendFacts, IsFitting, RunsAccepted, is_preparing_stage}
use Rattle.orc_rules.proofs.Resolving.{known_id}
use Rattle.orc_rules.proofs.NodeLaws.{by_mine}
use Rattle.orc_path.specs.Configurations.{Config}

refuse_past : (b : Bool) (x : Tag) (rest : Option Tag) (tag : Tag) → b ≡ false → refuse b x rest ≡ Some tag → rest ≡ Some tag
refuse_past true x rest tag e h = cc
refuse_past false x rest tag e h = h

refuse_last : (b : Bool) (x tag : Tag) → refuse b x None ≡ Some tag → (b ≡ true) × (x ≡ tag)
refuse_last true x tag h = (refl, cc)
refuse_last false x tag h = cc

no_refusal : {A : Type 0} (b : Bool) (x tag : Tag) → b ≡ false → refuse b x None ≡ Some tag → A
no_refusal true x tag e h = cc
no_refusal false x tag e h = cc

past_session : (k : DeviceKind) (n : NodeState) (s : ℕ) (op : Op) (tag : Tag) → is_live n s ≡ true → op_refusal k n s op ≡ Some tag → denied k n s op ≡ Some tag
past_session k n s op tag live h = refuse_past (needs_session op && not (is_live n s)) NoSession (denied k n s op) tag (go (needs_session op) (is_live n s) live) h
  where
    go : (a b : Bool) → b ≡ true → (a && not b) ≡ false
    go true true e = refl
    go true false e = cc
    go false b e = refl

-- where s alone may hold a lock, no other holds one
not_other : (n : NodeState) (lock : Option ℕ) (s : ℕ) → (lock ≡ None) ⊎ (lock ≡ Some s) → is_held_by_other lock s ≡ false
not_other n None s h = refl
not_other n (Some x) s (inl e) = cc
not_other n (Some x) s (inr e) = go (nat_eq x s) (eq-eqb x s cc)
  where
    go : (b : Bool) → b ≡ true → not b ≡ false
    go true e = refl
    go false e = cc

or_false : (a b : Bool) → a ≡ false → b ≡ false → (a || b) ≡ false
or_false true b e f = cc
or_false false b e f = f

not_yes : (b : Bool) → b ≡ true → not b ≡ false
not_yes true e = refl
not_yes false e = cc

yes_not : (b : Bool) → not b ≡ true → b ≡ false
yes_not true e = cc
yes_not false e = refl

pub no_other_lock : (n : NodeState) (s : ℕ) → Locks n s → is_locked_by_other n s ≡ false
no_other_lock n s h = or_false (is_held_by_other n.running_lock s) (is_held_by_other n.candidate_lock s)
    (not_other n n.running_lock s (elim h.run [ inl e ↦ inl e | inr p ↦ inr p.0 ]))
    (not_other n n.candidate_lock s (elim h.cand [ inl p ↦ inl p.0 | inr p ↦ inr p.0 ]))

free_lock : (l : Option ℕ) → l ≡ None → is_held l ≡ false
free_lock None e = refl
free_lock (Some x) e = cc

none_other : (p : Option (PendingCommit)) (s : ℕ) → p ≡ None → is_pending_by_other p s ≡ false
none_other None s e = refl
none_other (Some x) s e = cc

none_pending : (p : Option (PendingCommit)) → p ≡ None → is_pending p ≡ false
none_pending None e = refl
none_pending (Some x) e = cc

live_of_link : (a b : Bool) → b ≡ false → (not a && not b) ≡ false → a ≡ true
live_of_link true b e h = refl
live_of_link false true e h = cc
live_of_link false false e h = cc

-- What a reconciliation may be answered: nothing but that there is nothing to resolve.
abbrev pub IsHarmless : Mend → Tag → Type 0
IsHarmless (Mresolving (t ∷ ts)) tag = tag ≡ InvalidValue
IsHarmless m tag = ⊥

-- each prefix's tree is accepted
abbrev pub AcceptsAll : {Call : Type 0} → DeviceKind → (List Call → Config) → List Call → Type 0
AcceptsAll k over history = (n : ℕ) → k.accepts (over (take n history)) ≡ true

module _ {Call : Type 0} (k : DeviceKind) (over : List Call → Config) (fit : IsFitting k over) (c : Cell Call) (inv : Invariant over c) (opened : nat_eq c.session 0 ≡ false) where
  pub lives : (not (is_live c.node c.session) && not (nat_eq c.session 0)) ≡ false → is_live c.node c.session ≡ true
  lives = live_of_link (is_live c.node c.session) (nat_eq c.session 0) opened

  edit_allowed : (x y : List Call) (tag : Tag) → c.node.candidate_lock ≡ Some c.session → op_refusal k c.node c.session (Edit (k.between (over x) (over y))) ≡ Some tag → is_live c.node c.session ≡ true → ⊥
  edit_allowed x y tag held h live =
      no_refusal (not (k.fits (k.between (over x) (over y)))) InvalidValue tag (not_yes _ (fit.fits x y))
      (refuse_past (is_held_by_other c.node.candidate_lock c.session) InUse _ tag (not_other c.node c.node.candidate_lock c.session (inr held))
      (past_session k c.node c.session (Edit (k.between (over x) (over y))) tag live h))

  lock_allowed : (tag : Tag) → c.node.running_lock ≡ None → c.node.pending ≡ None → op_refusal k c.node c.session LockRunning ≡ Some tag → is_live c.node c.session ≡ true → ⊥
  lock_allowed tag lock none h live =
      no_refusal (is_held c.node.running_lock || is_pending_by_other c.node.pending c.session) LockDenied tag
      (or_false _ _ (free_lock c.node.running_lock lock) (none_other c.node.pending c.session none)) (past_session k c.node c.session LockRunning tag live h)

  candidate_allowed : (tag : Tag) → c.node.candidate_lock ≡ None → c.node.candidate ≡ c.node.running → op_refusal k c.node c.session LockCandidate ≡ Some tag → is_live c.node c.session ≡ true → ⊥
  candidate_allowed tag lock same h live =
      no_refusal (is_held c.node.candidate_lock || not (k.same c.node.candidate c.node.running)) LockDenied tag
      (or_false _ _ (free_lock c.node.candidate_lock lock) (not_yes _ (subst (λ x. k.same x c.node.running ≡ true) (sym same) (fit.equal c.node.running))))
      (past_session k c.node c.session LockCandidate tag live h)

  -- A worker in preparing is refused only where the device doesn't accept the tree due.
  pub worker_refused : (o : Intent Call) (st : Stage) (tag : Tag) → is_preparing_stage st ≡ true → StageFacts over c o st →
      PossibleDue k c.node c.session (work_operation k o st) (Denied tag) → (tag ≡ OperationFailed) × (k.accepts o.due ≡ false)
  worker_refused o Opening tag e f p = cc
  worker_refused o LockingRunning tag e f p = absurd (lock_allowed tag f.2.run f.1.none p.0 (lives p.1))
  worker_refused o LockingCandidate tag e f p = absurd (candidate_allowed tag f.3.0 f.3.1 p.0 (lives p.1))
  worker_refused o Editing tag e f p =
      absurd (edit_allowed c.history (c.history ++ o.call ∷ []) tag (f.3 (lives p.1)).0
      (subst (λ x. op_refusal k c.node c.session (Edit (k.between x (over (c.history ++ o.call ∷ [])))) ≡ Some tag) (sym f.0.before)
      (subst (λ x. op_refusal k c.node c.session (Edit (k.between o.before x)) ≡ Some tag) (sym f.0.due) p.0)) (lives p.1))
  worker_refused o Validating tag e f p =
      let q = refuse_last (not (k.accepts c.node.candidate)) OperationFailed tag (past_session k c.node c.session Validate tag (lives p.1) p.0) in
      (sym q.1, ap k.accepts (sym (f.3 (lives p.1)).1) ∙ yes_not (k.accepts c.node.candidate) q.0)
  worker_refused o Committing tag e f p =
      let op : Op = CommitConfirmed o.t 120 in
      let q = refuse_last (not (k.accepts c.node.candidate)) OperationFailed tag
      (refuse_past (is_locked_by_other c.node c.session || (is_pending c.node.pending && not (is_pending_under c.node.pending o.t))) InUse _ tag
      (or_false _ _ (no_other_lock c.node c.session inv.locks) (ap (λ b. b && not (is_pending_under c.node.pending o.t)) (none_pending c.node.pending f.1.none)))
      (past_session k c.node c.session op tag (lives p.1) p.0)) in
      (sym q.1, ap k.accepts (sym (f.3 (lives p.1)).1) ∙ yes_not (k.accepts c.node.candidate) q.0)
  worker_refused o Refusing tag e f p = cc
  worker_refused o Prepared tag e f p = cc
  worker_refused o Lost tag e f p = cc
  worker_refused o Confirming tag e f p = cc
  worker_refused o Cancelling tag e f p = cc
  worker_refused o Reopening tag e f p = cc
  worker_refused o Recancelling tag e f p = cc
  worker_refused o UnlockingCandidate tag e f p = cc
  worker_refused o UnlockingRunning tag e f p = cc
  worker_refused o Closing tag e f p = cc
  worker_refused o Over tag e f p = cc

  accepted_at : (n : ℕ) → AcceptsAll k over c.history → c.node.candidate ≡ over (take n c.history) → k.accepts c.node.candidate ≡ true
  accepted_at n all e = ap k.accepts e ∙ all n

  accepted_whole : AcceptsAll k over c.history → k.accepts (over c.history) ≡ true
  accepted_whole all = ap (λ (h : List Call). k.accepts (over h)) (sym (take-length c.history)) ∙ all (length c.history)

  confirm_harmless : (t n : ℕ) (tag : Tag) → c.place t ≡ Some n → c.node.candidate ≡ c.node.running → AcceptsAll k over c.history →
      op_refusal k c.node c.session (Confirm t) ≡ Some tag → is_live c.node c.session ≡ true → tag ≡ InvalidValue
  confirm_harmless t n tag place same all h live = go (is_pending_under c.node.pending t) refl
      (refuse_past (is_locked_by_other c.node c.session) InUse _ tag (no_other_lock c.node c.session inv.locks) (past_session k c.node c.session (Confirm t) tag live h))
    where
      accepted : is_pending_under c.node.pending t ≡ true → k.accepts c.node.candidate ≡ true
      accepted e =
          let q = inv.known t (known_id c.node.pending t e) in
          accepted_at n all (same ∙ q.held.running ∙ sym (inv.placed t n q.intent q.unsettled place q.unresolved).1)

      go : (b : Bool) → is_pending_under c.node.pending t ≡ b → refuse (not b) InvalidValue (refuse (not (k.accepts c.node.candidate)) OperationFailed None) ≡ Some tag → tag ≡ InvalidValue
      go true e r = absurd (no_refusal (not (k.accepts c.node.candidate)) OperationFailed tag (not_yes _ (accepted e)) r)
      go false e r = cc

  pub cancel_harmless : (t : ℕ) (tag : Tag) → op_refusal k c.node c.session (Cancel t) ≡ Some tag → is_live c.node c.session ≡ true → tag ≡ InvalidValue
  cancel_harmless t tag h live = sym (refuse_last (not (is_pending_under c.node.pending t)) InvalidValue tag (past_session k c.node c.session (Cancel t) tag live h)).1

  unlock_allowed : (tag : Tag) → c.node.candidate_lock ≡ Some c.session → op_refusal k c.node c.session UnlockCandidate ≡ Some tag → is_live c.node c.session ≡ true → ⊥
  unlock_allowed tag e h live = no_refusal (not (is_held_by_session c.node.candidate_lock c.session)) OperationFailed tag (not_yes _ (by_mine c.node.candidate_lock c.session e)) (past_session k c.node c.session UnlockCandidate tag live h)

  unlock_running_allowed : (tag : Tag) → c.node.running_lock ≡ Some c.session → op_refusal k c.node c.session UnlockRunning ≡ Some tag → is_live c.node c.session ≡ true → ⊥
  unlock_running_allowed tag e h live = no_refusal (not (is_held_by_session c.node.running_lock c.session)) OperationFailed tag (not_yes _ (by_mine c.node.running_lock c.session e)) (past_session k c.node c.session UnlockRunning tag live h)

  -- where every prefix's tree is accepted
  pub mender_refused : (m : Mend) (tag : Tag) → AcceptsAll k over c.history → MendFacts over c m →
      PossibleDue k c.node c.session (due_op k over c (Mends m)) (Denied tag) → IsHarmless m tag
  mender_refused (Mopening ts) tag all f p = cc
  mender_refused (Mresolving []) tag all f p = past_nothing (past_session k c.node c.session GetRunning tag (lives p.1) p.0)
    where
      past_nothing : None ≡ Some tag → ⊥
      past_nothing e = cc
  mender_refused (Mresolving (t ∷ ts)) tag all f p = go (c.place t) refl p
    where
      go : (q : Option ℕ) → c.place t ≡ q → PossibleDue k c.node c.session (Some (resolve q t)) (Denied tag) → tag ≡ InvalidValue
      go None e r = cancel_harmless t tag r.0 (lives r.1)
      go (Some n) e r = confirm_harmless t n tag e f.1.same all r.0 (lives r.1)
  mender_refused (MlockingRunning read) tag all f p = lock_allowed tag f.1.run f.0.none p.0 (lives p.1)
  mender_refused (MlockingCandidate read) tag all f p = candidate_allowed tag f.2.0 f.2.1 p.0 (lives p.1)
  mender_refused (Mediting read) tag all f p =
      edit_allowed (take c.at c.history) c.history tag (f.2 (lives p.1)).0
      (subst (λ x. op_refusal k c.node c.session (Edit (k.between x (over c.history))) ≡ Some tag) read_is p.0) (lives p.1)
    where
      read_is : read ≡ over (take c.at c.history)
      read_is = sym f.0.running ∙ sym (ap (λ q. kept_by q c.node.running) f.0.none) ∙ inv.kept_at
  mender_refused Mvalidating tag all f p =
      no_refusal (not (k.accepts c.node.candidate)) OperationFailed tag (not_yes _ (ap k.accepts (f.2 (lives p.1)).1 ∙ accepted_whole all)) (past_session k c.node c.session Validate tag (lives p.1) p.0)
  mender_refused Mcommitting tag all f p =
      no_refusal (not (k.accepts c.node.candidate)) OperationFailed tag (not_yes _ (ap k.accepts (f.2 (lives p.1)).1 ∙ accepted_whole all))
      (refuse_past (is_locked_by_other c.node c.session || is_pending c.node.pending) InUse _ tag
      (or_false _ _ (no_other_lock c.node c.session inv.locks) (none_pending c.node.pending f.0))
      (past_session k c.node c.session Commit tag (lives p.1) p.0))
  mender_refused MunlockingCandidate tag all f p = unlock_allowed tag (f.2 (lives p.1)) p.0 (lives p.1)
  mender_refused MunlockingRunning tag all f p = unlock_running_allowed tag (f.1 (lives p.1)) p.0 (lives p.1)
  mender_refused Mclosing tag all f p = past_nothing (past_session k c.node c.session CloseSession tag (lives p.1) p.0)
    where
      past_nothing : None ≡ Some tag → ⊥
      past_nothing e = cc

  -- where candidate equals running and the device accepts what it runs, Confirm is refused only where nothing of t is pending
  pub confirm_only_invalid : (t : ℕ) (tag : Tag) → c.node.candidate ≡ c.node.running → RunsAccepted k c.node → op_refusal k c.node c.session (Confirm t) ≡ Some tag → is_live c.node c.session ≡ true → tag ≡ InvalidValue
  confirm_only_invalid t tag same a h live = go (is_pending_under c.node.pending t)
      (refuse_past (is_locked_by_other c.node c.session) InUse _ tag (no_other_lock c.node c.session inv.locks) (past_session k c.node c.session (Confirm t) tag live h))
    where
      accepted : k.accepts c.node.candidate ≡ true
      accepted = ap k.accepts same ∙ a.running

      go : (b : Bool) → refuse (not b) InvalidValue (refuse (not (k.accepts c.node.candidate)) OperationFailed None) ≡ Some tag → tag ≡ InvalidValue
      go true r = absurd (no_refusal (not (k.accepts c.node.candidate)) OperationFailed tag (not_yes _ accepted) r)
      go false r = cc
