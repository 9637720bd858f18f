-- What is written in the journal keeps the invariant of each device.
use Rattle.std.proofs.Common.{subst, eq-eqb, eqb-true, ℕ, ◌+◌, ◌≡◌, ◌≤◌, ◌⊎◌, inl, inr, Bool, true, false, nat_eq, Option, Some, None, List, [], ◌∷◌, ◌++◌, take, refl, sym, ◌∙◌, ap, cond, length, arith, length-append}
use Rattle.std.proofs.lemmas.List.{take-append-le}
use Rattle.std.proofs.Math.Seq.{take-length}
use Rattle.orc_rules.specs.Facts.{Quiet}
use Rattle.orc_worker.specs.declared.stage.Stage.{Stage}
use Rattle.orc_rules.specs.Works.{Intent, Mend}
use Rattle.orc_worker.specs.declared.stage.Stage.TheVariants.{Opening, LockingRunning, LockingCandidate, Editing, Validating, Committing, Refusing, Prepared, Lost, Confirming, Cancelling, Reopening, Recancelling, UnlockingCandidate, UnlockingRunning, Closing, Over}
use Rattle.orc_rules.specs.Works.Mend.{Mopening, Mresolving, MlockingRunning, MlockingCandidate, Mediting, Mvalidating, Mcommitting, MunlockingCandidate, MunlockingRunning, Mclosing}
use Rattle.orc_rules.specs.Cells.{Cell, DeviceRole, updated_at, cell_admitted, decided, decided_role, aborted, aborted_role, settled, released, mending, new_intent}
use Rattle.orc_rules.specs.Cells.DeviceRole.{Free, Works, Mends}
use Rattle.orc_rules.specs.Invariant.{Invariant, RoleFacts, StageFacts, MendFacts, IsUndecided, IsLeft, AtRest, MayAdmit, MayDecide, MayDecideElsewhere, MaySettle, MayRest, MayMend, Commutes, IsNotOn, is_open}
use Rattle.orc_rules.proofs.Working.{no_id}
use Rattle.orc_rules.proofs.Resolving.{false_true}
use Rattle.orc_path.specs.Configurations.{Config}

-- a map given anew at a number
pub given_at : {A : Type 0} (f : ℕ → A) (t : ℕ) (a : A) → updated_at f t a t ≡ a
given_at f t a = go (nat_eq t t) (eq-eqb t t refl)
  where
    go : (b : Bool) → b ≡ true → cond b a (f t) ≡ a
    go true e = refl
    go false e = cc

pub given_other : {A : Type 0} (f : ℕ → A) (t : ℕ) (a : A) (x : ℕ) → nat_eq t x ≡ false → updated_at f t a x ≡ f x
given_other f t a x h = go (nat_eq t x) h
  where
    go : (b : Bool) → b ≡ false → cond b a (f x) ≡ f x
    go true e = cc
    go false e = refl

-- either it is the number, or it isn't
pub either : (t x : ℕ) → (t ≡ x) ⊎ (nat_eq t x ≡ false)
either t x = go (nat_eq t x) refl
  where
    go : (b : Bool) → nat_eq t x ≡ b → (t ≡ x) ⊎ (nat_eq t x ≡ false)
    go true e = inl (eqb-true t x e)
    go false e = inr e

pub some_none : {A B : Type 0} (x : Option A) (a : A) → x ≡ Some a → x ≡ None → B
some_none x a e f = absurd (let both : Some a ≡ None = sym e ∙ f in cc)

module _ {Call : Type 0} (over : List Call → Config) (c : Cell Call) (inv : Invariant over c) where
  pub admitted_keeps : (t : ℕ) (call : Call) → MayAdmit over c t → Invariant over (cell_admitted over c t call)
  admitted_keeps t call may =
      let o = new_intent over c.history t call in
      let q : Quiet c.node (over c.history) = subst (λ r. RoleFacts over c r) may.free inv.role may.fresh in
      record {
        locks = inv.locks;
        at = inv.at;
        kept_at = inv.kept_at;
        known = λ x e. absurd (no_id c.node.pending x q.none e);
        number = λ x p e. elim (either t x) [
          | inl s ↦ (let both : Some o ≡ Some p = sym (given_at c.open_intent t (Some o)) ∙ ap (updated_at c.open_intent t (Some o)) s ∙ e in cc)
          | inr ne ↦ inv.number x p (sym (given_other c.open_intent t (Some o) x ne) ∙ e)
        ];
        placed = λ x k p e f g. elim (either t x) [
          | inl s ↦ some_none (c.place x) k f (sym (ap c.place s) ∙ may.undecided)
          | inr ne ↦ inv.placed x k p (sym (given_other c.open_intent t (Some o) x ne) ∙ e) f (sym (given_other c.clear t false x ne) ∙ g)
        ];
        role = (given_at c.open_intent t (Some o), (record { unresolved = given_at c.clear t false; place = may.undecided; before = refl; due = refl }, q));
      }

  rested : (r : DeviceRole Call) → MayRest over r → RoleFacts over c r → AtRest c.node (over c.history) c.stale
  rested (Works o Over) may f = f.1
  rested (Works o st) may f = absurd may
  rested Free may f = f
  rested (Mends m) may f = f.0

  pub released_keeps : MayRest over c.role → Invariant over (released c)
  released_keeps may = record {
    locks = inv.locks;
    at = inv.at;
    kept_at = inv.kept_at;
    known = inv.known;
    number = inv.number;
    placed = inv.placed;
    role = rested c.role may inv.role;
  }

  aborted_facts : (t : ℕ) (r : DeviceRole Call) → RoleFacts over c r → RoleFacts over (aborted c t) (aborted_role t r)
  aborted_facts t Free f = f
  aborted_facts t (Works o Prepared) f = go (nat_eq t o.t)
    where
      go : (b : Bool) → RoleFacts over (aborted c t) (cond b (Works o Cancelling) (Works o Prepared))
      go true = (f.0, (record { place = f.1.0.place; before = f.1.0.before }, f.1.1))
      go false = f
  aborted_facts t (Works o Lost) f = go (nat_eq t o.t)
    where
      go : (b : Bool) → RoleFacts over (aborted c t) (cond b (Works o Reopening) (Works o Lost))
      go true = (f.0, (f.1.0, f.1.1))
      go false = f
  aborted_facts t (Works o Opening) f = f
  aborted_facts t (Works o LockingRunning) f = f
  aborted_facts t (Works o LockingCandidate) f = f
  aborted_facts t (Works o Editing) f = f
  aborted_facts t (Works o Validating) f = f
  aborted_facts t (Works o Committing) f = f
  aborted_facts t (Works o Refusing) f = f
  aborted_facts t (Works o Confirming) f = f
  aborted_facts t (Works o Cancelling) f = f
  aborted_facts t (Works o Reopening) f = f
  aborted_facts t (Works o Recancelling) f = f
  aborted_facts t (Works o UnlockingCandidate) f = f
  aborted_facts t (Works o UnlockingRunning) f = f
  aborted_facts t (Works o Closing) f = f
  aborted_facts t (Works o Over) f = f
  aborted_facts t (Mends (Mopening ts)) f = f
  aborted_facts t (Mends (Mresolving ts)) f = f
  aborted_facts t (Mends (MlockingRunning read)) f = f
  aborted_facts t (Mends (MlockingCandidate read)) f = f
  aborted_facts t (Mends (Mediting read)) f = f
  aborted_facts t (Mends Mvalidating) f = f
  aborted_facts t (Mends Mcommitting) f = f
  aborted_facts t (Mends MunlockingCandidate) f = f
  aborted_facts t (Mends MunlockingRunning) f = f
  aborted_facts t (Mends Mclosing) f = f

  pub aborted_keeps : (t : ℕ) → Invariant over (aborted c t)
  aborted_keeps t = record {
    locks = inv.locks;
    at = inv.at;
    kept_at = inv.kept_at;
    known = inv.known;
    number = inv.number;
    placed = inv.placed;
    role = aborted_facts t c.role inv.role;
  }

  pub mending_keeps : (ts : List ℕ) → MayMend over c ts → Invariant over (mending c ts)
  mending_keeps ts may = record {
    locks = inv.locks;
    at = inv.at;
    kept_at = inv.kept_at;
    known = inv.known;
    number = inv.number;
    placed = inv.placed;
    role = (subst (λ r. RoleFacts over c r) may.free inv.role, λ t e. let q = inv.known t e in may.all t q.intent q.unsettled);
  }

  settled_facts : (t : ℕ) (r : DeviceRole Call) → IsNotOn over t r → RoleFacts over c r → RoleFacts over (settled c t) r
  settled_facts t Free e f = f
  settled_facts t (Works o st) e f = (given_other c.open_intent t None o.t e ∙ f.0, stage o st f.1)
    where
      stage : (o : Intent Call) (st : Stage) → StageFacts over c o st → StageFacts over (settled c t) o st
      stage o Opening f = f
      stage o LockingRunning f = f
      stage o LockingCandidate f = f
      stage o Editing f = f
      stage o Validating f = f
      stage o Committing f = f
      stage o Refusing f = f
      stage o Prepared f = f
      stage o Lost f = f
      stage o Confirming f = f
      stage o Cancelling f = f
      stage o Reopening f = f
      stage o Recancelling f = f
      stage o UnlockingCandidate f = f
      stage o UnlockingRunning f = f
      stage o Closing f = f
      stage o Over f = f
  settled_facts t (Mends m) e f = (f.0, mend m f.1)
    where
      mend : (m : Mend) → MendFacts over c m → MendFacts over (settled c t) m
      mend (Mopening ts) f = f
      mend (Mresolving ts) f = f
      mend (MlockingRunning read) f = f
      mend (MlockingCandidate read) f = f
      mend (Mediting read) f = f
      mend Mvalidating f = f
      mend Mcommitting f = f
      mend MunlockingCandidate f = f
      mend MunlockingRunning f = f
      mend Mclosing f = f

  pub settled_keeps : (t : ℕ) → MaySettle over c t → Invariant over (settled c t)
  settled_keeps t may = record {
    locks = inv.locks;
    at = inv.at;
    kept_at = inv.kept_at;
    known = λ x e. let q = inv.known x e in elim (either t x) [
      | inl s ↦ false_true (c.clear x) (sym (ap c.clear s) ∙ may.clear q.intent (ap c.open_intent s ∙ q.unsettled)) q.unresolved
      | inr ne ↦ record { intent = q.intent; unsettled = given_other c.open_intent t None x ne ∙ q.unsettled; unresolved = q.unresolved; held = q.held }
    ];
    number = λ x o e. inv.number x o (still t x o e);
    placed = λ x k o e f g. inv.placed x k o (still t x o e) f g;
    role = settled_facts t c.role may.ended inv.role;
  }
    where
      still : (t x : ℕ) (o : Intent Call) → updated_at c.open_intent t None x ≡ Some o → c.open_intent x ≡ Some o
      still t x o e = elim (either t x) [
        | inl s ↦ some_none (updated_at c.open_intent t None x) o e (sym (ap (updated_at c.open_intent t None) s) ∙ given_at c.open_intent t None)
        | inr ne ↦ sym (given_other c.open_intent t None x ne) ∙ e
      ]

  -- the history with one call more

  front_stays : (k : ℕ) (call : Call) → k ≤ length c.history → over (take k (c.history ++ call ∷ [])) ≡ over (take k c.history)
  front_stays k call h = ap over (take-append-le k c.history (call ∷ []) h)

  longer : (k : ℕ) (call : Call) → k ≤ length c.history → k ≤ length (c.history ++ call ∷ [])
  longer k call h = omega (arith, length-append c.history (call ∷ []))

  elsewhere_undecided : (t : ℕ) (call : Call) (o : Intent Call) → nat_eq t o.t ≡ false → over (c.history ++ call ∷ []) ≡ over c.history →
      over ((c.history ++ call ∷ []) ++ o.call ∷ []) ≡ over (c.history ++ o.call ∷ []) →
      IsUndecided over c.history c.place c.clear o → IsUndecided over (decided c t call).history (decided c t call).place c.clear o
  elsewhere_undecided t call o ne frame commutes u = record {
    unresolved = u.unresolved;
    place = given_other c.place t (Some (length c.history + 1)) o.t ne ∙ u.place;
    before = frame ∙ u.before;
    due = commutes ∙ u.due;
  }

  elsewhere_left : (t : ℕ) (call : Call) (o : Intent Call) → nat_eq t o.t ≡ false → over (c.history ++ call ∷ []) ≡ over c.history →
      IsLeft over c.history c.place o → IsLeft over (decided c t call).history (decided c t call).place o
  elsewhere_left t call o ne frame u = record { place = given_other c.place t (Some (length c.history + 1)) o.t ne ∙ u.place; before = frame ∙ u.before }

  elsewhere_quiet : (call : Call) → over (c.history ++ call ∷ []) ≡ over c.history → Quiet c.node (over c.history) → Quiet c.node (over (c.history ++ call ∷ []))
  elsewhere_quiet call frame q = record { none = q.none; running = q.running ∙ sym frame }

  elsewhere_stage : (t : ℕ) (call : Call) (o : Intent Call) (st : Stage) → nat_eq t o.t ≡ false → over (c.history ++ call ∷ []) ≡ over c.history →
      (is_open st ≡ true → over ((c.history ++ call ∷ []) ++ o.call ∷ []) ≡ over (c.history ++ o.call ∷ [])) →
      StageFacts over c o st → StageFacts over (decided c t call) o st
  elsewhere_stage t call o Opening ne fr co f = (elsewhere_undecided t call o ne fr (co refl) f.0, elsewhere_quiet call fr f.1)
  elsewhere_stage t call o LockingRunning ne fr co f = (elsewhere_undecided t call o ne fr (co refl) f.0, elsewhere_quiet call fr f.1, f.2)
  elsewhere_stage t call o LockingCandidate ne fr co f = (elsewhere_undecided t call o ne fr (co refl) f.0, elsewhere_quiet call fr f.1, f.2, f.3)
  elsewhere_stage t call o Editing ne fr co f = (elsewhere_undecided t call o ne fr (co refl) f.0, elsewhere_quiet call fr f.1, f.2, f.3)
  elsewhere_stage t call o Validating ne fr co f = (elsewhere_undecided t call o ne fr (co refl) f.0, elsewhere_quiet call fr f.1, f.2, f.3)
  elsewhere_stage t call o Committing ne fr co f = (elsewhere_undecided t call o ne fr (co refl) f.0, elsewhere_quiet call fr f.1, f.2, f.3)
  elsewhere_stage t call o Refusing ne fr co f = elsewhere_quiet call fr f
  elsewhere_stage t call o Prepared ne fr co f = (elsewhere_undecided t call o ne fr (co refl) f.0, f.1, f.2)
  elsewhere_stage t call o Lost ne fr co f = (elsewhere_left t call o ne fr f.0, f.1, f.2)
  elsewhere_stage t call o Confirming ne fr co f =
      (record { n = f.0.n; unresolved = f.0.unresolved; place = given_other c.place t (Some (length c.history + 1)) o.t ne ∙ f.0.place; due = fr ∙ f.0.due }, f.1, f.2)
  elsewhere_stage t call o Cancelling ne fr co f = (elsewhere_left t call o ne fr f.0, f.1)
  elsewhere_stage t call o Reopening ne fr co f = (elsewhere_left t call o ne fr f.0, f.1)
  elsewhere_stage t call o Recancelling ne fr co f = (elsewhere_left t call o ne fr f.0, f.1)
  elsewhere_stage t call o UnlockingCandidate ne fr co f = λ e. elsewhere_quiet call fr (f e)
  elsewhere_stage t call o UnlockingRunning ne fr co f = λ e. elsewhere_quiet call fr (f e)
  elsewhere_stage t call o Closing ne fr co f = λ e. elsewhere_quiet call fr (f e)
  elsewhere_stage t call o Over ne fr co f = λ e. elsewhere_quiet call fr (f e)

  elsewhere_mend : (t : ℕ) (call : Call) (m : Mend) → over (c.history ++ call ∷ []) ≡ over c.history → MendFacts over c m → MendFacts over (decided c t call) m
  elsewhere_mend t call (Mopening ts) fr f = f
  elsewhere_mend t call (Mresolving ts) fr f = f
  elsewhere_mend t call (MlockingRunning read) fr f = f
  elsewhere_mend t call (MlockingCandidate read) fr f = f
  elsewhere_mend t call (Mediting read) fr f = f
  elsewhere_mend t call Mvalidating fr f = (f.0, f.1, λ l. let q = f.2 l in (q.0, q.1 ∙ sym fr))
  elsewhere_mend t call Mcommitting fr f = (f.0, f.1, λ l. let q = f.2 l in (q.0, q.1 ∙ sym fr))
  elsewhere_mend t call MunlockingCandidate fr f = (elsewhere_quiet call fr f.0, f.1, f.2)
  elsewhere_mend t call MunlockingRunning fr f = (elsewhere_quiet call fr f.0, f.1)
  elsewhere_mend t call Mclosing fr f = elsewhere_quiet call fr f

  elsewhere_role : (t : ℕ) (call : Call) (r : DeviceRole Call) → c.open_intent t ≡ None → over (c.history ++ call ∷ []) ≡ over c.history →
      Commutes over c.history call r → RoleFacts over c r → RoleFacts over (decided c t call) (decided_role t r)
  elsewhere_role t call Free unnamed fr co f = λ e. elsewhere_quiet call fr (f e)
  elsewhere_role t call (Works o Prepared) unnamed fr co f = go (nat_eq t o.t) refl
    where
      go : (b : Bool) → nat_eq t o.t ≡ b → RoleFacts over (decided c t call) (cond b (Works o Confirming) (Works o Prepared))
      go true e = some_none (c.open_intent o.t) o f.0 (sym (ap c.open_intent (eqb-true t o.t e)) ∙ unnamed)
      go false e = (f.0, elsewhere_stage t call o Prepared e fr co f.1)
  elsewhere_role t call (Works o st) unnamed fr co f = (f.0, elsewhere_stage t call o st other fr co f.1)
    where
      other : nat_eq t o.t ≡ false
      other = elim (either t o.t) [ inl s ↦ some_none (c.open_intent o.t) o f.0 (sym (ap c.open_intent s) ∙ unnamed) | inr ne ↦ ne ]
  elsewhere_role t call (Mends m) unnamed fr co f = (λ e. elsewhere_quiet call fr (f.0 e), elsewhere_mend t call m fr f.1)

  -- another device's intent is decided
  pub elsewhere_keeps : (t : ℕ) (call : Call) → MayDecideElsewhere over c t call → Invariant over (decided c t call)
  elsewhere_keeps t call may = record {
    locks = inv.locks;
    at = longer c.at call inv.at;
    kept_at = inv.kept_at ∙ sym (front_stays c.at call inv.at);
    known = inv.known;
    number = inv.number;
    placed = λ x k o e f g.
        let ne : nat_eq t x ≡ false = elim (either t x) [ inl s ↦ some_none (c.open_intent x) o e (sym (ap c.open_intent s) ∙ may.unnamed) | inr ne ↦ ne ] in
        let old = inv.placed x k o e (sym (given_other c.place t (Some (length c.history + 1)) x ne) ∙ f) g in
        (longer k call old.0, front_stays k call old.0 ∙ old.1);
    role = elsewhere_role t call c.role may.unnamed may.frame may.commutes inv.role;
  }

  -- this device's intent is decided
  pub decided_keeps : (t : ℕ) (call : Call) → MayDecide over c t call → Invariant over (decided c t call)
  decided_keeps t call may = record {
    locks = inv.locks;
    at = longer c.at call inv.at;
    kept_at = inv.kept_at ∙ sym (front_stays c.at call inv.at);
    known = inv.known;
    number = inv.number;
    placed = λ x k o e f g. elim (either t x) [
      | inl s ↦ placed_now x k o e f s
      | inr ne ↦ let old = inv.placed x k o e (sym (given_other c.place t (Some (length c.history + 1)) x ne) ∙ f) g in
          (longer k call old.0, front_stays k call old.0 ∙ old.1)
    ];
    role = subst (λ r. RoleFacts over (decided c t call) (decided_role t r)) (sym may.prepared) here;
  }
    where
      facts : RoleFacts over c (Works may.intent Prepared)
      facts = subst (λ r. RoleFacts over c r) may.prepared inv.role

      due : over (c.history ++ call ∷ []) ≡ may.intent.due
      due = sym (ap (λ x. over (c.history ++ x ∷ [])) may.call_is) ∙ facts.1.0.due

      long : length (c.history ++ call ∷ []) ≡ length c.history + 1
      long = length-append c.history (call ∷ [])

      whole : over (take (length c.history + 1) (c.history ++ call ∷ [])) ≡ may.intent.due
      whole = ap (λ k. over (take k (c.history ++ call ∷ []))) (sym long) ∙ ap over (take-length (c.history ++ call ∷ [])) ∙ due

      placed_now : (x k : ℕ) (o : Intent Call) → c.open_intent x ≡ Some o → updated_at c.place t (Some (length c.history + 1)) x ≡ Some k → t ≡ x →
          (k ≤ length (c.history ++ call ∷ [])) × (over (take k (c.history ++ call ∷ [])) ≡ o.due)
      placed_now x k o e f s =
          let k_is : Some (length c.history + 1) ≡ Some k = sym (given_at c.place t (Some (length c.history + 1))) ∙ ap (updated_at c.place t (Some (length c.history + 1))) s ∙ f in
          let k_now : length c.history + 1 ≡ k = cc in
          let same : Some may.intent ≡ Some o = sym facts.0 ∙ ap c.open_intent (may.number ∙ s) ∙ e in
          let o_now : may.intent ≡ o = cc in
          (omega (arith, long, k_now), ap (λ k. over (take k (c.history ++ call ∷ []))) (sym k_now) ∙ whole ∙ ap (λ o. o.due) o_now)

      here : RoleFacts over (decided c t call) (decided_role t (Works may.intent Prepared))
      here = go (nat_eq t may.intent.t) (eq-eqb t may.intent.t (sym may.number))
        where
          go : (b : Bool) → b ≡ true → RoleFacts over (decided c t call) (cond b (Works may.intent Confirming) (Works may.intent Prepared))
          go true e = (facts.0, (record { n = length c.history + 1; unresolved = facts.1.0.unresolved; place = ap (updated_at c.place t (Some (length c.history + 1))) may.number ∙ given_at c.place t (Some (length c.history + 1)); due = due }, facts.1.1, facts.1.2))
          go false e = cc
