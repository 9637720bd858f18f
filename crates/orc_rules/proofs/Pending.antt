-- What is pending on a device after an operation, and where the journal has the call of that transaction.
use Rattle.std.proofs.Common.{ℕ, ◌+◌, ◌≡◌, ◌≤◌, ◌⊎◌, inl, inr, Bool, true, false, cond, not, ◌||◌, nat_eq, Option, Some, None, List, [], ◌∷◌, ◌++◌, length, refl, sym, ap, subst, ◌∙◌, arith, append-nil, append_assoc, eqb-true, length-append}
use Rattle.std.proofs.lemmas.Bool.{false≢true}
use Rattle.std.proofs.lemmas.Option.{same_Some}
use Rattle.orc_call.specs.declared.answer.Tag.TheVariants.{InUse, InvalidValue}
use Rattle.orc_call.specs.declared.call.Call.{Call}
use Rattle.orc_device.specs.Links.{Possible, Way, took_effect, way_node}
use Rattle.orc_device.specs.Links.Way.{Done, Denied, Stranded, Before, After, NoMemory}
use Rattle.orc_device.specs.Nodes.{DeviceKind, NodeState, PendingCommit, is_locked_by_other, is_pending, is_pending_under, op_refusal}
use Rattle.orc_device.specs.declared.op.Op.{Op}
use Rattle.orc_device.specs.declared.op.Op.TheVariants.{Cancel, Commit, CommitConfirmed, Confirm}
use Rattle.orc_journal.specs.Committed.{as_calls, call_of}
use Rattle.orc_journal.specs.declared.entry.Entry.{Entry}
use Rattle.orc_journal.specs.declared.entry.Entry.TheVariants as entry
use Rattle.orc_rules.specs.Cells.{updated_at}
use Rattle.orc_rules.specs.Coming.{came_to}
use Rattle.orc_rules.specs.Facts.{pending_id}
use Rattle.orc_rules.specs.Told.{Told, told_by, told_with}
use Rattle.orc_rules.proofs.NodeLaws.{allowed, unrefused, way_trees}
use Rattle.orc_rules.proofs.Resolving.{not_true}
use Rattle.orc_rules.proofs.Telling.{told_push}

-- what took effect wasn't refused
pub took_allowed : (k : DeviceKind) (n : NodeState) (s : ℕ) (one : Op) (happened : Way) → Possible k n s one happened → took_effect happened ≡ true → op_refusal k n s one ≡ None
took_allowed k n s one Done possible h = possible
took_allowed k n s one After possible h = possible
took_allowed k n s one (Denied tag) possible h = absurd (false≢true h)
took_allowed k n s one Stranded possible h = absurd (false≢true h)
took_allowed k n s one Before possible h = absurd (false≢true h)
took_allowed k n s one NoMemory possible h = absurd (false≢true h)

-- a Confirm that is taken finds its commit pending
pub confirm_pends : (k : DeviceKind) (n : NodeState) (s t : ℕ) → op_refusal k n s (Confirm t) ≡ None → pending_id n.pending ≡ Some t
confirm_pends k n s t h =
    under n.pending (not_true (is_pending_under n.pending t)
    (unrefused (not (is_pending_under n.pending t)) InvalidValue _ (unrefused (is_locked_by_other n s) InUse _ (allowed k n s (Confirm t) h)).1).0)
  where
    under : (p : Option PendingCommit) → is_pending_under p t ≡ true → pending_id p ≡ Some t
    under None e = absurd (false≢true e)
    under (Some commit) e = ap (λ (x : ℕ). Some x) (eqb-true commit.id t e)

-- a Commit that is taken finds nothing pending
pub commit_rests : (k : DeviceKind) (n : NodeState) (s : ℕ) → op_refusal k n s Commit ≡ None → pending_id n.pending ≡ None
commit_rests k n s h = none n.pending (neither (is_locked_by_other n s) _ (unrefused (is_locked_by_other n s || is_pending n.pending) InUse _ (allowed k n s Commit h)).0)
  where
    neither : (a b : Bool) → (a || b) ≡ false → b ≡ false
    neither true b e = absurd (false≢true (sym e))
    neither false b e = e

    none : (p : Option PendingCommit) → is_pending p ≡ false → pending_id p ≡ None
    none None e = refl
    none (Some commit) e = absurd (false≢true (sym e))

-- What is pending after an operation was so before it, and the operation brought the device nowhere; or it is a
-- CommitConfirmed of that transaction.
pub data PendsSince (n : NodeState) (one : Op) (happened : Way) (t : ℕ) : Type 0 where
  before : pending_id n.pending ≡ Some t → ((told : Told) (at : ℕ) → cond (took_effect happened) (came_to told at one) at ≡ at) → PendsSince n one happened t
  now : (seconds : ℕ) → one ≡ CommitConfirmed t seconds → PendsSince n one happened t

same_either : (b : Bool) (at : ℕ) → cond b at at ≡ at
same_either true at = refl
same_either false at = refl

none_some : {X : Type 0} (t : ℕ) (o : Option ℕ) → o ≡ None → o ≡ Some t → X
none_some t o none some = absurd (let no : ◌≡◌ {A = Option ℕ} None (Some t) = sym none ∙ some in cc)

pub pends_since : (k : DeviceKind) (n : NodeState) (s : ℕ) (one : Op) (happened : Way) (t : ℕ) → Possible k n s one happened → pending_id (way_node k n s one happened).pending ≡ Some t
    → PendsSince n one happened t
pends_since k n s (CommitConfirmed id seconds) Done t possible is = PendsSince.now seconds (ap (λ (x : ℕ). CommitConfirmed x seconds) (same_Some id t is))
pends_since k n s (CommitConfirmed id seconds) After t possible is = PendsSince.now seconds (ap (λ (x : ℕ). CommitConfirmed x seconds) (same_Some id t is))
pends_since k n s (CommitConfirmed id seconds) (Denied tag) t possible is = PendsSince.before is (λ told at. refl)
pends_since k n s (CommitConfirmed id seconds) Stranded t possible is = PendsSince.before is (λ told at. refl)
pends_since k n s (CommitConfirmed id seconds) Before t possible is = PendsSince.before is (λ told at. refl)
pends_since k n s (CommitConfirmed id seconds) NoMemory t possible is = PendsSince.before is (λ told at. refl)
pends_since k n s Commit Done t possible is = none_some t (pending_id n.pending) (commit_rests k n s possible) is
pends_since k n s Commit After t possible is = none_some t (pending_id n.pending) (commit_rests k n s possible) is
pends_since k n s Commit (Denied tag) t possible is = PendsSince.before is (λ told at. refl)
pends_since k n s Commit Stranded t possible is = PendsSince.before is (λ told at. refl)
pends_since k n s Commit Before t possible is = PendsSince.before is (λ told at. refl)
pends_since k n s Commit NoMemory t possible is = PendsSince.before is (λ told at. refl)
pends_since k n s (Confirm id) Done t possible is = none_some t None refl is
pends_since k n s (Confirm id) After t possible is = none_some t None refl is
pends_since k n s (Confirm id) (Denied tag) t possible is = PendsSince.before is (λ told at. refl)
pends_since k n s (Confirm id) Stranded t possible is = PendsSince.before is (λ told at. refl)
pends_since k n s (Confirm id) Before t possible is = PendsSince.before is (λ told at. refl)
pends_since k n s (Confirm id) NoMemory t possible is = PendsSince.before is (λ told at. refl)
pends_since k n s (Cancel id) Done t possible is = none_some t None refl is
pends_since k n s (Cancel id) After t possible is = none_some t None refl is
pends_since k n s (Cancel id) (Denied tag) t possible is = PendsSince.before is (λ told at. refl)
pends_since k n s (Cancel id) Stranded t possible is = PendsSince.before is (λ told at. refl)
pends_since k n s (Cancel id) Before t possible is = PendsSince.before is (λ told at. refl)
pends_since k n s (Cancel id) NoMemory t possible is = PendsSince.before is (λ told at. refl)
pends_since k n s one happened t possible is =
    PendsSince.before (sym (ap pending_id (way_trees k n s one happened refl).pending) ∙ is) (λ told at. same_either (took_effect happened) at)

-- the place of a transaction's call in the history: what more is read leaves it, or puts the call after all the others

told_grows : (es : List Entry) (e : Entry) → length (told_by es).history ≤ length (told_by (es ++ e ∷ [])).history
told_grows es e = subst (λ (told : Told). length (told_by es).history ≤ length told.history) (sym (told_push es e)) (by e)
  where
    by : (x : Entry) → length (told_by es).history ≤ length (told_with es (told_by es) x).history
    by (entry.Intent t call devices) = omega arith
    by (entry.Decide t) = let whole = length-append (told_by es).history (as_calls (call_of t es)) in omega (arith, whole)
    by (entry.Abort t) = omega arith
    by (entry.Settled t) = omega arith

place_one : (es : List Entry) (e : Entry) (t n : ℕ) → (told_by (es ++ e ∷ [])).place t ≡ Some n → ((told_by es).place t ≡ Some n) ⊎ (length (told_by es).history + 1 ≤ n)
place_one es e t n is = by e (sym (ap (λ (told : Told). told.place t) (told_push es e)) ∙ is)
  where
    by : (x : Entry) → (told_with es (told_by es) x).place t ≡ Some n → ((told_by es).place t ≡ Some n) ⊎ (length (told_by es).history + 1 ≤ n)
    by (entry.Intent u call devices) h = inl h
    by (entry.Decide u) h = on (nat_eq u t) h
      where
        on : (b : Bool) → cond b (Some (length (told_by es).history + 1)) ((told_by es).place t) ≡ Some n → ((told_by es).place t ≡ Some n) ⊎ (length (told_by es).history + 1 ≤ n)
        on true h' = inr (let same = same_Some (length (told_by es).history + 1) n h' in omega (arith, same))
        on false h' = inl h'
    by (entry.Abort u) h = inl h
    by (entry.Settled u) h = inl h

pub place_more : (es front : List Entry) (t n : ℕ) → (told_by (es ++ front)).place t ≡ Some n → ((told_by es).place t ≡ Some n) ⊎ (length (told_by es).history + 1 ≤ n)
place_more es [] t n is = inl (ap (λ (l : List Entry). (told_by l).place t) (sym (append-nil es)) ∙ is)
place_more es (e ∷ front) t n is =
    on (place_more (es ++ e ∷ []) front t n (ap (λ (l : List Entry). (told_by l).place t) (append_assoc es (e ∷ []) front) ∙ is))
  where
    on : ((told_by (es ++ e ∷ [])).place t ≡ Some n) ⊎ (length (told_by (es ++ e ∷ [])).history + 1 ≤ n) → ((told_by es).place t ≡ Some n) ⊎ (length (told_by es).history + 1 ≤ n)
    on (inl there) = place_one es e t n there
    on (inr later) = inr (let grows = told_grows es e in omega (arith, grows, later))
