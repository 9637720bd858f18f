-- What each operation leaves of a device.
use Rattle.std.proofs.Common.{eq-eqb, ℕ, ◌≡◌, ◌⊎◌, inl, inr, Bool, true, false, not, ◌&&◌, nat_eq, Option, Some, None, List, [], ◌∷◌, refl, ◌∙◌, ap, cond, length, nat_lt}
use Rattle.orc_call.specs.declared.answer.Tag.{Tag}
use Rattle.orc_device.specs.declared.op.Op.{Op}
use Rattle.orc_call.specs.declared.answer.Tag.TheVariants.{NoSession}
use Rattle.orc_device.specs.Nodes.{DeviceKind, NodeState, PendingCommit, refuse, op_refusal, denied, needs_session, effect, session_ended, session_begun, roomy, least_of, next_session, is_live, is_held_by_session, is_held, freed, kept_tree, kept_by, dropped}
use Rattle.orc_device.specs.declared.op.Op.TheVariants.{OpenSession, LockRunning, LockCandidate, Edit, Validate, CommitConfirmed, Commit, Confirm, Cancel, Discard, UnlockCandidate, UnlockRunning, CloseSession, GetRunning}
use Rattle.orc_device.specs.Links.{Possible, Way, way_node, way_session, session_after}
use Rattle.orc_rules.specs.Cells.{MayHappen}
use Rattle.orc_device.specs.Links.Way.{Done, Denied, Stranded, Before, After, NoMemory}
use Rattle.orc_rules.specs.Facts.{Unlocked, EditsLocked, is_plain, Locks, Quiet, Held, SameTrees, pending_id}
use Rattle.orc_path.specs.Configurations.{Config}
use Rattle.orc_tree.specs.declared.change.ChangeSet.{ChangeSet}

-- a refusal that isn't made
pub unrefused : (b : Bool) (tag : Tag) (rest : Option Tag) → refuse b tag rest ≡ None → (b ≡ false) × (rest ≡ None)
unrefused true tag rest h = cc
unrefused false tag rest h = (refl, h)

-- trees

crowd_trees : (n : NodeState) (xs : List ℕ) → SameTrees n (roomy n xs)
crowd_trees n [] = record { running = refl; pending = refl }
crowd_trees n (x ∷ xs) = record {
  running = crowded_running n (least_of x xs) (nat_lt 7 (length (x ∷ xs)));
  pending = crowded_pending n (least_of x xs) (nat_lt 7 (length (x ∷ xs)));
}
  where
    crowded_running : (n : NodeState) (y : ℕ) (b : Bool) → (cond b (session_ended n y) n).running ≡ n.running
    crowded_running n y true = refl
    crowded_running n y false = refl

    crowded_pending : (n : NodeState) (y : ℕ) (b : Bool) → (cond b (session_ended n y) n).pending ≡ n.pending
    crowded_pending n y true = refl
    crowded_pending n y false = refl

pub begun_trees : (n : NodeState) → SameTrees n (session_begun n)
begun_trees n =
    let m = session_ended n (next_session n.last) in
    let h = crowd_trees m m.live in record { running = h.running; pending = h.pending }

-- locks

freed_none : (l : Option ℕ) (s : ℕ) → l ≡ None → freed l s ≡ None
freed_none None s h = refl
freed_none (Some x) s h = cc

freed_mine : (l : Option ℕ) (s : ℕ) → l ≡ Some s → freed l s ≡ None
freed_mine None s h = refl
freed_mine (Some x) s h = go (nat_eq x s) (eq-eqb x s cc)
  where
    go : (b : Bool) → b ≡ true → cond b None (Some x) ≡ None
    go true h = refl
    go false h = cc

by_none : (l : Option ℕ) (s : ℕ) → l ≡ None → is_held_by_session l s ≡ false
by_none None s h = refl
by_none (Some x) s h = cc

pub by_mine : (l : Option ℕ) (s : ℕ) → l ≡ Some s → is_held_by_session l s ≡ true
by_mine None s h = cc
by_mine (Some x) s h = eq-eqb x s cc

cond_true : {A : Type 0} (b : Bool) (x y : A) → b ≡ true → cond b x y ≡ x
cond_true true x y h = refl
cond_true false x y h = cc

cond_false : {A : Type 0} (b : Bool) (x y : A) → b ≡ false → cond b x y ≡ y
cond_false true x y h = cc
cond_false false x y h = refl

-- where only s holds locks, its end frees them
pub ended_unlocks : (n : NodeState) (s : ℕ) → Locks n s → Unlocked (session_ended n s)
ended_unlocks n s h = record {
  run = elim h.run [ inl e ↦ freed_none n.running_lock s e | inr p ↦ freed_mine n.running_lock s p.0 ];
  cand = elim h.cand [ inl p ↦ freed_none n.candidate_lock s p.0 | inr p ↦ freed_mine n.candidate_lock s p.0 ];
  same = elim h.cand [
    | inl p ↦ cond_false (is_held_by_session n.candidate_lock s) n.running n.candidate (by_none n.candidate_lock s p.0) ∙ p.1
    | inr p ↦ cond_true (is_held_by_session n.candidate_lock s) n.running n.candidate (by_mine n.candidate_lock s p.0)
  ];
}

pub ended_unlocked : (n : NodeState) (s : ℕ) → Unlocked n → Unlocked (session_ended n s)
ended_unlocked n s h = record {
  run = freed_none n.running_lock s h.run;
  cand = freed_none n.candidate_lock s h.cand;
  same = cond_false (is_held_by_session n.candidate_lock s) n.running n.candidate (by_none n.candidate_lock s h.cand) ∙ h.same;
}

crowd_unlocked : (n : NodeState) (xs : List ℕ) → Unlocked n → Unlocked (roomy n xs)
crowd_unlocked n [] h = h
crowd_unlocked n (x ∷ xs) h = go (nat_lt 7 (length (x ∷ xs)))
  where
    go : (b : Bool) → Unlocked (cond b (session_ended n (least_of x xs)) n)
    go true = ended_unlocked n (least_of x xs) h
    go false = h

pub begun_unlocked : (n : NodeState) → Unlocked n → Unlocked (session_begun n)
begun_unlocked n h =
    let m = session_ended n (next_session n.last) in
    let u = crowd_unlocked m m.live (ended_unlocked n (next_session n.last) h) in
    record { run = u.run; cand = u.cand; same = u.same }

pub locks_of_unlocked : (n : NodeState) (s : ℕ) → Unlocked n → Locks n s
locks_of_unlocked n s h = record { run = inl h.run; cand = inl (h.cand, h.same) }

held_none : (n : NodeState) (s : ℕ) → Locks n s → Unlocked (dropped n)
held_none n s h = record {
  run = refl;
  cand = refl;
  same = elim h.cand [
    | inl p ↦ cond_false (is_held n.candidate_lock) n.running n.candidate (un n.candidate_lock p.0) ∙ p.1
    | inr p ↦ cond_true (is_held n.candidate_lock) n.running n.candidate (on n.candidate_lock s p.0)
  ];
}
  where
    un : (l : Option ℕ) → l ≡ None → is_held l ≡ false
    un None e = refl
    un (Some x) e = cc

    on : (l : Option ℕ) (s : ℕ) → l ≡ Some s → is_held l ≡ true
    on None s e = cc
    on (Some x) s e = refl

pub dropped_unlocks : (n : NodeState) (s : ℕ) → Locks n s → Unlocked (dropped n)
dropped_unlocks = held_none

not_false : (b : Bool) → not b ≡ false → b ≡ true
not_false true h = refl
not_false false h = cc

-- what isn't refused is asked by a live session
pub live_of : (k : DeviceKind) (n : NodeState) (s : ℕ) (op : Op) → needs_session op ≡ true → op_refusal k n s op ≡ None → is_live n s ≡ true
live_of k n s op needs h = go (needs_session op) needs (unrefused (needs_session op && not (is_live n s)) NoSession (denied k n s op) h).0
  where
    go : (b : Bool) → b ≡ true → (b && not (is_live n s)) ≡ false → is_live n s ≡ true
    go true e f = not_false (is_live n s) f
    go false e f = cc

pub allowed : (k : DeviceKind) (n : NodeState) (s : ℕ) (op : Op) → op_refusal k n s op ≡ None → denied k n s op ≡ None
allowed k n s op h = (unrefused (needs_session op && not (is_live n s)) NoSession (denied k n s op) h).1

run_locks : (k : DeviceKind) (n : NodeState) (s : ℕ) → Locks n s → is_live n s ≡ true → Locks (effect k n s LockRunning) s
run_locks k n s h live = record { run = inr (refl, live); cand = h.cand }

cand_locks : (k : DeviceKind) (n : NodeState) (s : ℕ) → Locks n s → is_live n s ≡ true → Locks (effect k n s LockCandidate) s
cand_locks k n s h live = record { run = h.run; cand = inr (refl, live) }

edit_locks : (k : DeviceKind) (n : NodeState) (s : ℕ) (d : ChangeSet) → Locks n s → is_live n s ≡ true → n.candidate_lock ≡ Some s → Locks (effect k n s (Edit d)) s
edit_locks k n s d h live held = record { run = h.run; cand = inr (held, live) }

-- candidate becomes running, or both are set alike
pub moved_cand : (lock : Option ℕ) (s : ℕ) (c r x : Config) (live : Bool) → ((lock ≡ None) × (c ≡ r)) ⊎ ((lock ≡ Some s) × (live ≡ true)) → ((lock ≡ None) × (x ≡ x)) ⊎ ((lock ≡ Some s) × (live ≡ true))
moved_cand lock s c r x live (inl p) = inl (p.0, refl)
moved_cand lock s c r x live (inr p) = inr p

pub done_locks : (k : DeviceKind) (n : NodeState) (s : ℕ) (op : Op) → EditsLocked n s op → op_refusal k n s op ≡ None → Locks n s → Locks (effect k n s op) (session_after n s op)
done_locks k n s OpenSession e r h = locks_of_unlocked (session_begun (session_ended n s)) (next_session n.last) (begun_unlocked (session_ended n s) (ended_unlocks n s h))
done_locks k n s LockRunning e r h = run_locks k n s h (live_of k n s LockRunning refl r)
done_locks k n s LockCandidate e r h = cand_locks k n s h (live_of k n s LockCandidate refl r)
done_locks k n s (Edit d) e r h = let live = live_of k n s (Edit d) refl r in edit_locks k n s d h live (e live)
done_locks k n s Validate e r h = h
done_locks k n s (CommitConfirmed t seconds) e r h = record { run = h.run; cand = moved_cand n.candidate_lock s n.candidate n.running n.candidate (is_live n s) h.cand }
done_locks k n s Commit e r h = record { run = h.run; cand = moved_cand n.candidate_lock s n.candidate n.running n.candidate (is_live n s) h.cand }
done_locks k n s (Confirm t) e r h = record { run = h.run; cand = moved_cand n.candidate_lock s n.candidate n.running n.candidate (is_live n s) h.cand }
done_locks k n s (Cancel t) e r h = record { run = h.run; cand = moved_cand n.candidate_lock s n.candidate n.running (kept_by n.pending n.running) (is_live n s) h.cand }
done_locks k n s Discard e r h = record { run = h.run; cand = moved_cand n.candidate_lock s n.candidate n.running n.running (is_live n s) h.cand }
done_locks k n s UnlockCandidate e r h = record { run = h.run; cand = inl (refl, refl) }
done_locks k n s UnlockRunning e r h = record { run = inl refl; cand = h.cand }
done_locks k n s CloseSession e r h = locks_of_unlocked (session_ended n s) s (ended_unlocks n s h)
done_locks k n s GetRunning e r h = h

-- what is possible may happen
pub may_happen : (k : DeviceKind) (n : NodeState) (s : ℕ) (op : Op) (way : Way) → Possible k n s op way → MayHappen k n s op way
may_happen k n s op Done p = p
may_happen k n s op (Denied tag) p = p
may_happen k n s op Stranded p = p
may_happen k n s op Before p = p
may_happen k n s op After p = p
may_happen k n s op NoMemory p = (p.0, tt)

-- whatever happens to an operation, locks are the link's live session's
pub way_locks : (k : DeviceKind) (n : NodeState) (s : ℕ) (op : Op) (way : Way) → EditsLocked n s op → MayHappen k n s op way → Locks n s → Locks (way_node k n s op way) (way_session n s op way)
way_locks k n s op Done e p h = done_locks k n s op e p h
way_locks k n s op (Denied tag) e p h = h
way_locks k n s op Stranded e p h = h
way_locks k n s op Before e p h = locks_of_unlocked (session_ended n s) s (ended_unlocks n s h)
way_locks k n s op After e p h =
    let m = effect k n s op in let z = session_after n s op in
    locks_of_unlocked (session_ended m z) z (ended_unlocks m z (done_locks k n s op e p h))
way_locks k n s op NoMemory e p h = h

-- plain operations leave the trees

pub effect_trees : (k : DeviceKind) (n : NodeState) (s : ℕ) (op : Op) → is_plain op ≡ true → SameTrees n (effect k n s op)
effect_trees k n s OpenSession h = let b = begun_trees (session_ended n s) in record { running = b.running; pending = b.pending }
effect_trees k n s (CommitConfirmed t seconds) h = cc
effect_trees k n s Commit h = cc
effect_trees k n s (Confirm t) h = cc
effect_trees k n s (Cancel t) h = cc
effect_trees k n s LockRunning h = record { running = refl; pending = refl }
effect_trees k n s LockCandidate h = record { running = refl; pending = refl }
effect_trees k n s (Edit d) h = record { running = refl; pending = refl }
effect_trees k n s Validate h = record { running = refl; pending = refl }
effect_trees k n s Discard h = record { running = refl; pending = refl }
effect_trees k n s UnlockCandidate h = record { running = refl; pending = refl }
effect_trees k n s UnlockRunning h = record { running = refl; pending = refl }
effect_trees k n s CloseSession h = record { running = refl; pending = refl }
effect_trees k n s GetRunning h = record { running = refl; pending = refl }

pub way_trees : (k : DeviceKind) (n : NodeState) (s : ℕ) (op : Op) (way : Way) → is_plain op ≡ true → SameTrees n (way_node k n s op way)
way_trees k n s op Done h = effect_trees k n s op h
way_trees k n s op (Denied tag) h = record { running = refl; pending = refl }
way_trees k n s op Stranded h = record { running = refl; pending = refl }
way_trees k n s op Before h = record { running = refl; pending = refl }
way_trees k n s op After h = let b = effect_trees k n s op h in record { running = b.running; pending = b.pending }
way_trees k n s op NoMemory h = record { running = refl; pending = refl }

-- facts on trees go over

pub quiet_goes : (n m : NodeState) (x : Config) → SameTrees n m → Quiet n x → Quiet m x
quiet_goes n m x h q = record { none = h.pending ∙ q.none; running = h.running ∙ q.running }

pub kept_goes : (n m : NodeState) → SameTrees n m → kept_tree m ≡ kept_tree n
kept_goes n m h = ap (λ (p : Option (PendingCommit)). kept_by p m.running) h.pending ∙ ap (λ x. kept_by n.pending x) h.running

pub held_goes : (n m : NodeState) (t : ℕ) (before due : Config) → SameTrees n m → Held n t before due → Held m t before due
held_goes n m t before due h q = record {
  id = ap pending_id h.pending ∙ q.id;
  under = kept_goes n m h ∙ q.under;
  running = h.running ∙ q.running;
}
