-- A worker's operations keep the invariant.
use Rattle.std.proofs.Common.{subst, ℕ, ◌≡◌, ◌≤◌, ◌⊎◌, inl, inr, Bool, true, false, not, ◌||◌, nat_eq, Option, Some, None, List, [], ◌∷◌, ◌++◌, take, refl, sym, ◌∙◌, ap, cond, length}
use Rattle.orc_call.specs.declared.answer.Tag.{Tag}
use Rattle.orc_device.specs.declared.op.Op.{Op}
use Rattle.orc_device.specs.Nodes.{DeviceKind, NodeState, PendingCommit, kept_by, session_ended}
use Rattle.orc_device.specs.declared.op.Op.TheVariants.{OpenSession, LockRunning, LockCandidate, Edit, Validate, CommitConfirmed, Commit, Confirm, Cancel}
use Rattle.orc_device.specs.Links.{Way, way_node, way_reply, took_effect}
use Rattle.orc_rules.specs.Cells.{MayHappen}
use Rattle.orc_device.specs.Links.Way.{Done, Denied, Stranded, Before, After, NoMemory}
use Rattle.orc_rules.specs.Facts.{Quiet, Held, SameTrees, pending_id, EditsLocked, is_plain}
use Rattle.orc_worker.specs.declared.stage.Stage.{Stage}
use Rattle.orc_rules.specs.Works.{Intent, worker_after, worker_clears}
use Rattle.orc_worker.specs.declared.stage.Stage.TheVariants.{Opening, LockingRunning, LockingCandidate, Editing, Validating, Committing}
use Rattle.orc_rules.specs.Cells.{Cell, worked, at_after, cleared}
use Rattle.orc_rules.specs.Invariant.{Invariant, StageFacts, IsKnown, IsUndecided, IsLeft, HeldOrBack, IsLawful}
use Rattle.orc_rules.proofs.NodeLaws.{way_locks, way_trees, quiet_goes, held_goes, kept_goes, live_of, allowed, unrefused, begun_unlocked, ended_unlocks}
use Rattle.orc_path.specs.Configurations.{Config}

pub known_goes : {Call : Type 0} (n m : NodeState) (open_intent : ℕ → Option (Intent Call)) (clear : ℕ → Bool) (t : ℕ) → SameTrees n m → IsKnown n open_intent clear t → IsKnown m open_intent clear t
known_goes n m open_intent clear t h q = record {
  intent = q.intent;
  unsettled = q.unsettled;
  unresolved = q.unresolved;
  held = held_goes n m t q.intent.before q.intent.due h q.held;
}

pub at_plain : {Call : Type 0} (c : Cell Call) (op : Op) (b : Bool) → is_plain op ≡ true → at_after c op b ≡ c.at
at_plain c op false h = refl
at_plain c (CommitConfirmed t seconds) true h = cc
at_plain c Commit true h = cc
at_plain c (Confirm t) true h = cc
at_plain c (Cancel t) true h = cc
at_plain c op true h = refl

pub no_id : (p : Option (PendingCommit)) (t : ℕ) → p ≡ None → pending_id p ≡ Some t → (⊥)
no_id None t e h = cc
no_id (Some p) t e h = cc

pub or_true : (b : Bool) → (b || true) ≡ true
or_true true = refl
or_true false = refl

-- what isn't cleared now wasn't before
pub uncleared : (b : Bool) (f : ℕ → Bool) (t x : ℕ) → cleared b f t x ≡ false → f x ≡ false
uncleared true f t x h = go (nat_eq t x) h
  where
    go : (b : Bool) → cond b true (f x) ≡ false → f x ≡ false
    go true e = cc
    go false e = e
uncleared false f t x h = h

-- an operation that leaves the trees, in any stage
pub keeps : {Call : Type 0} (k : DeviceKind) (over : List Call → Config) (c : Cell Call) (o : Intent Call) (st : Stage) (op : Op) (way : Way) →
    SameTrees c.node (way_node k c.node c.session op way) → at_after c op (took_effect way) ≡ c.at →
    EditsLocked c.node c.session op → MayHappen k c.node c.session op way → Invariant over c → c.open_intent o.t ≡ Some o →
    (worker_clears st (way_reply c.node op way) ≡ false) ⊎ (c.node.pending ≡ None) →
    StageFacts over (worked k c o st op way) o (worker_after st (way_reply c.node op way)) →
    Invariant over (worked k c o st op way)
keeps k over c o st op way trees at e may inv is clears facts =
    let m = way_node k c.node c.session op way in
    let b = worker_clears st (way_reply c.node op way) in
    record {
      locks = way_locks k c.node c.session op way e may inv.locks;
      at = subst (λ x. x ≤ length c.history) (sym at) inv.at;
      kept_at = kept_goes c.node m trees ∙ inv.kept_at ∙ sym (ap (λ x. over (take x c.history)) at);
      known = λ t h. elim clears [
        | inl f ↦ unclear b f t (known_goes c.node m c.open_intent c.clear t trees (inv.known t (sym (ap pending_id trees.pending) ∙ h)))
        | inr f ↦ absurd (no_id m.pending t (trees.pending ∙ f) h)
      ];
      number = inv.number;
      placed = λ x n o' e f g. inv.placed x n o' e f (uncleared b c.clear o.t x g);
      role = (is, facts);
    }
  where
    unclear : (b : Bool) → b ≡ false → (t : ℕ) → IsKnown (way_node k c.node c.session op way) c.open_intent c.clear t → IsKnown (way_node k c.node c.session op way) c.open_intent (cleared b c.clear o.t) t
    unclear true f t q = cc
    unclear false f t q = q

pub plain : {Call : Type 0} (k : DeviceKind) (over : List Call → Config) (c : Cell Call) (o : Intent Call) (st : Stage) (op : Op) (way : Way) →
    is_plain op ≡ true → EditsLocked c.node c.session op → MayHappen k c.node c.session op way → Invariant over c → c.open_intent o.t ≡ Some o →
    (worker_clears st (way_reply c.node op way) ≡ false) ⊎ (c.node.pending ≡ None) →
    StageFacts over (worked k c o st op way) o (worker_after st (way_reply c.node op way)) →
    Invariant over (worked k c o st op way)
plain k over c o st op way p e may inv is clears facts =
    keeps k over c o st op way (way_trees k c.node c.session op way p) (at_plain c op (took_effect way) p) e may inv is clears facts

pub same_trees : (n : NodeState) → SameTrees n n
same_trees n = record { running = refl; pending = refl }

module _ {Call : Type 0} (k : DeviceKind) (over : List Call → Config) (lawful : IsLawful k over) (c : Cell Call) (o : Intent Call) (inv : Invariant over c) (is : c.open_intent o.t ≡ Some o) where
  -- a link fault in preparing
  lost : (m : NodeState) → SameTrees c.node m → IsUndecided over c.history c.place c.clear o → Quiet c.node (over c.history) → IsLeft over c.history c.place o × HeldOrBack m o × ((c.stale || true) ≡ true)
  lost m trees u q = (record { place = u.place; before = u.before }, inr (quiet_goes c.node m o.before trees (record { none = q.none; running = q.running ∙ u.before })), or_true c.stale)

  refused : (m : NodeState) → SameTrees c.node m → Quiet c.node (over c.history) → Quiet m (over c.history)
  refused m trees q = quiet_goes c.node m (over c.history) trees q

  pub opening : (way : Way) → MayHappen k c.node c.session OpenSession way → StageFacts over c o Opening → Invariant over (worked k c o Opening OpenSession way)
  opening Done p f =
      let trees = way_trees k c.node c.session OpenSession Done refl in
      plain k over c o Opening OpenSession Done refl tt p inv is (inl refl) (f.0, quiet_goes c.node _ (over c.history) trees f.1, begun_unlocked (session_ended c.node c.session) (ended_unlocks c.node c.session inv.locks))
  opening (Denied tag) p f = plain k over c o Opening OpenSession (Denied tag) refl tt p inv is (inr f.1.none) f.1
  opening NoMemory p f = plain k over c o Opening OpenSession NoMemory refl tt p inv is (inr f.1.none) f.1
  opening way p f = plain k over c o Opening OpenSession way refl tt p inv is (inl refl) (lost _ (way_trees k c.node c.session OpenSession way refl) f.0 f.1)

  pub locking_running : (way : Way) → MayHappen k c.node c.session LockRunning way → StageFacts over c o LockingRunning → Invariant over (worked k c o LockingRunning LockRunning way)
  locking_running Done p f =
      let trees = way_trees k c.node c.session LockRunning Done refl in
      plain k over c o LockingRunning LockRunning Done refl tt p inv is (inl refl) (f.0, quiet_goes c.node _ (over c.history) trees f.1, λ _. refl, (f.2.cand, f.2.same))
  locking_running (Denied tag) p f = plain k over c o LockingRunning LockRunning (Denied tag) refl tt p inv is (inr f.1.none) f.1
  locking_running NoMemory p f = plain k over c o LockingRunning LockRunning NoMemory refl tt p inv is (inr f.1.none) f.1
  locking_running way p f = plain k over c o LockingRunning LockRunning way refl tt p inv is (inl refl) (lost _ (way_trees k c.node c.session LockRunning way refl) f.0 f.1)

  neither : (a b : Bool) → (a || b) ≡ false → (a ≡ false) × (b ≡ false)
  neither true b h = cc
  neither false b h = (refl, h)

  not_true : (b : Bool) → not b ≡ false → b ≡ true
  not_true true h = refl
  not_true false h = cc

  pub locking_candidate : (way : Way) → MayHappen k c.node c.session LockCandidate way → StageFacts over c o LockingCandidate → Invariant over (worked k c o LockingCandidate LockCandidate way)
  locking_candidate Done p f =
      let trees = way_trees k c.node c.session LockCandidate Done refl in
      let free = unrefused _ Tag.LockDenied None (allowed k c.node c.session LockCandidate p) in
      let same = lawful.same c.node.candidate c.node.running (not_true _ (neither _ _ free.0).1) in
      plain k over c o LockingCandidate LockCandidate Done refl tt p inv is (inl refl)
      (f.0, quiet_goes c.node _ (over c.history) trees f.1, f.2, λ _. (refl, same ∙ f.1.running ∙ f.0.before))
  locking_candidate (Denied tag) p f = plain k over c o LockingCandidate LockCandidate (Denied tag) refl tt p inv is (inr f.1.none) f.1
  locking_candidate NoMemory p f = plain k over c o LockingCandidate LockCandidate NoMemory refl tt p inv is (inr f.1.none) f.1
  locking_candidate way p f = plain k over c o LockingCandidate LockCandidate way refl tt p inv is (inl refl) (lost _ (way_trees k c.node c.session LockCandidate way refl) f.0 f.1)

  pub editing : (way : Way) → MayHappen k c.node c.session (Edit (k.between o.before o.due)) way → StageFacts over c o Editing → Invariant over (worked k c o Editing (Edit (k.between o.before o.due)) way)
  editing Done p f =
      let op : Op = Edit (k.between o.before o.due) in
      let trees = way_trees k c.node c.session op Done refl in
      let now = f.3 (live_of k c.node c.session op refl p) in
      plain k over c o Editing op Done refl (λ l. (f.3 l).0) p inv is (inl refl) (
        f.0,
        quiet_goes c.node _ (over c.history) trees f.1,
        f.2,
        λ _. (now.0, ap (k.changed (k.between o.before o.due)) now.1 ∙ subst (λ x. k.changed (k.between o.before x) o.before ≡ x) f.0.due (lawful.changed o.before (c.history ++ o.call ∷ []))),
      )
  editing (Denied tag) p f = plain k over c o Editing (Edit (k.between o.before o.due)) (Denied tag) refl (λ l. (f.3 l).0) p inv is (inr f.1.none) f.1
  editing NoMemory p f = plain k over c o Editing (Edit (k.between o.before o.due)) NoMemory refl (λ l. (f.3 l).0) p inv is (inr f.1.none) f.1
  editing way p f = plain k over c o Editing (Edit (k.between o.before o.due)) way refl (λ l. (f.3 l).0) p inv is (inl refl) (lost _ (way_trees k c.node c.session (Edit (k.between o.before o.due)) way refl) f.0 f.1)

  pub validating : (way : Way) → MayHappen k c.node c.session Validate way → StageFacts over c o Validating → Invariant over (worked k c o Validating Validate way)
  validating Done p f = plain k over c o Validating Validate Done refl tt p inv is (inl refl) f
  validating (Denied tag) p f = plain k over c o Validating Validate (Denied tag) refl tt p inv is (inr f.1.none) f.1
  validating NoMemory p f = plain k over c o Validating Validate NoMemory refl tt p inv is (inr f.1.none) f.1
  validating way p f = plain k over c o Validating Validate way refl tt p inv is (inl refl) (lost _ (way_trees k c.node c.session Validate way refl) f.0 f.1)

  -- the node that a confirmed commit leaves, its session alive or ended
  pub confirmed_held : IsUndecided over c.history c.place c.clear o → Quiet c.node (over c.history) → c.node.candidate ≡ o.due →
      (m : NodeState) → SameTrees (way_node k c.node c.session (CommitConfirmed o.t 120) Done) m → Held m o.t o.before o.due
  confirmed_held u q e m trees =
      let n = way_node k c.node c.session (CommitConfirmed o.t 120) Done in
      held_goes n m o.t o.before o.due trees (record {
        id = refl;
        under = kept_quiet c.node.pending c.node.running q.none ∙ q.running ∙ u.before;
        running = e;
      })
    where
      kept_quiet : (p : Option (PendingCommit)) (r : Config) → p ≡ None → kept_by p r ≡ r
      kept_quiet None r e = refl
      kept_quiet (Some x) r e = cc

  -- a pending commit of o
  held_known : (m : NodeState) (clear : ℕ → Bool) → clear o.t ≡ false → Held m o.t o.before o.due → (t : ℕ) → pending_id m.pending ≡ Some t → IsKnown m c.open_intent clear t
  held_known m clear f h t e = subst (λ x. IsKnown m c.open_intent clear x) same (record { intent = o; unsettled = is; unresolved = f; held = h })
    where
      same : o.t ≡ t
      same = let both : Some o.t ≡ Some t = sym h.id ∙ e in cc

  pub committing : (way : Way) → MayHappen k c.node c.session (CommitConfirmed o.t 120) way → StageFacts over c o Committing → Invariant over (worked k c o Committing (CommitConfirmed o.t 120) way)
  committing Done p f =
      let op : Op = CommitConfirmed o.t 120 in
      let n = way_node k c.node c.session op Done in
      let held = confirmed_held f.0 f.1 (f.3 (live_of k c.node c.session op refl p)).1 n (same_trees n) in
      record {
        locks = way_locks k c.node c.session op Done tt p inv.locks;
        at = inv.at;
        kept_at = inv.kept_at;
        known = held_known n c.clear f.0.unresolved held;
        number = inv.number;
        placed = inv.placed;
        role = (is, (f.0, inl held, refl));
      }
  committing After p f =
      let op : Op = CommitConfirmed o.t 120 in
      let n = way_node k c.node c.session op After in
      let held = confirmed_held f.0 f.1 (f.3 (live_of k c.node c.session op refl p)).1 n (record { running = refl; pending = refl }) in
      record {
        locks = way_locks k c.node c.session op After tt p inv.locks;
        at = inv.at;
        kept_at = inv.kept_at;
        known = held_known n c.clear f.0.unresolved held;
        number = inv.number;
        placed = inv.placed;
        role = (is, (record { place = f.0.place; before = f.0.before }, inl held, or_true c.stale));
      }
  committing (Denied tag) p f = keeps k over c o Committing (CommitConfirmed o.t 120) (Denied tag) (same_trees c.node) refl tt p inv is (inr f.1.none) f.1
  committing NoMemory p f = keeps k over c o Committing (CommitConfirmed o.t 120) NoMemory (same_trees c.node) refl tt p inv is (inr f.1.none) f.1
  committing Stranded p f = keeps k over c o Committing (CommitConfirmed o.t 120) Stranded (same_trees c.node) refl tt p inv is (inl refl) (lost c.node (same_trees c.node) f.0 f.1)
  committing Before p f =
      let trees : SameTrees c.node (way_node k c.node c.session (CommitConfirmed o.t 120) Before) = record { running = refl; pending = refl } in
      keeps k over c o Committing (CommitConfirmed o.t 120) Before trees refl tt p inv is (inl refl) (lost _ trees f.0 f.1)
