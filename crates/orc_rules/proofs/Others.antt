-- Ticks, restarts and stops keep the invariant.
use Rattle.std.proofs.Common.{ℕ, ◌≡◌, ◌-◌, ◌⊎◌, inl, inr, Bool, true, false, nat_lt, Option, Some, None, List, refl, sym, ◌∙◌, ap, cond}
use Rattle.orc_device.specs.Nodes.{NodeState, PendingCommit, is_live, is_held, kept_tree, kept_by, ticked, ticked_by, reverted_by, dropped, restarted}
use Rattle.orc_rules.specs.Facts.{Locks, Unlocked, Quiet, Held, pending_id}
use Rattle.orc_worker.specs.declared.stage.Stage.{Stage}
use Rattle.orc_rules.specs.Works.{Intent, Mend}
use Rattle.orc_worker.specs.declared.stage.Stage.TheVariants.{Opening, LockingRunning, LockingCandidate, Editing, Validating, Committing, Refusing, Prepared, Lost, Confirming, Cancelling, Reopening, Recancelling, UnlockingCandidate, UnlockingRunning, Closing, Over}
use Rattle.orc_rules.specs.Works.Mend.{Mopening, Mresolving, MlockingRunning, MlockingCandidate, Mediting, Mvalidating, Mcommitting, MunlockingCandidate, MunlockingRunning, Mclosing}
use Rattle.orc_rules.specs.Cells.{Cell, DeviceRole, at_node, stopped}
use Rattle.orc_rules.specs.Cells.DeviceRole.{Free, Works, Mends}
use Rattle.orc_rules.specs.Invariant.{Invariant, RoleFacts, StageFacts, MendFacts, IsKnown, HeldOrBack, Same, Edits, HoldsRunning, CandidateFree, HoldsCandidate}
use Rattle.orc_rules.proofs.NodeLaws.{locks_of_unlocked, dropped_unlocks, moved_cand}
use Rattle.orc_rules.proofs.Working.{no_id}
use Rattle.orc_path.specs.Configurations.{Config}

-- how a device may change by itself
pub record Turns (n m : NodeState) (s : ℕ) : Type 0 where
  pub locks : Locks n s → Locks m s
  pub quiet : (x : Config) → Quiet n x → Quiet m x
  pub held : (t : ℕ) (before due : Config) → Held n t before due → Held m t before due ⊎ Quiet m before
  pub kept_same : kept_tree m ≡ kept_tree n
  pub id : (t : ℕ) → pending_id m.pending ≡ Some t → pending_id n.pending ≡ Some t
  pub same : Same n → Same m
  pub unlocked : Unlocked n → Unlocked m
  pub free : CandidateFree n → CandidateFree m
  pub holds : n.pending ≡ None → HoldsCandidate n s → HoldsCandidate m s
  pub edits : (x : Config) → n.pending ≡ None → Edits n s x → Edits m s x
  pub run : n.pending ≡ None → HoldsRunning n s → HoldsRunning m s

stays : (n : NodeState) (s : ℕ) → Turns n n s
stays n s = record {
  locks = λ h. h;
  quiet = λ x q. q;
  held = λ t before due h. inl h;
  kept_same = refl;
  id = λ t h. h;
  same = λ h. h;
  unlocked = λ h. h;
  free = λ h. h;
  holds = λ e h. h;
  edits = λ x e h. h;
  run = λ e h. h;
}

reverts : (n : NodeState) (s : ℕ) (p : PendingCommit) → n.pending ≡ Some p → Turns n (reverted_by n (Some p)) s
reverts n s p is = record {
  locks = λ h. record { run = h.run; cand = moved_cand n.candidate_lock s n.candidate n.running p.kept (is_live n s) h.cand };
  quiet = λ x q. absurd (let both : None ≡ Some p = sym q.none ∙ is in cc);
  held = λ t before due h. inr (record { none = refl; running = sym (ap (λ q. kept_by q n.running) is) ∙ h.under });
  kept_same = sym (ap (λ q. kept_by q n.running) is);
  id = λ t h. cc;
  same = λ h. refl;
  unlocked = λ h. record { run = h.run; cand = h.cand; same = refl };
  free = λ h. (h.0, refl);
  holds = λ e h. h;
  edits = λ x e h. absurd (let both : None ≡ Some p = sym e ∙ is in cc);
  run = λ e h. h;
}

counts : (n : NodeState) (s : ℕ) (p : PendingCommit) (seconds : ℕ) → n.pending ≡ Some p → Turns n (record n { pending = Some (record p { left = p.left - seconds }) }) s
counts n s p seconds is = record {
  locks = λ h. record { run = h.run; cand = h.cand };
  quiet = λ x q. absurd (let both : None ≡ Some p = sym q.none ∙ is in cc);
  held = λ t before due h. inl (record { id = sym (ap pending_id is) ∙ h.id; under = sym (ap (λ q. kept_by q n.running) is) ∙ h.under; running = h.running });
  kept_same = sym (ap (λ q. kept_by q n.running) is);
  id = λ t h. ap pending_id is ∙ h;
  same = λ h. h;
  unlocked = λ h. record { run = h.run; cand = h.cand; same = h.same };
  free = λ h. h;
  holds = λ e h. h;
  edits = λ x e h. absurd (let both : None ≡ Some p = sym e ∙ is in cc);
  run = λ e h. h;
}

pub ticked_turns : (n : NodeState) (s seconds : ℕ) → Turns n (ticked n seconds) s
ticked_turns n s seconds = go n.pending refl
  where
    by : (p : PendingCommit) → n.pending ≡ Some p → (b : Bool) → Turns n (cond b (record n { pending = Some (record p { left = p.left - seconds }) }) (reverted_by n (Some p))) s
    by p is true = counts n s p seconds is
    by p is false = reverts n s p is

    go : (q : Option (PendingCommit)) → n.pending ≡ q → Turns n (ticked_by n seconds q) s
    go None is = stays n s
    go (Some p) is = by p is (nat_lt seconds p.left)

cond_same : {A : Type 0} (b : Bool) (x y : A) → y ≡ x → cond b x y ≡ x
cond_same true x y h = refl
cond_same false x y h = h

-- all sessions end
drops : (n : NodeState) (s : ℕ) → Turns n (dropped n) s
drops n s = record {
  locks = λ h. locks_of_unlocked (dropped n) s (dropped_unlocks n s h);
  quiet = λ x q. record { none = q.none; running = q.running };
  held = λ t before due h. inl (record { id = h.id; under = h.under; running = h.running });
  kept_same = refl;
  id = λ t h. h;
  same = λ h. cond_same (is_held n.candidate_lock) n.running n.candidate h;
  unlocked = λ h. record { run = refl; cand = refl; same = cond_same (is_held n.candidate_lock) n.running n.candidate h.same };
  free = λ h. (refl, cond_same (is_held n.candidate_lock) n.running n.candidate h.1);
  holds = λ e h l. cc;
  edits = λ x e h l. cc;
  run = λ e h l. cc;
}

-- one turn after another, where the first leaves a device with nothing pending as it was
both_turns : (n m o : NodeState) (s : ℕ) → (n.pending ≡ None → m ≡ n) → Turns n m s → Turns m o s → Turns n o s
both_turns n m o s still a b = record {
  locks = λ h. b.locks (a.locks h);
  quiet = λ x q. b.quiet x (a.quiet x q);
  held = λ t before due h. elim (a.held t before due h) [ inl h' ↦ b.held t before due h' | inr q ↦ inr (b.quiet before q) ];
  kept_same = b.kept_same ∙ a.kept_same;
  id = λ t h. a.id t (b.id t h);
  same = λ h. b.same (a.same h);
  unlocked = λ h. b.unlocked (a.unlocked h);
  free = λ h. b.free (a.free h);
  holds = λ e h. b.holds (ap (λ z. z.pending) (still e) ∙ e) (a.holds e h);
  edits = λ x e h. b.edits x (ap (λ z. z.pending) (still e) ∙ e) (a.edits x e h);
  run = λ e h. b.run (ap (λ z. z.pending) (still e) ∙ e) (a.run e h);
}

pub dropped_turns : (n : NodeState) (s : ℕ) → Turns n (dropped n) s
dropped_turns n s = drops n s

pub restarted_turns : (n : NodeState) (s : ℕ) → Turns n (restarted n) s
restarted_turns n s = both_turns n (reverted_by n n.pending) (restarted n) s still (go n.pending refl) (drops (reverted_by n n.pending) s)
  where
    still : n.pending ≡ None → reverted_by n n.pending ≡ n
    still e = ap (λ q. reverted_by n q) e

    go : (q : Option (PendingCommit)) → n.pending ≡ q → Turns n (reverted_by n q) s
    go None is = stays n s
    go (Some p) is = reverts n s p is

module _ {Call : Type 0} (over : List Call → Config) (c : Cell Call) (inv : Invariant over c) (m : NodeState) (turns : Turns c.node m c.session) where
  back : (o : Intent Call) → HeldOrBack c.node o → HeldOrBack m o
  back o (inl h) = turns.held o.t o.before o.due h
  back o (inr q) = inr (turns.quiet o.before q)

  known_turns : (t : ℕ) → pending_id m.pending ≡ Some t → IsKnown c.node c.open_intent c.clear t → IsKnown m c.open_intent c.clear t
  known_turns t e q = record {
    intent = q.intent;
    unsettled = q.unsettled;
    unresolved = q.unresolved;
    held = elim (turns.held t q.intent.before q.intent.due q.held) [ inl h ↦ h | inr y ↦ absurd (no_id m.pending t y.none e) ];
  }

  stage_turns : (o : Intent Call) (st : Stage) → StageFacts over c o st → StageFacts over (at_node c m) o st
  stage_turns o Opening f = (f.0, turns.quiet _ f.1)
  stage_turns o LockingRunning f = (f.0, turns.quiet _ f.1, turns.unlocked f.2)
  stage_turns o LockingCandidate f = (f.0, turns.quiet _ f.1, turns.run f.1.none f.2, turns.free f.3)
  stage_turns o Editing f = (f.0, turns.quiet _ f.1, turns.run f.1.none f.2, turns.edits _ f.1.none f.3)
  stage_turns o Validating f = (f.0, turns.quiet _ f.1, turns.run f.1.none f.2, turns.edits _ f.1.none f.3)
  stage_turns o Committing f = (f.0, turns.quiet _ f.1, turns.run f.1.none f.2, turns.edits _ f.1.none f.3)
  stage_turns o Refusing f = turns.quiet _ f
  stage_turns o Prepared f = (f.0, back o f.1, turns.same f.2)
  stage_turns o Lost f = (f.0, back o f.1, f.2)
  stage_turns o Confirming f = (f.0, back o f.1, turns.same f.2)
  stage_turns o Cancelling f = (f.0, back o f.1)
  stage_turns o Reopening f = (f.0, back o f.1)
  stage_turns o Recancelling f = (f.0, back o f.1)
  stage_turns o UnlockingCandidate f = λ e. turns.quiet _ (f e)
  stage_turns o UnlockingRunning f = λ e. turns.quiet _ (f e)
  stage_turns o Closing f = λ e. turns.quiet _ (f e)
  stage_turns o Over f = λ e. turns.quiet _ (f e)

  none_turns : c.node.pending ≡ None → m.pending ≡ None
  none_turns e = (turns.quiet c.node.running (record { none = e; running = refl })).none

  mend_turns : (d : Mend) → MendFacts over c d → MendFacts over (at_node c m) d
  mend_turns (Mopening ts) f = λ t h. f t (turns.id t h)
  mend_turns (Mresolving ts) f = (λ t h. f.0 t (turns.id t h), turns.unlocked f.1)
  mend_turns (MlockingRunning read) f = (turns.quiet _ f.0, turns.unlocked f.1)
  mend_turns (MlockingCandidate read) f = (turns.quiet _ f.0, turns.run f.0.none f.1, turns.free f.2)
  mend_turns (Mediting read) f = (turns.quiet _ f.0, turns.run f.0.none f.1, turns.edits _ f.0.none f.2)
  mend_turns Mvalidating f = (none_turns f.0, turns.run f.0 f.1, turns.edits _ f.0 f.2)
  mend_turns Mcommitting f = (none_turns f.0, turns.run f.0 f.1, turns.edits _ f.0 f.2)
  mend_turns MunlockingCandidate f = (turns.quiet _ f.0, turns.run f.0.none f.1, turns.holds f.0.none f.2)
  mend_turns MunlockingRunning f = (turns.quiet _ f.0, turns.run f.0.none f.1)
  mend_turns Mclosing f = turns.quiet _ f

  role_turns : (r : DeviceRole Call) → RoleFacts over c r → RoleFacts over (at_node c m) r
  role_turns Free f = λ e. turns.quiet _ (f e)
  role_turns (Works o st) f = (f.0, stage_turns o st f.1)
  role_turns (Mends d) f = (λ e. turns.quiet _ (f.0 e), mend_turns d f.1)

  -- a device that changes by itself keeps the invariant
  pub turned_keeps : Invariant over (at_node c m)
  turned_keeps = record {
    locks = turns.locks inv.locks;
    at = inv.at;
    kept_at = turns.kept_same ∙ inv.kept_at;
    known = λ t e. known_turns t e (inv.known t (turns.id t e));
    number = inv.number;
    placed = inv.placed;
    role = role_turns c.role inv.role;
  }

-- a stop keeps it
pub stopped_keeps : {Call : Type 0} (over : List Call → Config) (c : Cell Call) → Invariant over c → Invariant over (stopped c)
stopped_keeps over c inv =
    let h = turned_keeps over c inv (dropped c.node) (dropped_turns c.node c.session) in
    record { locks = h.locks; at = h.at; kept_at = h.kept_at; known = h.known; number = h.number; placed = h.placed; role = λ e. cc }
