-- A worker's operations after a decision, and the last ones, keep the invariant.
use Rattle.std.proofs.Common.{eq-eqb, eqb-true, subst, ℕ, ◌≡◌, ◌≤◌, ◌⊎◌, inl, inr, Bool, true, false, not, ◌&&◌, ◌||◌, Option, Some, None, List, take, refl, sym, ◌∙◌, ap, cond, length}
use Rattle.orc_call.specs.declared.answer.Tag.{Tag}
use Rattle.orc_device.specs.declared.op.Op.{Op}
use Rattle.orc_device.specs.Nodes.{DeviceKind, NodeState, PendingCommit, op_refusal, refuse, is_locked_by_other, is_pending_under, is_live}
use Rattle.orc_call.specs.declared.answer.Tag.TheVariants.{LockDenied, InUse, InvalidValue, OperationFailed, NoSession}
use Rattle.orc_device.specs.declared.reply.Reply.TheVariants.{Refused}
use Rattle.orc_device.specs.declared.op.Op.TheVariants.{OpenSession, Confirm, Cancel, UnlockCandidate, UnlockRunning, CloseSession}
use Rattle.orc_device.specs.Links.{Way, way_node, way_session}
use Rattle.orc_rules.specs.Cells.{MayHappen}
use Rattle.orc_device.specs.Links.Way.{Done, Denied, Stranded, Before, After, NoMemory}
use Rattle.orc_rules.specs.Facts.{Quiet, Held, SameTrees, pending_id}
use Rattle.orc_worker.specs.declared.stage.Stage.{Stage}
use Rattle.orc_device.specs.Operations.{is_resolved}
use Rattle.orc_rules.specs.Works.{Intent, worker_after}
use Rattle.orc_worker.specs.declared.stage.Stage.TheVariants.{Refusing, Confirming, Cancelling, Reopening, Recancelling, UnlockingCandidate, UnlockingRunning, Closing, Over}
use Rattle.orc_rules.specs.Cells.{Cell, worked, cleared, place_or}
use Rattle.orc_rules.specs.Cells.DeviceRole.{Works}
use Rattle.orc_rules.specs.Invariant.{Invariant, StageFacts, IsDecided, IsLeft, HeldOrBack, Same, AtRest}
use Rattle.orc_rules.proofs.NodeLaws.{way_locks, way_trees, quiet_goes, held_goes, kept_goes, allowed, unrefused}
use Rattle.orc_rules.proofs.Working.{uncleared, keeps, plain, no_id, or_true, same_trees}
use Rattle.orc_path.specs.Configurations.{Config}

pub not_true : (b : Bool) → not b ≡ false → b ≡ true
not_true true h = refl
not_true false h = cc

pub under_quiet : (p : Option (PendingCommit)) (t : ℕ) → p ≡ None → is_pending_under p t ≡ true → (⊥)
under_quiet None t e h = cc
under_quiet (Some x) t e h = cc

-- what Confirm and Cancel were not refused for
pub confirms_under : (k : DeviceKind) (n : NodeState) (s t : ℕ) → op_refusal k n s (Confirm t) ≡ None → is_pending_under n.pending t ≡ true
confirms_under k n s t h =
    not_true (is_pending_under n.pending t)
    (unrefused _ InvalidValue _ (unrefused _ InUse _ (allowed k n s (Confirm t) h)).1).0

pub cancels_under : (k : DeviceKind) (n : NodeState) (s t : ℕ) → op_refusal k n s (Cancel t) ≡ None → is_pending_under n.pending t ≡ true
cancels_under k n s t h = not_true (is_pending_under n.pending t) (unrefused _ InvalidValue None (allowed k n s (Cancel t) h)).0

confirm_bools : (a b c d : Bool) → refuse a NoSession (refuse b InUse (refuse (not c) InvalidValue (refuse (not d) OperationFailed None))) ≡ Some InvalidValue → c ≡ false
confirm_bools true b c d h = cc
confirm_bools false true c d h = cc
confirm_bools false false false d h = refl
confirm_bools false false true true h = cc
confirm_bools false false true false h = cc

cancel_bools : (a c : Bool) → refuse a NoSession (refuse (not c) InvalidValue None) ≡ Some InvalidValue → c ≡ false
cancel_bools true c h = cc
cancel_bools false false h = refl
cancel_bools false true h = cc

-- what an invalid-value says
pub confirm_invalid : (k : DeviceKind) (n : NodeState) (s t : ℕ) → op_refusal k n s (Confirm t) ≡ Some InvalidValue → is_pending_under n.pending t ≡ false
confirm_invalid k n s t h = confirm_bools (true && not (is_live n s)) (is_locked_by_other n s) (is_pending_under n.pending t) (k.accepts n.candidate) h

pub cancel_invalid : (k : DeviceKind) (n : NodeState) (s t : ℕ) → op_refusal k n s (Cancel t) ≡ Some InvalidValue → is_pending_under n.pending t ≡ false
cancel_invalid k n s t h = cancel_bools (true && not (is_live n s)) (is_pending_under n.pending t) h

-- a pending commit under t is seen as such
pub id_under : (p : Option (PendingCommit)) (t : ℕ) → pending_id p ≡ Some t → is_pending_under p t ≡ true
id_under None t h = cc
id_under (Some x) t h = eq-eqb x.id t cc

pub known_id : (p : Option (PendingCommit)) (t : ℕ) → is_pending_under p t ≡ true → pending_id p ≡ Some t
known_id None t h = cc
known_id (Some x) t h = ap Some (eqb-true x.id t h)

pub false_true : {A : Type 0} (b : Bool) → b ≡ true → b ≡ false → A
false_true b e f = absurd (let both : true ≡ false = sym e ∙ f in cc)

module _ {Call : Type 0} (k : DeviceKind) (over : List Call → Config) (c : Cell Call) (o : Intent Call) (inv : Invariant over c) (is : c.open_intent o.t ≡ Some o) where
  -- where the device says that nothing of o is pending, it has gone back
  gone_back : HeldOrBack c.node o → is_pending_under c.node.pending o.t ≡ false → Quiet c.node o.before
  gone_back (inl h) e = false_true _ (id_under c.node.pending o.t h.id) e
  gone_back (inr q) e = q

  still_held : HeldOrBack c.node o → is_pending_under c.node.pending o.t ≡ true → Held c.node o.t o.before o.due
  still_held (inl h) e = h
  still_held (inr q) e = absurd (under_quiet c.node.pending o.t q.none e)

  either_goes : (m : NodeState) → SameTrees c.node m → HeldOrBack c.node o → HeldOrBack m o
  either_goes m trees (inl h) = inl (held_goes c.node m o.t o.before o.due trees h)
  either_goes m trees (inr q) = inr (quiet_goes c.node m o.before trees q)

  -- the last operations

  pub refusing : (way : Way) → MayHappen k c.node c.session CloseSession way → StageFacts over c o Refusing → Invariant over (worked k c o Refusing CloseSession way)
  refusing way p f =
      plain k over c o Refusing CloseSession way refl tt p inv is (inl refl)
      (λ _. quiet_goes c.node _ (over c.history) (way_trees k c.node c.session CloseSession way refl) f)

  rests : (m : NodeState) (b : Bool) → SameTrees c.node m → AtRest c.node (over c.history) c.stale → AtRest m (over c.history) (c.stale || b)
  rests m b trees f e = quiet_goes c.node m (over c.history) trees (f (left c.stale b e))
    where
      left : (a b : Bool) → (a || b) ≡ false → a ≡ false
      left true b e = cc
      left false b e = refl

  pub unlocking_candidate : (way : Way) → MayHappen k c.node c.session UnlockCandidate way → StageFacts over c o UnlockingCandidate → Invariant over (worked k c o UnlockingCandidate UnlockCandidate way)
  unlocking_candidate way p f =
      plain k over c o UnlockingCandidate UnlockCandidate way refl tt p inv is (inl refl)
      (rests _ _ (way_trees k c.node c.session UnlockCandidate way refl) f)

  pub unlocking_running : (way : Way) → MayHappen k c.node c.session UnlockRunning way → StageFacts over c o UnlockingRunning → Invariant over (worked k c o UnlockingRunning UnlockRunning way)
  unlocking_running way p f =
      plain k over c o UnlockingRunning UnlockRunning way refl tt p inv is (inl refl)
      (rests _ _ (way_trees k c.node c.session UnlockRunning way refl) f)

  pub closing : (way : Way) → MayHappen k c.node c.session CloseSession way → StageFacts over c o Closing → Invariant over (worked k c o Closing CloseSession way)
  closing way p f =
      plain k over c o Closing CloseSession way refl tt p inv is (inl refl)
      (rests _ _ (way_trees k c.node c.session CloseSession way refl) f)

  vacuous : (m : NodeState) (x : Config) → AtRest m x (c.stale || true)
  vacuous m x e = false_true _ (or_true c.stale) e

  resting : (z : Cell Call) (b : Bool) → AtRest z.node (over z.history) z.stale → StageFacts over z o (cond b UnlockingCandidate Over)
  resting z true f = f
  resting z false f = f

  closes : (z : Cell Call) (b : Bool) → AtRest z.node (over z.history) z.stale → StageFacts over z o (cond b Closing Over)
  closes z true f = f
  closes z false f = f

  -- a refusal says that it isn't resolved, or that nothing is pending
  says : (tag : Tag) → (tag ≡ InvalidValue → is_pending_under c.node.pending o.t ≡ false) → HeldOrBack c.node o → (is_resolved (Refused tag) ≡ false) ⊎ (c.node.pending ≡ None)
  says InvalidValue h f = inr (gone_back f (h refl)).none
  says LockDenied h f = inl refl
  says InUse h f = inl refl
  says OperationFailed h f = inl refl
  says NoSession h f = inl refl

  -- what Confirm leaves where it takes effect
  confirmed : IsDecided over c.history c.place c.clear o → HeldOrBack c.node o → Same c.node → is_pending_under c.node.pending o.t ≡ true →
      (m : NodeState) → SameTrees (way_node k c.node c.session (Confirm o.t) Done) m → Quiet m (over c.history)
  confirmed u f same e m trees =
      let h = still_held f e in
      record { none = trees.pending; running = trees.running ∙ same ∙ h.running ∙ sym u.due }

  pub confirming : (way : Way) → MayHappen k c.node c.session (Confirm o.t) way → StageFacts over c o Confirming → Invariant over (worked k c o Confirming (Confirm o.t) way)
  confirming Done p f =
      let op : Op = Confirm o.t in
      let n = way_node k c.node c.session op Done in
      let q = confirmed f.0 f.1 f.2 (confirms_under k c.node c.session o.t p) n (same_trees n) in
      let placed = inv.placed o.t f.0.n o is f.0.place f.0.unresolved in
      record {
        locks = way_locks k c.node c.session op Done tt p inv.locks;
        at = subst (λ x. place_or x c.at ≤ length c.history) (sym f.0.place) placed.0;
        kept_at = q.running ∙ f.0.due ∙ sym placed.1 ∙ sym (ap (λ x. over (take (place_or x c.at) c.history)) f.0.place);
        known = λ t h. absurd (no_id n.pending t refl h);
        number = inv.number;
        placed = λ x n o' e f g. inv.placed x n o' e f (uncleared true c.clear o.t x g);
        role = (is, λ _. q);
      }
  confirming After p f =
      let op : Op = Confirm o.t in
      let n = way_node k c.node c.session op After in
      let q = confirmed f.0 f.1 f.2 (confirms_under k c.node c.session o.t p) n (record { running = refl; pending = refl }) in
      let placed = inv.placed o.t f.0.n o is f.0.place f.0.unresolved in
      record {
        locks = way_locks k c.node c.session op After tt p inv.locks;
        at = subst (λ x. place_or x c.at ≤ length c.history) (sym f.0.place) placed.0;
        kept_at = q.running ∙ f.0.due ∙ sym placed.1 ∙ sym (ap (λ x. over (take (place_or x c.at) c.history)) f.0.place);
        known = λ t h. absurd (no_id n.pending t refl h);
        number = inv.number;
        placed = inv.placed;
        role = (is, vacuous n (over c.history));
      }
  confirming (Denied tag) p f =
      keeps k over c o Confirming (Confirm o.t) (Denied tag) (same_trees c.node) refl tt p inv is
      (says tag (λ e. confirm_invalid k c.node c.session o.t (p.0 ∙ ap Some e)) f.1)
      (resting (worked k c o Confirming (Confirm o.t) (Denied tag)) (is_resolved (Refused tag)) (vacuous c.node (over c.history)))
  confirming NoMemory p f = keeps k over c o Confirming (Confirm o.t) NoMemory (same_trees c.node) refl tt p inv is (inl refl) (vacuous c.node (over c.history))
  confirming Stranded p f = keeps k over c o Confirming (Confirm o.t) Stranded (same_trees c.node) refl tt p inv is (inl refl) (vacuous c.node (over c.history))
  confirming Before p f =
      let n = way_node k c.node c.session (Confirm o.t) Before in
      keeps k over c o Confirming (Confirm o.t) Before (record { running = refl; pending = refl }) refl tt p inv is (inl refl) (vacuous n (over c.history))

  -- what Cancel leaves where it takes effect
  cancelled : IsLeft over c.history c.place o → HeldOrBack c.node o → is_pending_under c.node.pending o.t ≡ true →
      (m : NodeState) → SameTrees (way_node k c.node c.session (Cancel o.t) Done) m → Quiet m (over c.history)
  cancelled u f e m trees = record { none = trees.pending; running = trees.running ∙ (still_held f e).under ∙ sym u.before }

  -- a Cancel that took effect
  cancel_done : (next : Stage) (way : Way) (clear : Bool) → IsLeft over c.history c.place o → HeldOrBack c.node o → op_refusal k c.node c.session (Cancel o.t) ≡ None →
      MayHappen k c.node c.session (Cancel o.t) way →
      (trees : SameTrees (way_node k c.node c.session (Cancel o.t) Done) (way_node k c.node c.session (Cancel o.t) way)) →
      (stale : Bool) →
      (Quiet (way_node k c.node c.session (Cancel o.t) way) (over c.history) →
      StageFacts over (record c { node = way_node k c.node c.session (Cancel o.t) way; session = way_session c.node c.session (Cancel o.t) way; role = Works o next; stale = stale; clear = cleared clear c.clear o.t; at = c.at }) o next) →
      Invariant over (record c { node = way_node k c.node c.session (Cancel o.t) way; session = way_session c.node c.session (Cancel o.t) way; role = Works o next; stale = stale; clear = cleared clear c.clear o.t; at = c.at })
  cancel_done next way clear u f none p trees stale facts =
      let op : Op = Cancel o.t in
      let n = way_node k c.node c.session op way in
      let q = cancelled u f (cancels_under k c.node c.session o.t none) n trees in
      record {
        locks = way_locks k c.node c.session op way tt p inv.locks;
        at = inv.at;
        kept_at = kept_goes (way_node k c.node c.session op Done) n trees ∙ inv.kept_at;
        known = λ t h. absurd (no_id n.pending t q.none h);
        number = inv.number;
        placed = λ x n o' e f g. inv.placed x n o' e f (uncleared clear c.clear o.t x g);
        role = (is, facts q);
      }

  pub cancelling : (way : Way) → MayHappen k c.node c.session (Cancel o.t) way → StageFacts over c o Cancelling → Invariant over (worked k c o Cancelling (Cancel o.t) way)
  cancelling Done p f = cancel_done UnlockingCandidate Done true f.0 f.1 p p (same_trees (way_node k c.node c.session (Cancel o.t) Done)) (c.stale || false) (λ q. λ _. q)
  cancelling After p f =
      let n = way_node k c.node c.session (Cancel o.t) After in
      cancel_done Over After false f.0 f.1 p p (record { running = refl; pending = refl }) (c.stale || true) (λ q. vacuous n (over c.history))
  cancelling (Denied tag) p f =
      keeps k over c o Cancelling (Cancel o.t) (Denied tag) (same_trees c.node) refl tt p inv is
      (says tag (λ e. cancel_invalid k c.node c.session o.t (p.0 ∙ ap Some e)) f.1)
      (denied tag (λ e. cancel_invalid k c.node c.session o.t (p.0 ∙ ap Some e)))
    where
      back : is_pending_under c.node.pending o.t ≡ false → Quiet c.node (over c.history)
      back e = let q = gone_back f.1 e in record { none = q.none; running = q.running ∙ sym f.0.before }

      denied : (tag : Tag) → (tag ≡ InvalidValue → is_pending_under c.node.pending o.t ≡ false) → StageFacts over (worked k c o Cancelling (Cancel o.t) (Denied tag)) o (worker_after Cancelling (Refused tag))
      denied InvalidValue h = λ _. back (h refl)
      denied LockDenied h = vacuous c.node (over c.history)
      denied InUse h = vacuous c.node (over c.history)
      denied OperationFailed h = vacuous c.node (over c.history)
      denied NoSession h = vacuous c.node (over c.history)
  cancelling NoMemory p f = keeps k over c o Cancelling (Cancel o.t) NoMemory (same_trees c.node) refl tt p inv is (inl refl) (vacuous c.node (over c.history))
  cancelling Stranded p f = keeps k over c o Cancelling (Cancel o.t) Stranded (same_trees c.node) refl tt p inv is (inl refl) (vacuous c.node (over c.history))
  cancelling Before p f =
      let n = way_node k c.node c.session (Cancel o.t) Before in
      keeps k over c o Cancelling (Cancel o.t) Before (record { running = refl; pending = refl }) refl tt p inv is (inl refl) (vacuous n (over c.history))

  pub recancelling : (way : Way) → MayHappen k c.node c.session (Cancel o.t) way → StageFacts over c o Recancelling → Invariant over (worked k c o Recancelling (Cancel o.t) way)
  recancelling Done p f = cancel_done Closing Done true f.0 f.1 p p (same_trees (way_node k c.node c.session (Cancel o.t) Done)) (c.stale || false) (λ q. λ _. q)
  recancelling After p f =
      let n = way_node k c.node c.session (Cancel o.t) After in
      cancel_done Over After false f.0 f.1 p p (record { running = refl; pending = refl }) (c.stale || true) (λ q. vacuous n (over c.history))
  recancelling (Denied tag) p f =
      keeps k over c o Recancelling (Cancel o.t) (Denied tag) (same_trees c.node) refl tt p inv is
      (says tag (λ e. cancel_invalid k c.node c.session o.t (p.0 ∙ ap Some e)) f.1)
      (denied tag (λ e. cancel_invalid k c.node c.session o.t (p.0 ∙ ap Some e)))
    where
      back : is_pending_under c.node.pending o.t ≡ false → Quiet c.node (over c.history)
      back e = let q = gone_back f.1 e in record { none = q.none; running = q.running ∙ sym f.0.before }

      denied : (tag : Tag) → (tag ≡ InvalidValue → is_pending_under c.node.pending o.t ≡ false) → StageFacts over (worked k c o Recancelling (Cancel o.t) (Denied tag)) o (worker_after Recancelling (Refused tag))
      denied InvalidValue h = λ _. back (h refl)
      denied LockDenied h = vacuous c.node (over c.history)
      denied InUse h = vacuous c.node (over c.history)
      denied OperationFailed h = vacuous c.node (over c.history)
      denied NoSession h = vacuous c.node (over c.history)
  recancelling NoMemory p f = keeps k over c o Recancelling (Cancel o.t) NoMemory (same_trees c.node) refl tt p inv is (inl refl) (vacuous c.node (over c.history))
  recancelling Stranded p f = keeps k over c o Recancelling (Cancel o.t) Stranded (same_trees c.node) refl tt p inv is (inl refl) (vacuous c.node (over c.history))
  recancelling Before p f =
      let n = way_node k c.node c.session (Cancel o.t) Before in
      keeps k over c o Recancelling (Cancel o.t) Before (record { running = refl; pending = refl }) refl tt p inv is (inl refl) (vacuous n (over c.history))

  pub reopening : (way : Way) → MayHappen k c.node c.session OpenSession way → StageFacts over c o Reopening → Invariant over (worked k c o Reopening OpenSession way)
  reopening Done p f = plain k over c o Reopening OpenSession Done refl tt p inv is (inl refl) (f.0, either_goes _ (way_trees k c.node c.session OpenSession Done refl) f.1)
  reopening way p f = plain k over c o Reopening OpenSession way refl tt p inv is (inl refl) (vacuous _ (over c.history))
