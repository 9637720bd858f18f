-- A reconciliation's operations keep the invariant.
use Rattle.std.proofs.Common.{subst, eqb-true, ℕ, ◌≡◌, ◌≤◌, ◌⊎◌, inl, inr, Bool, true, false, ◌||◌, nat_eq, Option, Some, None, List, [], ◌∷◌, take, refl, sym, ◌∙◌, ap, cond, length, arith}
use Rattle.std.proofs.Math.Seq.{take-length}
use Rattle.std.specs.List.{list_any}
use Rattle.orc_device.specs.declared.op.Op.{Op}
use Rattle.orc_device.specs.Nodes.{DeviceKind, NodeState, PendingCommit, is_pending_under, kept_by, session_ended}
use Rattle.orc_call.specs.declared.answer.Tag.TheVariants.{LockDenied, InUse, InvalidValue, OperationFailed, NoSession}
use Rattle.orc_device.specs.declared.op.Op.TheVariants.{OpenSession, LockRunning, LockCandidate, Edit, Validate, Commit, Confirm, Cancel, UnlockCandidate, UnlockRunning, CloseSession, GetRunning}
use Rattle.orc_device.specs.Links.{Way, way_node, way_reply, took_effect}
use Rattle.orc_rules.specs.Cells.{MayHappen}
use Rattle.orc_device.specs.Links.Way.{Done, Denied, Stranded, Before, After, NoMemory}
use Rattle.orc_rules.specs.Facts.{Quiet, SameTrees, pending_id, EditsLocked, is_plain}
use Rattle.orc_rules.specs.Works.{Intent, Mend}
use Rattle.orc_rules.specs.Works.Mend.{Mopening, Mresolving, MlockingRunning, MlockingCandidate, Mediting, Mvalidating, Mcommitting, MunlockingCandidate, MunlockingRunning, Mclosing}
use Rattle.orc_rules.specs.Cells.{Cell, Mended, mended, has_intent, mended_role, mended_stale, mended_clear, mender_after, at_after, place_or}
use Rattle.orc_rules.specs.Cells.Mended.{Goes, Whole, Fails}
use Rattle.orc_rules.specs.Invariant.{Invariant, MendFacts, RoleFacts, IsPendingOf, IsKnown, Same, AtRest, IsLawful}
use Rattle.orc_rules.proofs.NodeLaws.{way_locks, way_trees, quiet_goes, kept_goes, live_of, allowed, unrefused, ended_unlocks, begun_unlocked}
use Rattle.orc_rules.proofs.Working.{known_goes, no_id, or_true, same_trees, at_plain}
use Rattle.orc_rules.proofs.Resolving.{not_true, confirms_under, cancels_under, confirm_invalid, cancel_invalid, under_quiet, false_true}
use Rattle.orc_path.specs.Configurations.{Config}

abbrev is_whole : Mended → Bool
is_whole Whole = true
is_whole x = false

unwhole : {Call : Type 0} (n : NodeState) (open_intent : ℕ → Option (Intent Call)) (clear : ℕ → Bool) (x : Mended) (t : ℕ) → is_whole x ≡ false → IsKnown n open_intent clear t → IsKnown n open_intent (mended_clear open_intent clear x) t
unwhole n open_intent clear (Goes m) t e q = q
unwhole n open_intent clear Whole t e q = cc
unwhole n open_intent clear (Fails b) t e q = q

unmended : {I : Type 0} (open_intent : ℕ → Option I) (clear : ℕ → Bool) (x : Mended) (t : ℕ) → mended_clear open_intent clear x t ≡ false → clear t ≡ false
unmended open_intent clear (Goes m) t h = h
unmended open_intent clear Whole t h = go (has_intent (open_intent t)) h
  where
    go : (b : Bool) → (b || clear t) ≡ false → clear t ≡ false
    go true e = cc
    go false e = e
unmended open_intent clear (Fails b) t h = h

-- an operation that leaves the trees
pub mend_keeps : {Call : Type 0} (k : DeviceKind) (over : List Call → Config) (c : Cell Call) (m : Mend) (op : Op) (way : Way) →
    SameTrees c.node (way_node k c.node c.session op way) → at_after c op (took_effect way) ≡ c.at →
    EditsLocked c.node c.session op → MayHappen k c.node c.session op way → Invariant over c →
    (is_whole (mender_after k (over c.history) m (way_reply c.node op way)) ≡ false) ⊎ (c.node.pending ≡ None) →
    RoleFacts over (mended k (over c.history) c m op way) (mended_role (mender_after k (over c.history) m (way_reply c.node op way))) →
    Invariant over (mended k (over c.history) c m op way)
mend_keeps k over c m op way trees at e may inv clears facts =
    let n = way_node k c.node c.session op way in
    let x = mender_after k (over c.history) m (way_reply c.node op way) in
    record {
      locks = way_locks k c.node c.session op way e may inv.locks;
      at = subst (λ x. x ≤ length c.history) (sym at) inv.at;
      kept_at = kept_goes c.node n trees ∙ inv.kept_at ∙ sym (ap (λ x. over (take x c.history)) at);
      known = λ t h. elim clears [
        | inl f ↦ unwhole n c.open_intent c.clear x t f (known_goes c.node n c.open_intent c.clear t trees (inv.known t (sym (ap pending_id trees.pending) ∙ h)))
        | inr f ↦ absurd (no_id n.pending t (trees.pending ∙ f) h)
      ];
      number = inv.number;
      placed = λ y n o e f g. inv.placed y n o e f (unmended c.open_intent c.clear x y g);
      role = facts;
    }

pub mend_plain : {Call : Type 0} (k : DeviceKind) (over : List Call → Config) (c : Cell Call) (m : Mend) (op : Op) (way : Way) →
    is_plain op ≡ true →
    EditsLocked c.node c.session op → MayHappen k c.node c.session op way → Invariant over c →
    (is_whole (mender_after k (over c.history) m (way_reply c.node op way)) ≡ false) ⊎ (c.node.pending ≡ None) →
    RoleFacts over (mended k (over c.history) c m op way) (mended_role (mender_after k (over c.history) m (way_reply c.node op way))) →
    Invariant over (mended k (over c.history) c m op way)
mend_plain k over c m op way p e may inv clears facts =
    mend_keeps k over c m op way (way_trees k c.node c.session op way p) (at_plain c op (took_effect way) p) e may inv clears facts

neither : (a b : Bool) → (a || b) ≡ false → (a ≡ false) × (b ≡ false)
neither true b h = cc
neither false b h = (refl, h)

no_pending : (p : Option (PendingCommit)) → ((t : ℕ) → pending_id p ≡ Some t → ⊥) → p ≡ None
no_pending None h = refl
no_pending (Some x) h = absurd (h x.id refl)

module _ {Call : Type 0} (k : DeviceKind) (over : List Call → Config) (lawful : IsLawful k over) (c : Cell Call) (inv : Invariant over c) (rest : AtRest c.node (over c.history) c.stale) where
  rests : (m : NodeState) (b : Bool) → SameTrees c.node m → AtRest m (over c.history) (c.stale || b)
  rests m b trees e = quiet_goes c.node m (over c.history) trees (rest (neither c.stale b e).0)

  stays : (m : NodeState) → SameTrees c.node m → AtRest m (over c.history) c.stale
  stays m trees e = quiet_goes c.node m (over c.history) trees (rest e)

  vacuous : (m : NodeState) (x : Config) → AtRest m x (c.stale || true)
  vacuous m x e = false_true _ (or_true c.stale) e

  pub mopening : (ts : List ℕ) (way : Way) → MayHappen k c.node c.session OpenSession way → MendFacts over c (Mopening ts) → Invariant over (mended k (over c.history) c (Mopening ts) OpenSession way)
  mopening ts Done p f =
      let trees = way_trees k c.node c.session OpenSession Done refl in
      mend_plain k over c (Mopening ts) OpenSession Done refl tt p inv (inl refl) (
        stays _ trees,
        (
          λ t h. f t (sym (ap pending_id trees.pending) ∙ h),
          begun_unlocked (session_ended c.node c.session) (ended_unlocks c.node c.session inv.locks),
        ),
      )
  mopening ts way p f = mend_plain k over c (Mopening ts) OpenSession way refl tt p inv (inl refl) (rests _ _ (way_trees k c.node c.session OpenSession way refl))

  pub mlocking_running : (read : Config) (way : Way) → MayHappen k c.node c.session LockRunning way → MendFacts over c (MlockingRunning read) → Invariant over (mended k (over c.history) c (MlockingRunning read) LockRunning way)
  mlocking_running read Done p f =
      let trees = way_trees k c.node c.session LockRunning Done refl in
      mend_plain k over c (MlockingRunning read) LockRunning Done refl tt p inv (inl refl) (stays _ trees, (quiet_goes c.node _ read trees f.0, λ _. refl, (f.1.cand, f.1.same)))
  mlocking_running read way p f = mend_plain k over c (MlockingRunning read) LockRunning way refl tt p inv (inl refl) (rests _ _ (way_trees k c.node c.session LockRunning way refl))

  pub mlocking_candidate : (read : Config) (way : Way) → MayHappen k c.node c.session LockCandidate way → MendFacts over c (MlockingCandidate read) → Invariant over (mended k (over c.history) c (MlockingCandidate read) LockCandidate way)
  mlocking_candidate read Done p f =
      let trees = way_trees k c.node c.session LockCandidate Done refl in
      let free = unrefused _ LockDenied None (allowed k c.node c.session LockCandidate p) in
      let same = lawful.same c.node.candidate c.node.running (not_true _ (neither _ _ free.0).1) in
      mend_plain k over c (MlockingCandidate read) LockCandidate Done refl tt p inv (inl refl)
      (stays _ trees, (quiet_goes c.node _ read trees f.0, f.1, λ _. (refl, same ∙ f.0.running)))
  mlocking_candidate read way p f = mend_plain k over c (MlockingCandidate read) LockCandidate way refl tt p inv (inl refl) (rests _ _ (way_trees k c.node c.session LockCandidate way refl))

  pub mediting : (read : Config) (way : Way) → MayHappen k c.node c.session (Edit (k.between read (over c.history))) way → MendFacts over c (Mediting read) → Invariant over (mended k (over c.history) c (Mediting read) (Edit (k.between read (over c.history))) way)
  mediting read Done p f =
      let op : Op = Edit (k.between read (over c.history)) in
      let trees = way_trees k c.node c.session op Done refl in
      let now = f.2 (live_of k c.node c.session op refl p) in
      mend_plain k over c (Mediting read) op Done refl (λ l. (f.2 l).0) p inv (inl refl)
      (stays _ trees, (f.0.none, f.1, λ _. (now.0, ap (k.changed (k.between read (over c.history))) now.1 ∙ lawful.changed read c.history)))
  mediting read way p f = mend_plain k over c (Mediting read) (Edit (k.between read (over c.history))) way refl (λ l. (f.2 l).0) p inv (inl refl) (rests _ _ (way_trees k c.node c.session (Edit (k.between read (over c.history))) way refl))

  pub mvalidating : (way : Way) → MayHappen k c.node c.session Validate way → MendFacts over c Mvalidating → Invariant over (mended k (over c.history) c Mvalidating Validate way)
  mvalidating Done p f = mend_plain k over c Mvalidating Validate Done refl tt p inv (inl refl) (rest, f)
  mvalidating way p f = mend_plain k over c Mvalidating Validate way refl tt p inv (inl refl) (rests _ _ (way_trees k c.node c.session Validate way refl))

  pub mcommitting : (way : Way) → MayHappen k c.node c.session Commit way → MendFacts over c Mcommitting → Invariant over (mended k (over c.history) c Mcommitting Commit way)
  mcommitting Done p f =
      let op : Op = Commit in
      let n = way_node k c.node c.session op Done in
      let now = f.2 (live_of k c.node c.session op refl p) in
      let q : Quiet n (over c.history) = record { none = f.0; running = now.1 } in
      record {
        locks = way_locks k c.node c.session op Done tt p inv.locks;
        at = omega arith;
        kept_at = ap (λ x. kept_by x n.running) f.0 ∙ now.1 ∙ sym (ap over (take-length c.history));
        known = λ t h. absurd (no_id n.pending t f.0 h);
        number = inv.number;
        placed = inv.placed;
        role = (λ _. q, (q, f.1, λ l. (f.2 l).0));
      }
  mcommitting After p f =
      let op : Op = Commit in
      let n = way_node k c.node c.session op After in
      let now = f.2 (live_of k c.node c.session op refl p) in
      record {
        locks = way_locks k c.node c.session op After tt p inv.locks;
        at = omega arith;
        kept_at = ap (λ x. kept_by x n.running) f.0 ∙ now.1 ∙ sym (ap over (take-length c.history));
        known = λ t h. absurd (no_id n.pending t f.0 h);
        number = inv.number;
        placed = inv.placed;
        role = vacuous n (over c.history);
      }
  mcommitting (Denied tag) p f = mend_keeps k over c Mcommitting Commit (Denied tag) (same_trees c.node) refl tt p inv (inl refl) (rests c.node false (same_trees c.node))
  mcommitting NoMemory p f = mend_keeps k over c Mcommitting Commit NoMemory (same_trees c.node) refl tt p inv (inl refl) (rests c.node false (same_trees c.node))
  mcommitting Stranded p f = mend_keeps k over c Mcommitting Commit Stranded (same_trees c.node) refl tt p inv (inl refl) (rests c.node true (same_trees c.node))
  mcommitting Before p f =
      let trees : SameTrees c.node (way_node k c.node c.session Commit Before) = record { running = refl; pending = refl } in
      mend_keeps k over c Mcommitting Commit Before trees refl tt p inv (inl refl) (rests _ true trees)

  pub munlocking_candidate : (way : Way) → MayHappen k c.node c.session UnlockCandidate way → MendFacts over c MunlockingCandidate → Invariant over (mended k (over c.history) c MunlockingCandidate UnlockCandidate way)
  munlocking_candidate Done p f =
      let trees = way_trees k c.node c.session UnlockCandidate Done refl in
      mend_plain k over c MunlockingCandidate UnlockCandidate Done refl tt p inv (inl refl) (stays _ trees, (quiet_goes c.node _ (over c.history) trees f.0, f.1))
  munlocking_candidate way p f = mend_plain k over c MunlockingCandidate UnlockCandidate way refl tt p inv (inl refl) (rests _ _ (way_trees k c.node c.session UnlockCandidate way refl))

  pub munlocking_running : (way : Way) → MayHappen k c.node c.session UnlockRunning way → MendFacts over c MunlockingRunning → Invariant over (mended k (over c.history) c MunlockingRunning UnlockRunning way)
  munlocking_running Done p f =
      let trees = way_trees k c.node c.session UnlockRunning Done refl in
      mend_plain k over c MunlockingRunning UnlockRunning Done refl tt p inv (inl refl) (stays _ trees, quiet_goes c.node _ (over c.history) trees f.0)
  munlocking_running way p f = mend_plain k over c MunlockingRunning UnlockRunning way refl tt p inv (inl refl) (rests _ _ (way_trees k c.node c.session UnlockRunning way refl))

  pub mclosing : (way : Way) → MayHappen k c.node c.session CloseSession way → MendFacts over c Mclosing → Invariant over (mended k (over c.history) c Mclosing CloseSession way)
  mclosing Done p f =
      let trees = way_trees k c.node c.session CloseSession Done refl in
      mend_plain k over c Mclosing CloseSession Done refl tt p inv (inr f.none) (λ _. quiet_goes c.node _ (over c.history) trees f)
  mclosing way p f = mend_plain k over c Mclosing CloseSession way refl tt p inv (inl refl) (rests _ _ (way_trees k c.node c.session CloseSession way refl))

  pub reading : (way : Way) → MayHappen k c.node c.session GetRunning way → MendFacts over c (Mresolving []) → Invariant over (mended k (over c.history) c (Mresolving []) GetRunning way)
  reading Done p f =
      mend_plain k over c (Mresolving []) GetRunning Done refl tt p inv (whole (k.same c.node.running (over c.history)))
      (facts (k.same c.node.running (over c.history)) refl)
    where
      whole : (b : Bool) → (is_whole (cond b (Goes Mclosing) (Goes (MlockingRunning c.node.running))) ≡ false) ⊎ (c.node.pending ≡ None)
      whole true = inl refl
      whole false = inl refl

      none : c.node.pending ≡ None
      none = no_pending c.node.pending (λ t h. let e = f.0 t h in cc)

      stale_is : (b : Bool) → mended_stale c.stale (cond b (Goes Mclosing) (Goes (MlockingRunning c.node.running))) ≡ c.stale
      stale_is true = refl
      stale_is false = refl

      facts : (b : Bool) → k.same c.node.running (over c.history) ≡ b →
          RoleFacts over (mended k (over c.history) c (Mresolving []) GetRunning Done) (mended_role (cond b (Goes Mclosing) (Goes (MlockingRunning c.node.running))))
      facts true e = (λ z. rest (sym (stale_is (k.same c.node.running (over c.history))) ∙ z), record { none = none; running = lawful.same c.node.running (over c.history) e })
      facts false e = (λ z. rest (sym (stale_is (k.same c.node.running (over c.history))) ∙ z), (record { none = none; running = refl }, f.1))
  reading way p f = mend_plain k over c (Mresolving []) GetRunning way refl tt p inv (inl refl) (rests _ _ (way_trees k c.node c.session GetRunning way refl))

  -- what is pending under t is known, and the device is stale
  known_under : (t : ℕ) → is_pending_under c.node.pending t ≡ true → pending_id c.node.pending ≡ Some t
  known_under t h = go c.node.pending h
    where
      go : (p : Option (PendingCommit)) → is_pending_under p t ≡ true → pending_id p ≡ Some t
      go None h = cc
      go (Some x) h = ap Some (eqb-true x.id t h)

  never_rests : (t : ℕ) → is_pending_under c.node.pending t ≡ true → (m : NodeState) → AtRest m (over c.history) c.stale
  never_rests t h m e = absurd (under_quiet c.node.pending t (rest e).none h)

  -- where t isn't pending, it is among the others
  others : (t : ℕ) (ts : List ℕ) → is_pending_under c.node.pending t ≡ false → IsPendingOf over c (t ∷ ts) → IsPendingOf over c ts
  others t ts e f x h = go (nat_eq x t) refl (f x h)
    where
      under : (p : Option (PendingCommit)) → pending_id p ≡ Some x → nat_eq x t ≡ is_pending_under p t
      under None h = cc
      under (Some y) h = let q : y.id ≡ x = cc in ap (λ z. nat_eq z t) (sym q)

      go : (b : Bool) → nat_eq x t ≡ b → (b || list_any (nat_eq x) ts) ≡ true → list_any (nat_eq x) ts ≡ true
      go true q h' = false_true true refl (sym q ∙ under c.node.pending h ∙ e)
      go false q h' = h'

  -- Confirm, of a decided intent
  confirm_quiet : (t n : ℕ) → c.place t ≡ Some n → Same c.node → is_pending_under c.node.pending t ≡ true →
      (c.node.candidate ≡ over (take n c.history)) × (n ≤ length c.history)
  confirm_quiet t n place same under =
      let q = inv.known t (known_under t under) in
      let placed = inv.placed t n q.intent q.unsettled place q.unresolved in
      (same ∙ q.held.running ∙ sym placed.1, placed.0)

  pub resolving_confirm : (t n : ℕ) (ts : List ℕ) → c.place t ≡ Some n → (way : Way) → MayHappen k c.node c.session (Confirm t) way → MendFacts over c (Mresolving (t ∷ ts)) → Invariant over (mended k (over c.history) c (Mresolving (t ∷ ts)) (Confirm t) way)
  resolving_confirm t n ts place Done p f =
      let op : Op = Confirm t in
      let m = way_node k c.node c.session op Done in
      let under = confirms_under k c.node c.session t p in
      let q = confirm_quiet t n place f.1.same under in
      record {
        locks = way_locks k c.node c.session op Done tt p inv.locks;
        at = subst (λ x. place_or x c.at ≤ length c.history) (sym place) q.1;
        kept_at = q.0 ∙ sym (ap (λ x. over (take (place_or x c.at) c.history)) place);
        known = λ t h. absurd (no_id m.pending t refl h);
        number = inv.number;
        placed = inv.placed;
        role = (never_rests t under m, (λ t h. absurd (no_id m.pending t refl h), record { run = f.1.run; cand = f.1.cand; same = refl }));
      }
  resolving_confirm t n ts place After p f =
      let op : Op = Confirm t in
      let m = way_node k c.node c.session op After in
      let under = confirms_under k c.node c.session t p in
      let q = confirm_quiet t n place f.1.same under in
      record {
        locks = way_locks k c.node c.session op After tt p inv.locks;
        at = subst (λ x. place_or x c.at ≤ length c.history) (sym place) q.1;
        kept_at = q.0 ∙ sym (ap (λ x. over (take (place_or x c.at) c.history)) place);
        known = λ t h. absurd (no_id m.pending t refl h);
        number = inv.number;
        placed = inv.placed;
        role = vacuous m (over c.history);
      }
  resolving_confirm t n ts place (Denied InvalidValue) p f =
      mend_keeps k over c (Mresolving (t ∷ ts)) (Confirm t) (Denied InvalidValue) (same_trees c.node) refl tt p inv (inl refl)
      (rest, (others t ts (confirm_invalid k c.node c.session t p.0) f.0, f.1))
  resolving_confirm t n ts place (Denied LockDenied) p f = mend_keeps k over c (Mresolving (t ∷ ts)) (Confirm t) (Denied LockDenied) (same_trees c.node) refl tt p inv (inl refl) (rests c.node false (same_trees c.node))
  resolving_confirm t n ts place (Denied InUse) p f = mend_keeps k over c (Mresolving (t ∷ ts)) (Confirm t) (Denied InUse) (same_trees c.node) refl tt p inv (inl refl) (rests c.node false (same_trees c.node))
  resolving_confirm t n ts place (Denied OperationFailed) p f = mend_keeps k over c (Mresolving (t ∷ ts)) (Confirm t) (Denied OperationFailed) (same_trees c.node) refl tt p inv (inl refl) (rests c.node false (same_trees c.node))
  resolving_confirm t n ts place (Denied NoSession) p f = mend_keeps k over c (Mresolving (t ∷ ts)) (Confirm t) (Denied NoSession) (same_trees c.node) refl tt p inv (inl refl) (rests c.node false (same_trees c.node))
  resolving_confirm t n ts place NoMemory p f = mend_keeps k over c (Mresolving (t ∷ ts)) (Confirm t) NoMemory (same_trees c.node) refl tt p inv (inl refl) (rests c.node false (same_trees c.node))
  resolving_confirm t n ts place Stranded p f = mend_keeps k over c (Mresolving (t ∷ ts)) (Confirm t) Stranded (same_trees c.node) refl tt p inv (inl refl) (rests c.node true (same_trees c.node))
  resolving_confirm t n ts place Before p f =
      let trees : SameTrees c.node (way_node k c.node c.session (Confirm t) Before) = record { running = refl; pending = refl } in
      mend_keeps k over c (Mresolving (t ∷ ts)) (Confirm t) Before trees refl tt p inv (inl refl) (rests _ true trees)

  -- Cancel, of one that is not decided
  pub resolving_cancel : (t : ℕ) (ts : List ℕ) (way : Way) → MayHappen k c.node c.session (Cancel t) way → MendFacts over c (Mresolving (t ∷ ts)) → Invariant over (mended k (over c.history) c (Mresolving (t ∷ ts)) (Cancel t) way)
  resolving_cancel t ts Done p f =
      let op : Op = Cancel t in
      let m = way_node k c.node c.session op Done in
      let under = cancels_under k c.node c.session t p in
      record {
        locks = way_locks k c.node c.session op Done tt p inv.locks;
        at = inv.at;
        kept_at = inv.kept_at;
        known = λ t h. absurd (no_id m.pending t refl h);
        number = inv.number;
        placed = inv.placed;
        role = (never_rests t under m, (λ t h. absurd (no_id m.pending t refl h), record { run = f.1.run; cand = f.1.cand; same = refl }));
      }
  resolving_cancel t ts After p f =
      let op : Op = Cancel t in
      let m = way_node k c.node c.session op After in
      record {
        locks = way_locks k c.node c.session op After tt p inv.locks;
        at = inv.at;
        kept_at = inv.kept_at;
        known = λ t h. absurd (no_id m.pending t refl h);
        number = inv.number;
        placed = inv.placed;
        role = vacuous m (over c.history);
      }
  resolving_cancel t ts (Denied InvalidValue) p f =
      mend_keeps k over c (Mresolving (t ∷ ts)) (Cancel t) (Denied InvalidValue) (same_trees c.node) refl tt p inv (inl refl)
      (rest, (others t ts (cancel_invalid k c.node c.session t p.0) f.0, f.1))
  resolving_cancel t ts (Denied LockDenied) p f = mend_keeps k over c (Mresolving (t ∷ ts)) (Cancel t) (Denied LockDenied) (same_trees c.node) refl tt p inv (inl refl) (rests c.node false (same_trees c.node))
  resolving_cancel t ts (Denied InUse) p f = mend_keeps k over c (Mresolving (t ∷ ts)) (Cancel t) (Denied InUse) (same_trees c.node) refl tt p inv (inl refl) (rests c.node false (same_trees c.node))
  resolving_cancel t ts (Denied OperationFailed) p f = mend_keeps k over c (Mresolving (t ∷ ts)) (Cancel t) (Denied OperationFailed) (same_trees c.node) refl tt p inv (inl refl) (rests c.node false (same_trees c.node))
  resolving_cancel t ts (Denied NoSession) p f = mend_keeps k over c (Mresolving (t ∷ ts)) (Cancel t) (Denied NoSession) (same_trees c.node) refl tt p inv (inl refl) (rests c.node false (same_trees c.node))
  resolving_cancel t ts NoMemory p f = mend_keeps k over c (Mresolving (t ∷ ts)) (Cancel t) NoMemory (same_trees c.node) refl tt p inv (inl refl) (rests c.node false (same_trees c.node))
  resolving_cancel t ts Stranded p f = mend_keeps k over c (Mresolving (t ∷ ts)) (Cancel t) Stranded (same_trees c.node) refl tt p inv (inl refl) (rests c.node true (same_trees c.node))
  resolving_cancel t ts Before p f =
      let trees : SameTrees c.node (way_node k c.node c.session (Cancel t) Before) = record { running = refl; pending = refl } in
      mend_keeps k over c (Mresolving (t ∷ ts)) (Cancel t) Before trees refl tt p inv (inl refl) (rests _ true trees)
