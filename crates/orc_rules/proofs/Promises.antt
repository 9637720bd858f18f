-- What is promised follows from what is kept.
use Rattle.std.proofs.Common.{ℕ, ◌≡◌, ◌⊎◌, Bool, true, false, Option, Some, None, List, [], ◌∷◌, ◌++◌, refl, sym, ◌∙◌, ap, arith, inl, inr}
use Rattle.orc_device.specs.declared.op.Op.{Op}
use Rattle.orc_device.specs.Nodes.{DeviceKind}
use Rattle.orc_device.specs.declared.op.Op.TheVariants.{Cancel, CommitConfirmed, Confirm, Edit}
use Rattle.orc_rules.specs.Facts.{Quiet}
use Rattle.orc_rules.specs.Works.{Intent, resolve}
use Rattle.orc_worker.specs.declared.stage.Stage.TheVariants.{Cancelling, Committing, Confirming, Editing, Recancelling}
use Rattle.orc_rules.specs.Works.Mend.{Mediting, Mresolving}
use Rattle.orc_rules.specs.Cells.{Cell, DeviceRole, due_op}
use Rattle.orc_rules.specs.Cells.DeviceRole.{Free, Works, Mends}
use Rattle.orc_rules.specs.Invariant.{RoleFacts}
use Rattle.orc_rules.specs.Network.{Plan, Noted, Network, cell, intent_seen, seen_plan, Kept, start, ComesBack, PendsKnown, IsEqual, IsAtWork}
use Rattle.orc_rules.proofs.Resolving.{false_true}
use Rattle.orc_path.specs.Configurations.{Config}
use Rattle.orc_tree.specs.declared.change.ChangeSet.{ChangeSet}

module _ {Call : Type 0} (over : ℕ → List Call → Config) (Stands : List Call → Plan Call → Type 0) (Fits : List Call → Plan Call → Plan Call → Type 0) (Valid : List Call → Plan Call → Type 0) where
  -- at the start, over any journal; not stale only where it is empty
  pub start_kept : (history : List Call) (place : ℕ → Option ℕ) (intents : ℕ → Option (Noted Call)) (stale : Bool) → (stale ≡ false → history ≡ []) → Kept over Stands Fits Valid (start over history place intents stale)
  start_kept history place intents stale fresh = record {
    each = λ d. record {
      locks = record { run = inl refl; cand = inl (refl, refl) };
      at = omega arith;
      kept_at = refl;
      known = λ t e. absurd (let both : ◌≡◌ {A = Option ℕ} None (Some t) = e in cc);
      number = λ t o e. numbered d t (intents t) o e;
      placed = λ t k o e f g. absurd (let both : true ≡ false = g in cc);
      role = λ e. record { none = refl; running = ap (over d) (sym (fresh e)) };
    };
    stands = λ t p e. absurd (let both : ◌≡◌ {A = Option (Plan Call)} None (Some p) = e in cc);
    fit = λ t u p q e f ne. absurd (let both : ◌≡◌ {A = Option (Plan Call)} None (Some p) = e in cc);
    noted = λ t p e. absurd (let both : ◌≡◌ {A = Option (Plan Call)} None (Some p) = e in cc);
    working = λ d o st e h. absurd (let both : ◌≡◌ {A = DeviceRole Call} Free (Works o st) = e in cc);
  }
    where
      by_plan : (d t : ℕ) (b : Noted Call) (n : Bool) (o : Intent Call) → seen_plan (over d) t b n ≡ Some o → o.t ≡ t
      by_plan d t b true o e = let same : record { t = t; call = b.plan.call; before = over d b.base; due = over d (b.base ++ b.plan.call ∷ []) } ≡ o = cc in ap (λ o. o.t) (sym same)
      by_plan d t b false o e = cc

      numbered : (d t : ℕ) (n : Option (Noted Call)) (o : Intent Call) → intent_seen (over d) d t n ≡ Some o → o.t ≡ t
      numbered d t None o e = cc
      numbered d t (Some b) o e = by_plan d t b (b.plan.names d) o e

  module _ (w : Network Call) (kept : Kept over Stands Fits Valid w) where
    pub comes_back : ComesBack over w
    comes_back d = let i = kept.each d in ((w.locals d).at, i.at, i.kept_at)

    pub pends_known : PendsKnown over w
    pends_known d t e = let q = (kept.each d).known t e in go (w.intents t) refl q.intent q.unsettled q.held.running
      where
        go : (n : Option (Noted Call)) → w.intents t ≡ n → (o : Intent Call) → intent_seen (over d) d t n ≡ Some o → (w.locals d).node.running ≡ o.due →
            (b : Noted Call) × (w.intents t ≡ Some b) × (b.plan.names d ≡ true) × ((w.locals d).node.running ≡ over d (b.base ++ b.plan.call ∷ []))
        go None is o e r = cc
        go (Some b) is o e r = by (b.plan.names d) refl e
          where
            by : (n : Bool) → b.plan.names d ≡ n → seen_plan (over d) t b n ≡ Some o → (b : Noted Call) × (w.intents t ≡ Some b) × (b.plan.names d ≡ true) × ((w.locals d).node.running ≡ over d (b.base ++ b.plan.call ∷ []))
            by true f e' = (b, is, f, r ∙ ap (λ (o : Intent Call). o.due) (let same : o ≡ record { t = t; call = b.plan.call; before = over d b.base; due = over d (b.base ++ b.plan.call ∷ []) } = cc in same))
            by false f e' = cc

    pub is_equal : IsEqual over w
    is_equal d fresh e = go (w.locals d).role refl (kept.each d).role
      where
        go : (r : DeviceRole Call) → (w.locals d).role ≡ r → RoleFacts (over d) (cell over w d) r → Quiet (w.locals d).node (over d w.history)
        go Free is f = f fresh
        go (Mends m) is f = f.0 fresh
        go (Works o st) is f = absurd (let at_work : IsAtWork over w (w.locals d).role ≡ true = ap (IsAtWork over w) is in false_true (IsAtWork over w (w.locals d).role) at_work e)

-- No Cancel is due for a decided intent, and no Confirm for one that isn't.
module _ {Call : Type 0} (k : DeviceKind) (over : List Call → Config) (c : Cell Call) where
  pub cancel_undecided : (r : DeviceRole Call) (t : ℕ) → RoleFacts over c r → due_op k over c r ≡ Some (Cancel t) → c.place t ≡ None
  cancel_undecided Free t f e = cc
  cancel_undecided (Works o Cancelling) t f e = let s : o.t ≡ t = cc in ap c.place (sym s) ∙ f.1.0.place
  cancel_undecided (Works o Recancelling) t f e = let s : o.t ≡ t = cc in ap c.place (sym s) ∙ f.1.0.place
  cancel_undecided (Works o st) t f e = cc
  cancel_undecided (Mends (Mresolving (x ∷ xs))) t f e = go (c.place x) refl e
    where
      go : (q : Option ℕ) → c.place x ≡ q → ◌≡◌ {A = Option (Op)} (Some (resolve q x)) (Some (Cancel t)) → c.place t ≡ None
      go None is e' = let s : x ≡ t = cc in ap c.place (sym s) ∙ is
      go (Some n) is e' = cc
  cancel_undecided (Mends (Mresolving [])) t f e = cc
  cancel_undecided (Mends m) t f e = cc

  pub confirm_decided : (r : DeviceRole Call) (t : ℕ) → RoleFacts over c r → due_op k over c r ≡ Some (Confirm t) → (n : ℕ) × (c.place t ≡ Some n)
  confirm_decided Free t f e = cc
  confirm_decided (Works o Confirming) t f e = let s : o.t ≡ t = cc in (f.1.0.n, ap c.place (sym s) ∙ f.1.0.place)
  confirm_decided (Works o st) t f e = cc
  confirm_decided (Mends (Mresolving (x ∷ xs))) t f e = go (c.place x) refl e
    where
      go : (q : Option ℕ) → c.place x ≡ q → ◌≡◌ {A = Option (Op)} (Some (resolve q x)) (Some (Confirm t)) → (n : ℕ) × (c.place t ≡ Some n)
      go None is e' = cc
      go (Some n) is e' = let s : x ≡ t = cc in (n, ap c.place (sym s) ∙ is)
  confirm_decided (Mends (Mresolving [])) t f e = cc
  confirm_decided (Mends m) t f e = cc

  -- a CommitConfirmed is due only for an intent that isn't decided, and isn't settled
  pub prepares_undecided : (r : DeviceRole Call) (t seconds : ℕ) → RoleFacts over c r → due_op k over c r ≡ Some (CommitConfirmed t seconds)
      → (c.place t ≡ None) × ((o : Intent Call) × (c.open_intent t ≡ Some o))
  prepares_undecided Free t seconds f e = cc
  prepares_undecided (Works o Committing) t seconds f e = let s : o.t ≡ t = cc in (ap c.place (sym s) ∙ f.1.0.place, (o, ap c.open_intent (sym s) ∙ f.0))
  prepares_undecided (Works o st) t seconds f e = cc
  prepares_undecided (Mends (Mresolving (x ∷ xs))) t seconds f e = go (c.place x) e
    where
      go : (q : Option ℕ) → ◌≡◌ {A = Option (Op)} (Some (resolve q x)) (Some (CommitConfirmed t seconds)) → (c.place t ≡ None) × ((o : Intent Call) × (c.open_intent t ≡ Some o))
      go None e' = cc
      go (Some n) e' = cc
  prepares_undecided (Mends (Mresolving [])) t seconds f e = cc
  prepares_undecided (Mends m) t seconds f e = cc

  -- The changes of an Edit that is due lead from the running tree to a tree that is due: after the history, or after it
  -- with the call of an intent.
  abbrev pub LeadsFrom : Config → ChangeSet → Type 0
  LeadsFrom running set = (target : Config) × (set ≡ k.between running target)
      × ((target ≡ over c.history) ⊎ ((o : Intent Call) × (c.open_intent o.t ≡ Some o) × (target ≡ over (c.history ++ o.call ∷ []))))

  pub edit_is_exact : (r : DeviceRole Call) (set : ChangeSet) → RoleFacts over c r → due_op k over c r ≡ Some (Edit set) → LeadsFrom c.node.running set
  edit_is_exact Free set f e = cc
  edit_is_exact (Works o Editing) set f e =
      let s : k.between o.before o.due ≡ set = cc in
      (o.due, sym s ∙ ap (λ b. k.between b o.due) (sym (f.1.1.running ∙ f.1.0.before)), inr (o, f.0, sym f.1.0.due))
  edit_is_exact (Works o st) set f e = cc
  edit_is_exact (Mends (Mediting read)) set f e =
      let s : k.between read (over c.history) ≡ set = cc in
      (over c.history, sym s ∙ ap (λ b. k.between b (over c.history)) (sym f.1.0.running), inl refl)
  edit_is_exact (Mends (Mresolving (x ∷ xs))) set f e = go (c.place x) e
    where
      go : (q : Option ℕ) → ◌≡◌ {A = Option (Op)} (Some (resolve q x)) (Some (Edit set)) → LeadsFrom c.node.running set
      go None e' = cc
      go (Some n) e' = cc
  edit_is_exact (Mends (Mresolving [])) set f e = cc
  edit_is_exact (Mends m) set f e = cc
