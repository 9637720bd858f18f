-- Whatever happens, the network keeps its invariant.
use Rattle.std.proofs.Common.{subst, eq-eqb, eqb-true, ℕ, ◌≡◌, inl, inr, Bool, true, false, nat_eq, Option, Some, None, List, [], ◌∷◌, ◌++◌, refl, sym, ◌∙◌, ap, cond}
use Rattle.std.proofs.Math.Path.{fun_ext}
use Rattle.orc_device.specs.declared.op.Op.{Op}
use Rattle.orc_device.specs.declared.reply.Reply.{Reply}
use Rattle.orc_device.specs.Nodes.{DeviceKind, ticked, restarted}
use Rattle.orc_device.specs.Links.{Way, way_reply}
use Rattle.orc_worker.specs.declared.stage.Stage.{Stage}
use Rattle.orc_rules.specs.Works.{Intent, work_operation, worker_after, mend_operation}
use Rattle.orc_worker.specs.declared.stage.Stage.TheVariants.{Opening, LockingRunning, LockingCandidate, Editing, Validating, Committing, Refusing, Prepared, Lost, Confirming, Cancelling, Reopening, Recancelling, UnlockingCandidate, UnlockingRunning, Closing, Over}
use Rattle.orc_rules.specs.Works.Mend.{Mopening}
use Rattle.orc_rules.specs.Cells.{Cell, DeviceRole, Mended, updated_at, performed, worked_due, mended_role, mender_after, cell_admitted, decided, decided_role, aborted_role, settled, released, at_node, new_intent}
use Rattle.orc_rules.specs.Cells.Mended.{Goes, Whole, Fails}
use Rattle.orc_rules.specs.Cells.DeviceRole.{Free, Works, Mends}
use Rattle.orc_rules.specs.Invariant.{Invariant, RoleFacts, MayRest, is_open, is_preparing_stage, IsNotOn, MaySettle, IsLawful, Commutes}
use Rattle.orc_rules.specs.Network.{Plan, Noted, Planning, Local, Network, cell, cell_of, local, intent_seen, seen_plan, Happening, happens, May, Kept, admitted_local}
use Rattle.orc_rules.specs.Network.Happening.{Performs, Admits, Decides, Aborts, Settles, Releases, Ticks, Restarts, Stops, Reconciles}
use Rattle.orc_rules.proofs.Performing.{performed_keeps}
use Rattle.orc_rules.proofs.Others.{ticked_turns, restarted_turns, turned_keeps, stopped_keeps}
use Rattle.orc_rules.proofs.Recording.{given_at, given_other, either, some_none, admitted_keeps, decided_keeps, elsewhere_keeps, aborted_keeps, settled_keeps, released_keeps, mending_keeps}
use Rattle.orc_rules.proofs.Resolving.{false_true}
use Rattle.orc_path.specs.Configurations.{Config}

open_cond : (b : Bool) (x y : Stage) → is_open x ≡ false → is_open y ≡ false → is_open (cond b x y) ≡ true → ⊥
open_cond true x y e f h = false_true (is_open x) h e
open_cond false x y e f h = false_true (is_open y) h f

-- who works with the decision open did so before
open_before : (st : Stage) (r : Reply) → is_open (worker_after st r) ≡ true → is_open st ≡ true
open_before Opening r h = refl
open_before LockingRunning r h = refl
open_before LockingCandidate r h = refl
open_before Editing r h = refl
open_before Validating r h = refl
open_before Committing r h = refl
open_before Refusing r h = cc
open_before Prepared r h = refl
open_before Lost r h = h
open_before Confirming r h = absurd (open_cond _ UnlockingCandidate Over refl refl h)
open_before Cancelling r h = absurd (open_cond _ UnlockingCandidate Over refl refl h)
open_before Reopening r h = absurd (open_cond _ Recancelling Over refl refl h)
open_before Recancelling r h = absurd (open_cond _ Closing Over refl refl h)
open_before UnlockingCandidate r h = cc
open_before UnlockingRunning r h = cc
open_before Closing r h = cc
open_before Over r h = h

module _ {Call : Type 0} (k : DeviceKind) (over : List Call → Config) (c : Cell Call) where
  works_same : (o p : Intent Call) (s t : Stage) → ◌≡◌ {A = DeviceRole Call} (Works o s) (Works p t) → (o ≡ p) × (s ≡ t)
  works_same o p s t e = (cc, cc)

  due_open : (o p : Intent Call) (s t : Stage) (op : Option (Op)) (way : Way) → c.role ≡ Works o s → (worked_due k c o s op way).role ≡ Works p t → is_open t ≡ true → (c.role ≡ Works p s) × (is_open s ≡ true)
  due_open o p s t None way r e h =
      let q = works_same o p s t (sym r ∙ e) in
      (r ∙ ap (λ x. Works x s) q.0, ap is_open q.1 ∙ h)
  due_open o p s t (Some op) way r e h =
      let q = works_same o p (worker_after s (way_reply c.node op way)) t e in
      (r ∙ ap (λ x. Works x s) q.0, open_before s (way_reply c.node op way) (ap is_open q.1 ∙ h))

  not_works : (x : Mended) (p : Intent Call) (t : Stage) → mended_role x ≡ Works p t → ⊥
  not_works (Goes m) p t e = cc
  not_works Whole p t e = cc
  not_works (Fails b) p t e = cc

  performed_open : (r : DeviceRole Call) (way : Way) (p : Intent Call) (t : Stage) → c.role ≡ r → (performed k over c r way).role ≡ Works p t → is_open t ≡ true →
      (s : Stage) × (c.role ≡ Works p s) × (is_open s ≡ true)
  performed_open Free way p t r e h = absurd (let both : ◌≡◌ {A = DeviceRole Call} Free (Works p t) = sym r ∙ e in cc)
  performed_open (Works o s) way p t r e h = let q = due_open o p s t (work_operation k o s) way r e h in (s, q.0, q.1)
  performed_open (Mends m) way p t r e h = absurd (not_works (mender_after k (over c.history) m (way_reply c.node (mend_operation k c.place (over c.history) m) way)) p t e)

module _ {Call : Type 0} (kinds : ℕ → DeviceKind) (over : ℕ → List Call → Config) (lawful : (d : ℕ) → IsLawful (kinds d) (over d))
    (Stands : List Call → Plan Call → Type 0) (Fits : List Call → Plan Call → Plan Call → Type 0) (Valid : List Call → Plan Call → Type 0) (planning : Planning over Stands Fits Valid)
    (w : Network Call) (kept : Kept over Stands Fits Valid w) where
  -- one device changes
  one_each : (d : ℕ) (l : Local Call) → Invariant (over d) (cell_of over w d l) → (x : ℕ) → Invariant (over x) (cell_of over w x (updated_at w.locals d l x))
  one_each d l h x = elim (either d x) [
    | inl s ↦ subst (λ y. Invariant (over y) (cell_of over w y (updated_at w.locals d l y))) s (subst (λ z. Invariant (over d) (cell_of over w d z)) (sym (given_at w.locals d l)) h)
    | inr ne ↦ subst (λ z. Invariant (over x) (cell_of over w x z)) (sym (given_other w.locals d l x ne)) (kept.each x)
  ]

  Working : (ℕ → Option (Plan Call)) → DeviceRole Call → ℕ → Type 0
  Working active r d = (o : Intent Call) (st : Stage) → r ≡ Works o st → is_open st ≡ true → (p : Plan Call) × (active o.t ≡ Some p) × (p.names d ≡ true) × (p.call ≡ o.call)

  one_working : (d : ℕ) (l : Local Call) → Working w.active l.role d → (x : ℕ) → Working w.active (updated_at w.locals d l x).role x
  unfolding Working
  one_working d l h x = elim (either d x) [
    | inl s ↦ subst (λ y. Working w.active (updated_at w.locals d l y).role y) s (subst (λ z. Working w.active z.role d) (sym (given_at w.locals d l)) h)
    | inr ne ↦ subst (λ z. Working w.active z.role x) (sym (given_other w.locals d l x ne)) (kept.working x)
  ]

  -- what is performed leaves what the journal says
  performed_shared : (d : ℕ) (r : DeviceRole Call) (way : Way) → cell_of over w d (local (performed (kinds d) (over d) (cell over w d) r way)) ≡ performed (kinds d) (over d) (cell over w d) r way
  performed_shared d Free way = refl
  performed_shared d (Works o st) way = go (work_operation (kinds d) o st)
    where
      go : (op : Option (Op)) → cell_of over w d (local (worked_due (kinds d) (cell over w d) o st op way)) ≡ worked_due (kinds d) (cell over w d) o st op way
      go None = refl
      go (Some op) = refl
  performed_shared d (Mends m) way = refl

  performs : (d : ℕ) (way : Way) → May kinds over Stands Fits Valid w (Performs d way) → Kept over Stands Fits Valid (happens kinds over w (Performs d way))
  unfolding Working
  performs d way may =
      let c = cell over w d in
      let l = local (performed (kinds d) (over d) c c.role way) in
      record {
        each = one_each d l (subst (λ z. Invariant (over d) z) (sym (performed_shared d c.role way)) (performed_keeps (kinds d) (over d) (lawful d) c (kept.each d) way may));
        stands = kept.stands;
        fit = kept.fit;
        noted = kept.noted;
        working = one_working d l (λ o st e h. let q = performed_open (kinds d) (over d) c c.role way o st refl e h in kept.working d o q.0 q.1 q.2);
      }

  ticks : (seconds : ℕ) → Kept over Stands Fits Valid (happens kinds over w (Ticks seconds))
  ticks seconds = record {
    each = λ d. turned_keeps (over d) (cell over w d) (kept.each d) (ticked (w.locals d).node seconds) (ticked_turns (w.locals d).node (w.locals d).session seconds);
    stands = kept.stands;
    fit = kept.fit;
    noted = kept.noted;
    working = kept.working;
  }

  restarts : (d : ℕ) → Kept over Stands Fits Valid (happens kinds over w (Restarts d))
  unfolding Working
  restarts d =
      let c = cell over w d in
      let l = local (at_node c (restarted c.node)) in
      record {
        each = one_each d l (turned_keeps (over d) c (kept.each d) (restarted c.node) (restarted_turns c.node c.session));
        stands = kept.stands;
        fit = kept.fit;
        noted = kept.noted;
        working = one_working d l (kept.working d);
      }

  stops : Kept over Stands Fits Valid (happens kinds over w Stops)
  stops = record {
    each = λ d. stopped_keeps (over d) (cell over w d) (kept.each d);
    stands = λ t p e. cc;
    fit = λ t u p q e f ne. cc;
    noted = λ t p e. absurd cc;
    working = λ d o st e h. absurd (let both : ◌≡◌ {A = DeviceRole Call} Free (Works o st) = e in cc);
  }

  releases : (d : ℕ) → MayRest (over d) (w.locals d).role → Kept over Stands Fits Valid (happens kinds over w (Releases d))
  unfolding Working
  releases d may =
      let c = cell over w d in
      let l = local (released c) in
      record {
        each = one_each d l (released_keeps (over d) c (kept.each d) may);
        stands = kept.stands;
        fit = kept.fit;
        noted = kept.noted;
        working = one_working d l (λ o st e h. absurd (let both : ◌≡◌ {A = DeviceRole Call} Free (Works o st) = e in cc));
      }

  reconciles : (ts : ℕ → List ℕ) → May kinds over Stands Fits Valid w (Reconciles ts) → Kept over Stands Fits Valid (happens kinds over w (Reconciles ts))
  reconciles ts may = record {
    each = λ d. mending_keeps (over d) (cell over w d) (kept.each d) (ts d) (record { free = (may d).0; all = (may d).1 });
    stands = kept.stands;
    fit = kept.fit;
    noted = kept.noted;
    working = λ d o st e h. absurd (let both : ◌≡◌ {A = DeviceRole Call} (Mends (Mopening (ts d))) (Works o st) = e in cc);
  }

  -- of the active ones without t
  still_active : (t u : ℕ) (p : Plan Call) → updated_at w.active t None u ≡ Some p → (w.active u ≡ Some p) × (nat_eq t u ≡ false)
  still_active t u p e = elim (either t u) [
    | inl s ↦ some_none (updated_at w.active t None u) p e (sym (ap (updated_at w.active t None) s) ∙ given_at w.active t None)
    | inr ne ↦ (sym (given_other w.active t None u ne) ∙ e, ne)
  ]

  aborted_open : (t : ℕ) (r : DeviceRole Call) (o : Intent Call) (st : Stage) →
      ((p : Intent Call) (s : Stage) → r ≡ Works p s → nat_eq t p.t ≡ true → is_preparing_stage s ≡ false) →
      aborted_role t r ≡ Works o st → is_open st ≡ true → (r ≡ Works o st) × (nat_eq t o.t ≡ false)
  aborted_open t Free o st may e h = cc
  aborted_open t (Mends m) o st may e h = cc
  aborted_open t (Works p Prepared) o st may e h = go (nat_eq t p.t) refl e
    where
      go : (b : Bool) → nat_eq t p.t ≡ b → cond b (Works p Cancelling) (Works p Prepared) ≡ Works o st → (◌≡◌ {A = DeviceRole Call} (Works p Prepared) (Works o st)) × (nat_eq t o.t ≡ false)
      go true f e' = absurd (let both : Cancelling ≡ st = cc in false_true (is_open st) h (ap is_open (sym both)))
      go false f e' = (e', let both : p ≡ o = cc in sym (ap (λ q. nat_eq t q.t) both) ∙ f)
  aborted_open t (Works p Lost) o st may e h = go (nat_eq t p.t) e
    where
      go : (b : Bool) → cond b (Works p Reopening) (Works p Lost) ≡ Works o st → (◌≡◌ {A = DeviceRole Call} (Works p Lost) (Works o st)) × (nat_eq t o.t ≡ false)
      go true e' = absurd (let both : Reopening ≡ st = cc in false_true (is_open st) h (ap is_open (sym both)))
      go false e' = absurd (let both : Lost ≡ st = cc in false_true (is_open st) h (ap is_open (sym both)))
  aborted_open t (Works p s) o st may e h =
      let q : p ≡ o = cc in let z : s ≡ st = cc in
      (e, sym (ap (λ q. nat_eq t q.t) q) ∙ apart (nat_eq t p.t) refl (ap is_open z ∙ h))
    where
      apart : (b : Bool) → nat_eq t p.t ≡ b → is_open s ≡ true → nat_eq t p.t ≡ false
      apart true f g = false_true (is_preparing_stage s) g (may p s refl f)
      apart false f g = f

  aborts : (t : ℕ) → May kinds over Stands Fits Valid w (Aborts t) → Kept over Stands Fits Valid (happens kinds over w (Aborts t))
  aborts t may = record {
    each = λ d. aborted_keeps (over d) (cell over w d) (kept.each d) t;
    stands = λ u p e. kept.stands u p (still_active t u p e).0;
    fit = λ u v p q e f ne. kept.fit u v p q (still_active t u p e).0 (still_active t v q f).0 ne;
    noted = λ u p e. kept.noted u p (still_active t u p e).0;
    working = λ d o st e h.
        let q = aborted_open t (w.locals d).role o st (may d) e h in
        let z = kept.working d o st q.0 h in
        (z.0, given_other w.active t None o.t q.1 ∙ z.1, z.2, z.3);
  }

  -- a device with other words for the same intents
  swap : (d : ℕ) (c : Cell Call) (f : ℕ → Option (Intent Call)) → ((x : ℕ) → c.open_intent x ≡ f x) → Invariant (over d) c → Invariant (over d) (record c { open_intent = f })
  swap d c f h inv = subst (λ g. Invariant (over d) (record c { open_intent = g })) (fun_ext h) inv

  settles : (t : ℕ) → May kinds over Stands Fits Valid w (Settles t) → Kept over Stands Fits Valid (happens kinds over w (Settles t))
  settles t may = record {
    each = λ d. swap d (settled (cell over w d) t) (λ x. intent_seen (over d) d x (updated_at w.intents t None x)) (same d) (settled_keeps (over d) (cell over w d) (kept.each d) t (may_here d));
    stands = kept.stands;
    fit = kept.fit;
    noted = λ u p e.
        let q = kept.noted u p e in (
          q.0,
          elim (either t u) [
            | inl s ↦ some_none (w.active u) p e (sym (ap w.active s) ∙ may.inactive)
            | inr ne ↦ given_other w.intents t None u ne ∙ q.1
          ],
          q.2,
        );
    working = kept.working;
  }
    where
      same : (d x : ℕ) → updated_at (λ x. intent_seen (over d) d x (w.intents x)) t None x ≡ intent_seen (over d) d x (updated_at w.intents t None x)
      same d x = go (nat_eq t x)
        where
          go : (b : Bool) → cond b None (intent_seen (over d) d x (w.intents x)) ≡ intent_seen (over d) d x (cond b None (w.intents x))
          go true = refl
          go false = refl

      known_here : (d : ℕ) (n : Option (Noted Call)) → w.intents t ≡ n → (o : Intent Call) → intent_seen (over d) d t n ≡ Some o → ((w.locals d).clear t ≡ true) × IsNotOn (over d) t (w.locals d).role
      known_here d None is o e = cc
      known_here d (Some b) is o e = go (b.plan.names d) refl e
        where
          go : (n : Bool) → b.plan.names d ≡ n → seen_plan (over d) t b n ≡ Some o → ((w.locals d).clear t ≡ true) × IsNotOn (over d) t (w.locals d).role
          go true f e' = may.clear d b is f
          go false f e' = cc

      not_on : (d : ℕ) (r : DeviceRole Call) → (w.locals d).role ≡ r → RoleFacts (over d) (cell over w d) r → IsNotOn (over d) t r
      not_on d Free e f = tt
      not_on d (Mends m) e f = tt
      not_on d (Works o st) e f = elim (either t o.t) [
        | inl s ↦ subst (λ r. IsNotOn (over d) t r) e (known_here d (w.intents t) refl o (ap (λ x. intent_seen (over d) d x (w.intents x)) s ∙ f.0)).1
        | inr ne ↦ ne
      ]

      may_here : (d : ℕ) → MaySettle (over d) (cell over w d) t
      may_here d = record {
        clear = λ o e. (known_here d (w.intents t) refl o e).0;
        ended = not_on d (w.locals d).role refl (kept.each d).role;
      }

  noted_plan : (p : Plan Call) → Noted Call
  noted_plan p = record { plan = p; base = w.history }

  admits : (t : ℕ) (p : Plan Call) → May kinds over Stands Fits Valid w (Admits t p) → Kept over Stands Fits Valid (happens kinds over w (Admits t p))
  unfolding noted_plan
  admits t p may = record {
    each = λ d. here d (p.names d) refl;
    stands = λ u q e. elim (either t u) [
      | inl s ↦ subst (λ q. Stands w.history q) (now u q s e) may.stands
      | inr ne ↦ kept.stands u q (before u q ne e)
    ];
    fit = λ u v q r e f ne. elim (either t u) [
      | inl s ↦ elim (either t v) [
        | inl z ↦ false_true (nat_eq u v) (eq-eqb u v (sym s ∙ z)) ne
        | inr nv ↦ subst (λ q. Fits w.history q r) (now u q s e) (may.fits v r (before v r nv f))
      ]
      | inr nu ↦ elim (either t v) [
        | inl z ↦ subst (λ r. Fits w.history q r) (now v r z f) (planning.mutual_fit w.history p q (may.fits u q (before u q nu e)))
        | inr nv ↦ kept.fit u v q r (before u q nu e) (before v r nv f) ne
      ]
    ];
    noted = λ u q e. elim (either t u) [
      | inl s ↦ (noted_plan p, sym (ap (updated_at w.intents t (Some (noted_plan p))) s) ∙ given_at w.intents t (Some (noted_plan p)), now u q s e)
      | inr ne ↦ let z = kept.noted u q (before u q ne e) in (z.0, given_other w.intents t (Some (noted_plan p)) u ne ∙ z.1, z.2)
    ];
    working = λ d o st e h. works d o st (p.names d) refl e h;
  }
    where
      now : (u : ℕ) (q : Plan Call) → t ≡ u → updated_at w.active t (Some p) u ≡ Some q → p ≡ q
      now u q s e = let both : Some p ≡ Some q = sym (given_at w.active t (Some p)) ∙ ap (updated_at w.active t (Some p)) s ∙ e in cc

      before : (u : ℕ) (q : Plan Call) → nat_eq t u ≡ false → updated_at w.active t (Some p) u ≡ Some q → w.active u ≡ Some q
      before u q ne e = sym (given_other w.active t (Some p) u ne) ∙ e

      seen_new : (d x : ℕ) → p.names d ≡ true → updated_at (λ x. intent_seen (over d) d x (w.intents x)) t (Some (new_intent (over d) w.history t p.call)) x ≡ intent_seen (over d) d x (updated_at w.intents t (Some (noted_plan p)) x)
      seen_new d x f = go (nat_eq t x) refl
        where
          named : (n : Bool) → n ≡ true → Some (new_intent (over d) w.history t p.call) ≡ seen_plan (over d) t (noted_plan p) n
          named true e = refl
          named false e = cc

          go : (b : Bool) → nat_eq t x ≡ b → cond b (Some (new_intent (over d) w.history t p.call)) (intent_seen (over d) d x (w.intents x)) ≡ intent_seen (over d) d x (cond b (Some (noted_plan p)) (w.intents x))
          go true e = named (p.names d) f ∙ ap (λ x. seen_plan (over d) x (noted_plan p) (p.names d)) (eqb-true t x e)
          go false e = refl

      seen_old : (d x : ℕ) → p.names d ≡ false → intent_seen (over d) d x (w.intents x) ≡ intent_seen (over d) d x (updated_at w.intents t (Some (noted_plan p)) x)
      seen_old d x f = go (nat_eq t x) refl
        where
          unnamed : (n : Bool) → n ≡ false → None ≡ seen_plan (over d) x (noted_plan p) n
          unnamed true e = cc
          unnamed false e = refl

          go : (b : Bool) → nat_eq t x ≡ b → intent_seen (over d) d x (w.intents x) ≡ intent_seen (over d) d x (cond b (Some (noted_plan p)) (w.intents x))
          go true e = ap (intent_seen (over d) d x) (ap w.intents (sym (eqb-true t x e)) ∙ may.unused) ∙ unnamed (p.names d) f
          go false e = refl

      here : (d : ℕ) (n : Bool) → p.names d ≡ n → Invariant (over d) (cell_of over (happens kinds over w (Admits t p)) d (admitted_local (over d) (cell over w d) t p.call n))
      here d true f =
          let c = cell over w d in
          swap d (cell_admitted (over d) c t p.call) (λ x. intent_seen (over d) d x (updated_at w.intents t (Some (noted_plan p)) x)) (λ x. seen_new d x f)
          (admitted_keeps (over d) c (kept.each d) t p.call (record {
            free = (may.ready d f).0;
            fresh = (may.ready d f).1;
            unused = ap (intent_seen (over d) d t) may.unused;
            undecided = may.unplaced;
          }))
      here d false f = swap d (cell over w d) (λ x. intent_seen (over d) d x (updated_at w.intents t (Some (noted_plan p)) x)) (λ x. seen_old d x f) (kept.each d)

      works : (d : ℕ) (o : Intent Call) (st : Stage) (n : Bool) → p.names d ≡ n → (admitted_local (over d) (cell over w d) t p.call n).role ≡ Works o st → is_open st ≡ true →
          (q : Plan Call) × (updated_at w.active t (Some p) o.t ≡ Some q) × (q.names d ≡ true) × (q.call ≡ o.call)
      works d o st true f e h =
          let same : new_intent (over d) w.history t p.call ≡ o = cc in
          (p, ap (updated_at w.active t (Some p)) (sym (ap (λ o. o.t) same)) ∙ given_at w.active t (Some p), f, ap (λ o. o.call) same)
      works d o st false f e h =
          let z = kept.working d o st e h in
          let y = kept.noted o.t z.0 z.1 in (
            z.0,
            elim (either t o.t) [
              | inl s ↦ some_none (w.intents o.t) y.0 y.1 (sym (ap w.intents s) ∙ may.unused)
              | inr ne ↦ given_other w.active t (Some p) o.t ne ∙ z.1
            ],
            z.2,
            z.3,
          )

  same_plan : (t u : ℕ) (p q : Plan Call) → w.active t ≡ Some p → w.active u ≡ Some q → t ≡ u → p ≡ q
  same_plan t u p q e f s = let both : Some p ≡ Some q = sym e ∙ ap w.active s ∙ f in cc

  decided_open : (t : ℕ) (r : DeviceRole Call) (o : Intent Call) (st : Stage) →
      ((p : Intent Call) (s : Stage) → r ≡ Works p s → is_preparing_stage s ≡ true → nat_eq t p.t ≡ false) →
      decided_role t r ≡ Works o st → is_open st ≡ true → (r ≡ Works o st) × (nat_eq t o.t ≡ false)
  decided_open t Free o st may e h = cc
  decided_open t (Mends m) o st may e h = cc
  decided_open t (Works p Prepared) o st may e h = go (nat_eq t p.t) refl e
    where
      go : (b : Bool) → nat_eq t p.t ≡ b → cond b (Works p Confirming) (Works p Prepared) ≡ Works o st → (◌≡◌ {A = DeviceRole Call} (Works p Prepared) (Works o st)) × (nat_eq t o.t ≡ false)
      go true f e' = absurd (let both : Confirming ≡ st = cc in false_true (is_open st) h (ap is_open (sym both)))
      go false f e' = (e', let both : p ≡ o = cc in sym (ap (λ q. nat_eq t q.t) both) ∙ f)
  decided_open t (Works p s) o st may e h =
      let q : p ≡ o = cc in let z : s ≡ st = cc in
      (e, sym (ap (λ q. nat_eq t q.t) q) ∙ may p s refl (ap is_open z ∙ h))

  decides : (t : ℕ) (p : Plan Call) → May kinds over Stands Fits Valid w (Decides t p) → Kept over Stands Fits Valid (happens kinds over w (Decides t p))
  decides t p may = record {
    each = λ d. here d (p.names d) refl;
    stands = λ u q e. let z = still_active t u q e in
        planning.stands w.history q p (kept.stands u q z.0) (kept.stands t p may.active) (planning.mutual_fit w.history p q (kept.fit t u p q may.active z.0 z.1));
    fit = λ u v q r e f ne.
        let y = still_active t u q e in let z = still_active t v r f in
        planning.fits w.history q r p (kept.stands u q y.0) (kept.stands v r z.0) (kept.stands t p may.active) (kept.fit u v q r y.0 z.0 ne)
        (planning.mutual_fit w.history p q (kept.fit t u p q may.active y.0 y.1)) (planning.mutual_fit w.history p r (kept.fit t v p r may.active z.0 z.1));
    noted = λ u q e. kept.noted u q (still_active t u q e).0;
    working = λ d o st e h.
        let q = decided_open t (w.locals d).role o st (preparing d) e h in
        let z = kept.working d o st q.0 h in
        (z.0, given_other w.active t None o.t q.1 ∙ z.1, z.2, z.3);
  }
    where
      -- no device works for t in preparing
      preparing : (d : ℕ) (o : Intent Call) (s : Stage) → (w.locals d).role ≡ Works o s → is_preparing_stage s ≡ true → nat_eq t o.t ≡ false
      preparing d o s e h = elim (either t o.t) [
        | inl same ↦
            (let z = kept.working d o s e (opens s h) in
            let named : p.names d ≡ true = ap (λ p. p.names d) (same_plan t o.t p z.0 may.active z.1 same) ∙ z.2 in
            let y = may.prepared d named in
            let both : ◌≡◌ {A = DeviceRole Call} (Works y.0 Prepared) (Works o s) = sym y.1 ∙ e in
            let at_s : Prepared ≡ s = cc in
            false_true (is_preparing_stage s) h (sym (ap is_preparing_stage at_s)))
        | inr ne ↦ ne
      ]
        where
          opens : (s : Stage) → is_preparing_stage s ≡ true → is_open s ≡ true
          opens Prepared h = refl
          opens s h = h

      unnamed : (d : ℕ) → p.names d ≡ false → intent_seen (over d) d t (w.intents t) ≡ None
      unnamed d f =
          let y = kept.noted t p may.active in
          ap (intent_seen (over d) d t) y.1 ∙ none (y.0.plan.names d) (ap (λ q. q.names d) y.2 ∙ f)
        where
          none : (n : Bool) → n ≡ false → seen_plan (over d) t (kept.noted t p may.active).0 n ≡ None
          none true e = cc
          none false e = refl

      commutes : (d : ℕ) → p.names d ≡ false → (r : DeviceRole Call) → (w.locals d).role ≡ r → Commutes (over d) w.history p.call r
      commutes d f Free e = tt
      commutes d f (Mends m) e = tt
      commutes d f (Works o st) e = λ h.
          let z = kept.working d o st e h in
          let apart : nat_eq t o.t ≡ false = elim (either t o.t) [
            | inl s ↦ false_true (p.names d) (ap (λ p. p.names d) (same_plan t o.t p z.0 may.active z.1 s) ∙ z.2) f
            | inr ne ↦ ne
          ] in
          subst (λ c. over d ((w.history ++ p.call ∷ []) ++ c ∷ []) ≡ over d (w.history ++ c ∷ [])) z.3
          (planning.stable w.history z.0 p d (kept.stands o.t z.0 z.1) (kept.stands t p may.active) (planning.mutual_fit w.history p z.0 (kept.fit t o.t p z.0 may.active z.1 apart)) z.2)

      here : (d : ℕ) (n : Bool) → p.names d ≡ n → Invariant (over d) (decided (cell over w d) t p.call)
      here d true f =
          let y = may.prepared d f in
          let z = kept.working d y.0 Prepared y.1 refl in
          decided_keeps (over d) (cell over w d) (kept.each d) t p.call (record {
            intent = y.0;
            prepared = y.1;
            number = y.2;
            call_is = sym z.3 ∙ ap (λ p. p.call) (sym (same_plan t y.0.t p z.0 may.active z.1 (sym y.2)));
          })
      here d false f =
          elsewhere_keeps (over d) (cell over w d) (kept.each d) t p.call (record {
            unnamed = unnamed d f;
            frame = planning.frame w.history p d (kept.stands t p may.active) may.valid f;
            commutes = commutes d f (w.locals d).role refl;
          })

  -- whatever happens
  pub happens_keeps : (e : Happening Call) → May kinds over Stands Fits Valid w e → Kept over Stands Fits Valid (happens kinds over w e)
  happens_keeps (Performs d way) may = performs d way may
  happens_keeps (Admits t p) may = admits t p may
  happens_keeps (Decides t p) may = decides t p may
  happens_keeps (Aborts t) may = aborts t may
  happens_keeps (Settles t) may = settles t may
  happens_keeps (Releases d) may = releases d may
  happens_keeps (Ticks seconds) may = ticks seconds
  happens_keeps (Restarts d) may = restarts d
  happens_keeps Stops may = stops
  happens_keeps (Reconciles ts) may = reconciles ts may
