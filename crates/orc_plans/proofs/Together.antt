-- Calls that are planned together stay so when one of them is done.
use Rattle.std.proofs.Common.{◌≡◌, ◌==◌, Bool, true, false, not, ◌||◌, List, [], ◌∷◌, ◌++◌, map, All, IsTrue, None, refl, sym, ap, subst, ◌∙◌}
use Rattle.std.specs.List.{list_all, list_any, Contains}
use Rattle.std.specs.Cmp.Lexicographic.{bytes_decides}
use Rattle.std.proofs.lemmas.Bool.{eq-eqb, eqb-true, false≢true}
use Rattle.std.proofs.lemmas.List.Elements.{All-contains, All-contains_itself, All-nil, All-cons, All-head, All-tail, All-append, All-weaker}
use Rattle.std.proofs.lemmas.List.Sums.{AllPass-from_list_all, list_all-from_AllPass}
use Rattle.orc_call.specs.declared.call.Call.{Call}
use Rattle.orc_queue.specs.Fitting.{FitTogether}
use Rattle.orc_queue.specs.declared.held.Held.{Held}
use Rattle.orc_services.specs.Laws.{ExpandedStands}
use Rattle.orc_decls.specs.Calls.{is_action}
use Rattle.orc_plans.specs.Plans.{AreInAnyOrder, ArePlannedTogether, EachAlong, FitPairwise, FitsBeside, IsValidWith, TogetherUnrefused, PlannedTogetherFit, PlansStandTogether, StandsOn}
use Rattle.orc_datastore.specs.Laws.{LiteralIsExpansion}
use Rattle.orc_datastore.specs.Next.{after, clash, expanded_call, expanded_to}
use Rattle.orc_decls.specs.Declarations.{AreDecls}
use Rattle.orc_datastore.specs.States.{Datastore}
use Rattle.orc_decls.specs.Devices.{is_same_text}
use Rattle.orc_decls.specs.declared.declarations.Decls.{Decls}
use Rattle.orc_datastore.specs.declared.plan.Plan.{Plan}
use Rattle.orc_datastore.proofs.Agreement.{first_in, later_in}
use Rattle.orc_datastore.proofs.LeastClash.{any_of}
use Rattle.orc_datastore.proofs.Named.{is_text_itself}
use Rattle.orc_plans.proofs.Standing.{holds_of, plan_stands}
use Rattle.orc_plans.proofs.Unrefused.{nothing_refuses, still_free}
use Rattle.orc_datastore.specs.Histories.{IsUnrefused}

-- what shares nothing with another shares nothing with it the other way round

module _ {X : Type 0} (same : X → X → Bool) (exact : (x y : X) → same x y ≡ true → x ≡ y) (itself : (x : X) → same x x ≡ true) where
  any_in : (xs : List X) (x : X) → list_any (λ it. same it x) xs ≡ true → Contains xs x
  any_in [] x h = absurd (false≢true h)
  any_in (y ∷ xs) x h = on (same y x) refl h (any_in xs x)
    where
      on : (t : Bool) → same y x ≡ t → (t || list_any (λ it. same it x) xs) ≡ true → (list_any (λ it. same it x) xs ≡ true → Contains xs x) → Contains (y ∷ xs) x
      on true is k rest = subst (λ z. Contains (y ∷ xs) z) (exact y x is) (first_in y xs)
      on false is k rest = later_in y x xs (rest k)

  other_way_round : (one other : List X) → list_all (λ x. not (list_any (λ it. same it x) other)) one ≡ true
      → list_all (λ x. not (list_any (λ it. same it x) one)) other ≡ true
  other_way_round one other h =
      list_all-from_AllPass (λ x. not (list_any (λ it. same it x) one)) other
      (All-weaker (Contains other) (λ x. not (list_any (λ it. same it x) one) ≡ true) (λ x c. on x c (list_any (λ it. same it x) one) refl) other (All-contains_itself other))
    where
      on : (x : X) → Contains other x → (t : Bool) → list_any (λ it. same it x) one ≡ t → not t ≡ true
      on x c false is = refl
      on x c true is =
          absurd (false≢true (sym (ap not (any_of (λ it. same it x) other x c (itself x)))
          ∙ All-contains (λ y. not (list_any (λ it. same it y) other) ≡ true) one x
          (AllPass-from_list_all (λ y. not (list_any (λ it. same it y) other)) one h) (any_in one x is)))

fit_other : (one other : Held) → FitTogether one other → FitTogether other one
fit_other one other fit = record {
  devices = other_way_round (λ x y. x == y) eqb-true (λ x. eq-eqb x x refl) one.devices other.devices fit.devices;
  services = other_way_round is_same_text (λ x y. (bytes_decides x y).0) is_text_itself one.services other.services fit.services;
  reads_kept = fit.keeps_reads;
  keeps_reads = fit.reads_kept;
}

-- lists with an element in the middle

parts_of : {X : Type 0} (P : X → Type 0) (xs : List X) (x : X) (ys : List X) → All P (xs ++ x ∷ ys) → All P xs × (P x × All P ys)
parts_of P [] x ys h = (All-nil P, (All-head P x ys h, All-tail P x ys h))
parts_of P (z ∷ xs) x ys h =
    let rest = parts_of P xs x ys (All-tail P z (xs ++ x ∷ ys) h) in (All-cons P z xs (All-head P z (xs ++ x ∷ ys) h) rest.0, rest.1)

both : {X : Type 0} (P Q R : X → Type 0) → ((x : X) → P x → Q x → R x) → (xs : List X) → All P xs → All Q xs → All R xs
both P Q R f [] p q = All-nil R
both P Q R f (x ∷ xs) p q =
    All-cons R x xs (f x (All-head P x xs p) (All-head Q x xs q)) (both P Q R f xs (All-tail P x xs p) (All-tail Q x xs q))

abbrev Fits : Call × Plan → Call × Plan → Type 0
Fits one other = FitTogether one.1.held other.1.held

pairs : (before : List (Call × Plan)) (one : Call × Plan) (later : List (Call × Plan)) → FitPairwise (before ++ one ∷ later)
    → All (λ other. Fits other one) before × (All (Fits one) later × FitPairwise (before ++ later))
pairs [] one later h = (All-nil (λ (other : Call × Plan). Fits other one), (h.0, h.1))
pairs (first ∷ before) one later h =
    let rest = pairs before one later h.1 in
    let own = parts_of (Fits first) before one later h.0 in
    (All-cons (λ (other : Call × Plan). Fits other one) first before own.1.0 rest.0, (rest.1.0, (All-append (Fits first) before later own.0 own.1.1, rest.1.1)))

pub plans_stand_together : ExpandedStands → LiteralIsExpansion → PlansStandTogether
plans_stand_together stands law decls state before later call plan are h = record {
  lawful = All-append AreLawful before later lawful.0 lawful.1.1;
  standing = All-append Again before later
      (both Stands (λ (other : Call × Plan). Fits other done) Again (λ it own fit. again it own fit) before standing.0 fits.0)
      (both Stands (Fits done) Again (λ it own fit. again it own (fit_other plan.held it.1.held fit)) later standing.1.1 fits.1.0);
  fit = fits.1.1;
}
  where
    done : Call × Plan
    done = (call, plan)

    AreLawful : Call × Plan → Type 0
    AreLawful it = All (λ action. IsTrue (is_action decls action)) it.0.actions

    Stands : Call × Plan → Type 0
    Stands it = StandsOn decls state it.0 it.1

    Again : Call × Plan → Type 0
    Again it = StandsOn decls (after decls state call) it.0 it.1

    lawful : All AreLawful before × (AreLawful done × All AreLawful later)
    lawful = parts_of AreLawful before done later h.lawful

    standing : All Stands before × (Stands done × All Stands later)
    standing = parts_of Stands before done later h.standing

    fits : All (λ (other : Call × Plan). Fits other done) before × (All (Fits done) later × FitPairwise (before ++ later))
    fits = pairs before done later h.fit

    again : (it : Call × Plan) → Stands it → Fits it done → Again it
    again it own fit =
        (plan_stands stands law decls state it.0 it.1 (call ∷ []) are own
        ((lawful.1.0, subst (FitTogether it.1.held) (sym standing.1.0.held) fit), tt)).0

-- whichever of them is put first

module _ (decls : Decls) where
  abbrev AreLawful : Call × Plan → Type 0
  AreLawful it = All (λ action. IsTrue (is_action decls action)) it.0.actions

  abbrev Stands : Datastore → Call × Plan → Type 0
  Stands state it = StandsOn decls state it.0 it.1

  put_first : (state : Datastore) (before : List (Call × Plan)) (one : Call × Plan) (later : List (Call × Plan))
      → ArePlannedTogether decls state (before ++ one ∷ later) → ArePlannedTogether decls state (one ∷ (before ++ later))
  put_first state before one later h =
      let lawful = parts_of AreLawful before one later h.lawful in
      let standing = parts_of (Stands state) before one later h.standing in
      let fits = pairs before one later h.fit in
      let front : All (Fits one) before =
      All-weaker (λ (other : Call × Plan). Fits other one) (Fits one) (λ other fit. fit_other other.1.held one.1.held fit) before fits.0 in
      record {
        lawful = All-cons AreLawful one (before ++ later) lawful.1.0 (All-append AreLawful before later lawful.0 lawful.1.1);
        standing = All-cons (Stands state) one (before ++ later) standing.1.0 (All-append (Stands state) before later standing.0 standing.1.1);
        fit = (All-append (Fits one) before later front fits.1.0, fits.1.1);
      }

  module _ (stands : ExpandedStands) (law : LiteralIsExpansion) (are : AreDecls decls) (one : Call × Plan) where
    fit_along : (others : List (Call × Plan)) (state : Datastore) (plans : List (Call × Plan)) → ArePlannedTogether decls state (one ∷ plans)
        → AreInAnyOrder plans others → EachAlong (FitsBeside decls one.1.held) decls state (map (λ other. other.0) others)
    fit_along [] state plans h order = tt
    fit_along (other ∷ others) state plans h order =
        let before = order.0 in
        let later = order.1 in
        let all : ArePlannedTogether decls state ((one ∷ before) ++ other ∷ later) =
        subst (λ (l : List (Call × Plan)). ArePlannedTogether decls state (one ∷ l)) order.2 h in
        let lawful = parts_of AreLawful (one ∷ before) other later all.lawful in
        let standing = parts_of (Stands state) (one ∷ before) other later all.standing in
        let fits = parts_of (Fits one) before other later all.fit.0 in (
          (lawful.1.0, subst (FitTogether one.1.held) (sym standing.1.0.held) fits.1.0),
          fit_along others (after decls state other.0) (before ++ later)
              (plans_stand_together stands law decls state (one ∷ before) later other.0 other.1 are all) order.3,
        )

pub planned_together_fit : ExpandedStands → LiteralIsExpansion → PlannedTogetherFit
planned_together_fit stands law decls state before later others call plan are h order =
    fit_along decls stands law are (call, plan) others state (before ++ later) (put_first decls state before (call, plan) later h) order

-- in any order none of them is refused

module _ (stands : ExpandedStands) (law : LiteralIsExpansion) (decls : Decls) (are : AreDecls decls) where
  abbrev Free : Datastore → Call × Plan → Type 0
  Free state it = clash decls.names state.live (expanded_to (expanded_call decls state it.0)) ≡ None

  -- one that fits another is as free of clashes after it
  free_again : (state : Datastore) (done it : Call × Plan) → AreLawful decls done → Stands decls state done → Stands decls state it → Fits it done
      → Free state it → Free (after decls state done.0) it
  free_again state done it lawful own other fit free =
      still_free stands decls it.0 it.1.held state done.0 (holds_of decls state it.0 it.1 other)
      (lawful, subst (FitTogether it.1.held) (sym own.held) fit) free

  none_refused : (order : List (Call × Plan)) (state : Datastore) (plans : List (Call × Plan)) → ArePlannedTogether decls state plans
      → All (Free state) plans → AreInAnyOrder plans order → EachAlong (IsValidWith decls) decls state (map (λ it. it.0) order)
      → IsUnrefused decls state (map (λ it. it.0) order)
  none_refused [] state plans h free order valid = tt
  none_refused (done ∷ rest) state plans h free order valid =
      let before = order.0 in
      let later = order.1 in
      let all : ArePlannedTogether decls state (before ++ done ∷ later) = subst (ArePlannedTogether decls state) order.2 h in
      let frees = parts_of (Free state) before done later (subst (All (Free state)) order.2 free) in
      let lawful = (parts_of (AreLawful decls) before done later all.lawful).1.0 in
      let standing = parts_of (Stands decls state) before done later all.standing in
      let fits = pairs before done later all.fit in
      let own : Stands decls state done = standing.1.0 in
      let Both : Call × Plan → Type 0 = λ it. Stands decls state it × Fits it done in
      let after_all : All (Free (after decls state done.0)) (before ++ later) =
      All-append (Free (after decls state done.0)) before later
      (both Both (Free state) (Free (after decls state done.0)) (λ it b f. free_again state done it lawful own b.0 b.1 f) before
      (both (Stands decls state) (λ (it : Call × Plan). Fits it done) Both (λ it a b. (a, b)) before standing.0 fits.0) frees.0)
      (both Both (Free state) (Free (after decls state done.0)) (λ it b f. free_again state done it lawful own b.0 b.1 f) later
      (both (Stands decls state) (Fits done) Both (λ it a b. (a, fit_other done.1.held it.1.held b)) later standing.1.1 fits.1.0) frees.1.1) in (
        nothing_refuses decls state done.0 own.exist valid.0 own.expanded frees.1.0,
        none_refused rest (after decls state done.0) (before ++ later)
            (plans_stand_together stands law decls state before later done.0 done.1 are all) after_all order.3 valid.1,
      )

pub together_unrefused : ExpandedStands → LiteralIsExpansion → TogetherUnrefused
together_unrefused stands law decls state plans order are h free any valid = none_refused stands law decls are order state plans h free any valid
