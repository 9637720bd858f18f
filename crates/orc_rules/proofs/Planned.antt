-- What is asked of calls and plans holds of those that are declared: the crash invariant is of the real states.
use Rattle.std.proofs.Common.{◌≡◌, ℕ, Bool, true, false, nat_eq, nat_lt, cond, List, [], ◌∷◌, ◌++◌, length, Contains, refl, sym, ap, subst, ◌∙◌, eqb-true, eq-eqb, ltb-true}
use Rattle.std.specs.Prelude.{filter, ◌||◌}
use Rattle.std.specs.List.{list_any}
use Rattle.std.specs.FinMap.{empty}
use Rattle.orc_datastore.specs.Actions.{data_after}
use Rattle.std.proofs.lemmas.Bool.{false≢true}
use Rattle.std.proofs.lemmas.List.Elements.{filter-append}
use Rattle.orc_call.specs.declared.call.Call.{Call}
use Rattle.orc_queue.specs.Fitting.{FitTogether}
use Rattle.orc_queue.specs.declared.held.Held.{Held}
use Rattle.orc_decls.specs.Calls.{is_call}
use Rattle.orc_decls.specs.Declarations.{AreDecls}
use Rattle.orc_datastore.specs.Legal.{state_of}
use Rattle.orc_datastore.specs.Next.{after}
use Rattle.orc_datastore.specs.Plans.{call_held}
use Rattle.orc_datastore.specs.States.{Datastore, opening, tree_due}
use Rattle.orc_decls.specs.declared.declarations.Decls.{Decls}
use Rattle.orc_datastore.proofs.Agreement.{first_in, later_in}
use Rattle.orc_datastore.proofs.LeastClash.{any_of}
use Rattle.orc_datastore.proofs.Legality.{fold_from-push}
use Rattle.orc_plans.specs.Plans.{EachAlong, FitsBeside, PlanStands, PlannedStands, PlannedTreeIsStable, StandsOn, UnheldStay}
use Rattle.orc_rules.specs.Kept.{FitAt, StandsAt, ValidAt, lawful_state}
use Rattle.orc_rules.specs.Network.{Plan as Named, Planning}
use Rattle.orc_rules.specs.Worlds.{over}
use Rattle.orc_queue.proofs.Mutual.{fit_other}
use Rattle.orc_rules.proofs.Standings.{actions_of}

module _ (decls : Decls) (are : AreDecls decls) (stands : PlanStands) (planned : PlannedStands) (stable : PlannedTreeIsStable) (unheld : UnheldStay) where
  -- one lawful call more
  lawful_more : (history : List Call) (call : Call) → is_call decls call ≡ true → filter (is_call decls) (history ++ call ∷ []) ≡ filter (is_call decls) history ++ call ∷ []
  lawful_more history call is = filter-append (is_call decls) history (call ∷ []) ∙ ap (λ (l : List Call). filter (is_call decls) history ++ l) (one (is_call decls call) is)
    where
      one : (b : Bool) → b ≡ true → cond b (call ∷ []) [] ≡ call ∷ []
      one true e = refl
      one false e = cc

  state_more : (history : List Call) (call : Call) → is_call decls call ≡ true → lawful_state decls (history ++ call ∷ []) ≡ after decls (lawful_state decls history) call
  state_more history call is = ap (state_of decls) (lawful_more history call is) ∙ fold_from-push decls (opening decls) (filter (is_call decls) history) call

  beside : (history : List Call) (p q : Named Call) (one : StandsAt decls history p) → StandsAt decls history q → FitAt decls history p q
      → EachAlong (FitsBeside decls one.plan.held) decls (lawful_state decls history) (q.call ∷ [])
  beside history p q one other fit =
      ((actions_of decls q.call other.lawful, subst (λ (h : Held). FitTogether h (call_held decls (lawful_state decls history) q.call)) one.stands.held fit), tt)

  -- the plan stands after the other call, and holds what it held
  moved : (history : List Call) (p q : Named Call) (one : StandsAt decls history p) → StandsAt decls history q → FitAt decls history p q
      → StandsOn decls (lawful_state decls (history ++ q.call ∷ [])) p.call one.plan
  moved history p q one other fit = subst (λ (s : Datastore). StandsOn decls s p.call one.plan) (sym (state_more history q.call other.lawful))
      (stands decls (lawful_state decls history) p.call one.plan (q.call ∷ []) are one.stands (beside history p q one other fit)).0

  held_stays : (history : List Call) (p q : Named Call) → StandsAt decls history p → StandsAt decls history q → FitAt decls history p q
      → call_held decls (lawful_state decls (history ++ q.call ∷ [])) p.call ≡ call_held decls (lawful_state decls history) p.call
  held_stays history p q one other fit = (moved history p q one other fit).held ∙ sym one.stands.held

  named_in : (device : ℕ) (devices : List ℕ) → list_any (nat_eq device) devices ≡ true → Contains devices device
  named_in device [] h = cc
  named_in device (x ∷ xs) h = on (named_in device xs) (nat_eq device x) refl h
    where
      on : (list_any (nat_eq device) xs ≡ true → Contains xs device) → (b : Bool) → nat_eq device x ≡ b → (b || list_any (nat_eq device) xs) ≡ true → Contains (x ∷ xs) device
      on rest true is e = subst (λ y. Contains (y ∷ xs) device) (eqb-true device x is) (first_in device xs)
      on rest false is e = later_in x device xs (rest e)

  named_at : (device : ℕ) (devices : List ℕ) → Contains devices device → list_any (nat_eq device) devices ≡ true
  named_at device devices among = any_of (nat_eq device) devices device among (eq-eqb device device refl)

  unnamed_in : (device : ℕ) (devices : List ℕ) → list_any (nat_eq device) devices ≡ false → Contains devices device → ⊥
  unnamed_in device devices h among = false≢true (sym h ∙ named_at device devices among)

  declared_or : {A : Type 0} (b : Bool) (x y e : A) → (b ≡ true → x ≡ y) → cond b x e ≡ cond b y e
  declared_or true x y e h = h refl
  declared_or false x y e h = refl

  pub planning : Planning (over decls) (StandsAt decls) (FitAt decls) (ValidAt decls)
  planning = record {
    frame = λ h p d one valid unnamed.
        declared_or (nat_lt d (length decls.names)) (tree_due (lawful_state decls (h ++ p.call ∷ [])) d) (tree_due (lawful_state decls h) d) empty
        (λ declared. ap (λ (s : Datastore). tree_due s d) (state_more h p.call one.lawful)
        ∙ (unheld decls (lawful_state decls h) 0 p.call (record { front = 0; held = one.plan.held; expansions = one.plan.expansions; next = data_after p.call.actions (lawful_state decls h).data }) d
        ((planned decls (lawful_state decls h) 0 p.call one.plan).1 one.stands valid) (ltb-true d (length decls.names) declared)
        (unnamed_in d one.plan.held.devices (sym (one.names d) ∙ unnamed))).0);
    stands = λ h p q one other fit. record { lawful = one.lawful; plan = one.plan; stands = moved h p q one other fit; names = one.names };
    stable = λ h p q d one other fit named.
        declared_or (nat_lt d (length decls.names)) (tree_due (lawful_state decls ((h ++ q.call ∷ []) ++ p.call ∷ [])) d) (tree_due (lawful_state decls (h ++ p.call ∷ [])) d) empty
        (λ declared. ap (λ (s : Datastore). tree_due s d) (state_more (h ++ q.call ∷ []) p.call one.lawful)
        ∙ ap (λ (s : Datastore). tree_due (after decls s p.call) d) (state_more h q.call other.lawful)
        ∙ stable decls (lawful_state decls h) p.call one.plan (q.call ∷ []) d one.stands (beside h p q one other fit) (named_in d one.plan.held.devices (sym (one.names d) ∙ named))
        ∙ sym (ap (λ (s : Datastore). tree_due s d) (state_more h p.call one.lawful)));
    fits = λ h p q r one two three pq pr qr.
        subst (λ (a : Held). FitTogether a (call_held decls (lawful_state decls (h ++ r.call ∷ [])) q.call)) (sym (held_stays h p r one three pr))
        (subst (λ (b : Held). FitTogether (call_held decls (lawful_state decls h) p.call) b) (sym (held_stays h q r two three qr)) pq);
    mutual_fit = λ h p q fit. fit_other (call_held decls (lawful_state decls h) p.call) (call_held decls (lawful_state decls h) q.call) fit;
  }
