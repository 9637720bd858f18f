-- What stays so of a call that has its Intent, while other calls are committed.
use Rattle.std.proofs.Common.{◌≡◌, ℕ, ◌≤◌, List, [], ◌∷◌, ◌++◌, None, take, drop, length, All, IsTrue, sym, ap, subst, ◌∙◌, arith}
use Rattle.std.specs.declared.result.Result.TheVariants.{Ok}
use Rattle.std.proofs.lemmas.List.{take-append-le, drop-append-le, take-append-drop, length-append}
use Rattle.std.proofs.lemmas.List.Sums.{AllPass-from_list_all}
use Rattle.std.proofs.Math.Seq.{take-length, drop-length}
use Rattle.std.proofs.lemmas.List.Elements.{All-append, All-cons, All-nil}
use Rattle.orc_call.specs.declared.call.Call.{Call}
use Rattle.orc_queue.specs.Fitting.{FitTogether}
use Rattle.orc_queue.specs.declared.held.Held.{Held}
use Rattle.orc_datastore.specs.Actions.{data_after}
use Rattle.orc_decls.specs.Calls.{is_action, is_call}
use Rattle.orc_decls.specs.Declarations.{AreDecls}
use Rattle.orc_datastore.specs.Histories.{fold_from}
use Rattle.orc_datastore.specs.Legal.{IsLegal, IsNew, IsSame, IsDue, state_of}
use Rattle.orc_datastore.specs.Next.{after, invalid}
use Rattle.orc_datastore.specs.States.{Datastore, opening}
use Rattle.orc_decls.specs.declared.declarations.Decls.{Decls}
use Rattle.orc_decls.proofs.Fits.{call-actions}
use Rattle.orc_datastore.proofs.Legality.{fold_from-append, legal_more}
use Rattle.orc_plans.specs.Plans.{EachAlong, FitsBeside, StandsOn, LegalStands, PlanStands}
use Rattle.orc_datastore.specs.Plans.{planned}
use Rattle.orc_datastore.specs.declared.plan.Plan.{Plan}
use Rattle.orc_rules.specs.Standing.{IsAdmitted}
use Rattle.orc_state.specs.States.{IsPlanAt}
use Rattle.orc_rules.specs.declared.transaction.Transaction.{Transaction}

-- the state after a history, from that after a prefix of it on
state_since : (decls : Decls) (history : List Call) (n : ℕ)
    → fold_from decls (state_of decls (take n history)) (drop n history) ≡ state_of decls history
state_since decls history n =
    sym (fold_from-append decls (opening decls) (take n history) (drop n history)) ∙ ap (state_of decls) (take-append-drop n history)

-- one call more
each_push : (IsSo : Datastore → Call → Type 0) (decls : Decls) (state : Datastore) (calls : List Call) (call : Call)
    → EachAlong IsSo decls state calls → IsSo (fold_from decls state calls) call → EachAlong IsSo decls state (calls ++ call ∷ [])
each_push IsSo decls state [] call h one = (one, tt)
each_push IsSo decls state (first ∷ calls) call h one = (h.0, each_push IsSo decls (after decls state first) calls call h.1 one)

-- the plan of an admitted call stands after the whole history
pub still_stands : PlanStands → (decls : Decls) (history : List Call) (it : Transaction) → AreDecls decls → IsAdmitted decls history it
    → StandsOn decls (state_of decls history) it.call it.plan
still_stands law decls history it are own =
    subst (λ (s : Datastore). StandsOn decls s it.call it.plan) (state_since decls history it.since)
    (law decls (state_of decls (take it.since history)) it.call it.plan (drop it.since history) are own.stood own.fitting).0

-- committing it keeps the history legal, where the data is valid with it
pub commit_is_legal : LegalStands → (decls : Decls) (history : List Call) (it : Transaction) → IsLegal decls history → IsAdmitted decls history it
    → invalid decls.data_schema (data_after it.call.actions (state_of decls history).data) ≡ None
    → IsLegal decls (history ++ it.call ∷ [])
commit_is_legal law decls history it legal own valid =
    let whole : take it.since history ++ drop it.since history ≡ history = take-append-drop it.since history in
    subst (λ (h : List Call). IsLegal decls (h ++ it.call ∷ [])) whole
    (law decls (take it.since history) (drop it.since history) it.call own.legal (subst (IsLegal decls) (sym whole) legal) own.fresh
    (subst (λ (held : Held). EachAlong (FitsBeside decls held) decls (state_of decls (take it.since history)) (drop it.since history))
    (sym own.stood.held) own.fitting)
    (subst (λ (h : List Call). invalid decls.data_schema (data_after it.call.actions (state_of decls h).data) ≡ None) (sym whole) valid))

-- the actions of a lawful call are ones that call blocks give
pub actions_of : (decls : Decls) (call : Call) → IsTrue (is_call decls call) → All (λ action. IsTrue (is_action decls action)) call.actions
actions_of decls call lawful = AllPass-from_list_all (is_action decls) call.actions (call-actions decls call lawful)

-- a plan at its front is one there, whatever is committed
pub stays_planned : (decls : Decls) (history more : List Call) (call : Call) (plan : Plan) → IsPlanAt decls history call plan
    → IsPlanAt decls (history ++ more) call plan
stays_planned decls history more call plan own = record {
  front = let within = own.front in omega (arith, within, length-append history more);
  planned =
      subst (λ (h : List Call). planned decls (state_of decls h) plan.front call ≡ Ok plan) (sym (take-append-le plan.front history more own.front)) own.planned;
}

-- an admitted call stays so where another one is committed that fits it
pub stays_admitted : PlanStands → (decls : Decls) (history : List Call) (it other : Transaction) → AreDecls decls
    → IsAdmitted decls history it → IsAdmitted decls history other → FitTogether it.plan.held other.plan.held
    → (IsSame other.call it.call → ⊥) → IsAdmitted decls (history ++ other.call ∷ []) it
stays_admitted law decls history it other are own their fit apart = record {
  lawful = own.lawful;
  planned = stays_planned decls history (other.call ∷ []) it.call it.plan own.planned;
  within = longer;
  legal = subst (λ (h : List Call). IsLegal decls (h ++ it.call ∷ [])) (sym front) own.legal;
  stood = subst (λ (h : List Call). StandsOn decls (state_of decls h) it.call it.plan) (sym front) own.stood;
  fitting = subst (λ (h : List Call). EachAlong (FitsBeside decls it.plan.held) decls (state_of decls h) (drop it.since (history ++ other.call ∷ []))) (sym front)
      (subst (λ (cs : List Call). EachAlong (FitsBeside decls it.plan.held) decls (state_of decls (take it.since history)) cs) (sym back)
      (each_push (FitsBeside decls it.plan.held) decls (state_of decls (take it.since history)) (drop it.since history) other.call own.fitting
      (subst (λ (s : Datastore). FitsBeside decls it.plan.held s other.call) (sym (state_since decls history it.since)) beside)));
  fresh = subst (λ (cs : List Call). IsNew cs it.call) (sym back)
      (All-append (λ entry. IsSame entry it.call → ⊥) (drop it.since history) (other.call ∷ []) own.fresh
      (All-cons (λ entry. IsSame entry it.call → ⊥) other.call [] apart (All-nil (λ entry. IsSame entry it.call → ⊥))));
}
  where
    front : take it.since (history ++ other.call ∷ []) ≡ take it.since history
    front = take-append-le it.since history (other.call ∷ []) own.within

    back : drop it.since (history ++ other.call ∷ []) ≡ drop it.since history ++ other.call ∷ []
    back = drop-append-le it.since history (other.call ∷ []) own.within

    longer : it.since ≤ length (history ++ other.call ∷ [])
    longer = let within = own.within in simp length-append (omega arith)

    beside : FitsBeside decls it.plan.held (state_of decls history) other.call
    beside = (
      actions_of decls other.call their.lawful,
      subst (FitTogether it.plan.held) (sym (still_stands law decls history other are their).held) fit,
    )

-- a call is admitted where its plan stands and it makes the history legal
pub comes_admitted : (decls : Decls) (history : List Call) (it : Transaction) → it.since ≡ length history → IsTrue (is_call decls it.call)
    → IsPlanAt decls history it.call it.plan → IsLegal decls history → IsDue decls history it.call
    → StandsOn decls (state_of decls history) it.call it.plan → IsAdmitted decls history it
comes_admitted decls history it since lawful at legal due own = record {
  lawful = lawful;
  planned = at;
  within = subst (λ n. n ≤ length history) (sym since) (omega arith);
  legal = subst (λ (h : List Call). IsLegal decls (h ++ it.call ∷ [])) (sym whole) (legal_more decls history it.call legal lawful due);
  stood = subst (λ (h : List Call). StandsOn decls (state_of decls h) it.call it.plan) (sym whole) own;
  fitting = subst (λ (cs : List Call). EachAlong (FitsBeside decls it.plan.held) decls (state_of decls (take it.since history)) cs) (sym none) tt;
  fresh = subst (λ (cs : List Call). IsNew cs it.call) (sym none) (All-nil (λ entry. IsSame entry it.call → ⊥));
}
  where
    whole : take it.since history ≡ history
    whole = ap (λ n. take n history) since ∙ take-length history

    none : drop it.since history ≡ []
    none = ap (λ n. drop n history) since ∙ drop-length history
