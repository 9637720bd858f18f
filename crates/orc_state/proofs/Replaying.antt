-- What a new call is answered that is planned on the present state, checked there and committed.
use Rattle.std.proofs.Common.{◌≡◌, ℕ, List, Some, None, length, refl, sym, ap, subst, ◌∙◌, arith}
use Rattle.std.specs.Prelude.{Option}
use Rattle.std.specs.declared.result.Result.{Result}
use Rattle.std.specs.declared.result.Result.TheVariants.{Ok, Err}
use Rattle.std.specs.Option.{option_or}
use Rattle.std.proofs.lemmas.Option.{slice_get_within}
use Rattle.orc_call.specs.declared.answer.Answer.{Answer}
use Rattle.orc_call.specs.declared.call.Call.{Call}
use Rattle.orc_tree.specs.declared.change.ChangeSet.{ChangeSet}
use Rattle.orc_datastore.specs.Actions.{data_after}
use Rattle.orc_datastore.specs.Legal as legal
use Rattle.orc_datastore.specs.Legal.{AnswersAtOnce, IsDue, IsNew, refusal_of, state_of}
use Rattle.orc_datastore.specs.Next.{existence, invalid, refusal}
use Rattle.orc_datastore.specs.Plans.{plan_refusal, plan_unless, planned}
use Rattle.orc_datastore.specs.States.{Datastore}
use Rattle.orc_decls.specs.declared.declarations.Decls.{Decls}
use Rattle.orc_datastore.specs.declared.plan.Plan.{Plan}
use Rattle.orc_plans.specs.Plans.{PlanRefusesFirst}
use Rattle.orc_state.specs.Checks.{Checks, clash_of, clashes, conflicts, early, passes}
use Rattle.orc_state.specs.States.{IsStateUnder, State}
use Rattle.orc_state.proofs.Fronts.{front_of, unrefused_plan}

-- what is refused first is the refusal
first_stays : {X : Type 0} (a b c : Option X) (x : X) → option_or a b ≡ Some x → option_or a (option_or b c) ≡ Some x
first_stays None None c x h = let not_so : None ≡ Some x = h in absurd cc
first_stays None (Some y) c x h = h
first_stays (Some y) b c x h = h

-- a call that has no plan is refused for what refuses the plan, and one that has one isn't
no_plan : (o : Option Answer) (made : Plan) (answer : Answer) → plan_unless o made ≡ Err answer → o ≡ Some answer
no_plan None made answer h = absurd cc
no_plan (Some other) made answer h = let same : other ≡ answer = cc in ap Some same

module _ (decls : Decls) (state : State) (own : IsStateUnder decls state) (call : Call) (law : PlanRefusesFirst) (new : IsNew state.history call) where
  abbrev store : Datastore
  store = state.datastore

  refused : (answer : Answer) → refusal_of decls state.history call ≡ Some answer → AnswersAtOnce decls state.history call answer
  refused answer is = legal.AnswersAtOnce.refused answer new is

  on_store : (s : Datastore) (answer : Answer) → s ≡ state_of decls state.history → refusal decls s call ≡ Some answer → refusal_of decls state.history call ≡ Some answer
  on_store s answer same is = subst (λ (x : Datastore). refusal decls x call ≡ Some answer) same is

  pub unplanned : (front : ℕ) (answer : Answer) → planned decls state.datastore front call ≡ Err answer → AnswersAtOnce decls state.history call answer
  unplanned front answer is =
      let none : plan_refusal decls store call ≡ Some answer = no_plan (plan_refusal decls store call) _ answer is in
      refused answer (on_store store answer own.datastore
      (law decls store call ∙ ap (λ (o : Option Answer). option_or o (clash_of decls store call)) none))

  -- refused by the check, on the state that the plan was made on
  pub unchecked : (plan : Plan) (answer : Answer) (found : Result (List (ℕ × ChangeSet)) Answer) → planned decls state.datastore (length state.history) call ≡ Ok plan
      → Checks decls state.history call plan found → found ≡ Err answer → AnswersAtOnce decls state.history call answer
  unchecked plan answer found is checks same = on found checks same
    where
      here : Datastore
      here = state_of decls state.history

      unrefused : plan_refusal decls here call ≡ None
      unrefused =
          subst (λ (x : Datastore). plan_refusal decls x call ≡ None) own.datastore (unrefused_plan (plan_refusal decls store call) _ plan is)

      front : plan.front ≡ length state.history
      front = sym (ap (λ (p : Plan). p.front) (front_of (plan_refusal decls store call) _ plan is))

      told : (a : Answer) → refusal decls here call ≡ Some a → a ≡ answer → AnswersAtOnce decls state.history call answer
      told a so e = subst (AnswersAtOnce decls state.history call) e (refused a so)

      on : (f : Result (List (ℕ × ChangeSet)) Answer) → Checks decls state.history call plan f → f ≡ Err answer → AnswersAtOnce decls state.history call answer
      on f (early a so) e =
          let one : a ≡ answer = cc in
          told a (first_stays (existence here.live call.actions) (invalid decls.data_schema (data_after call.actions here.data)) _ a so) one
      on f (conflicts place write none conflict) e =
          let within = slice_get_within state.history place conflict.entry conflict.there in
          let later = conflict.later in
          absurd (omega (arith, within, later, front))
      on f (clashes a none unread so) e =
          let one : a ≡ answer = cc in
          told a (law decls here call ∙ ap (λ (o : Option Answer). option_or o (clash_of decls here call)) unrefused ∙ so) one
      on f (passes unread none stands) e = absurd cc
