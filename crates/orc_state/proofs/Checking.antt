-- What a planned call is answered where nothing that it read was written.
use Rattle.std.proofs.Common.{◌≡◌, ℕ, List, Some, None, take, drop, refl, sym, ap, subst, ◌∙◌}
use Rattle.std.specs.Prelude.{IfOk, Option}
use Rattle.std.specs.declared.result.Result.{Result}
use Rattle.std.specs.declared.result.Result.TheVariants.{Ok, Err}
use Rattle.std.specs.Option.{option_or}
use Rattle.std.proofs.lemmas.List.{take-append-drop}
use Rattle.orc_call.specs.declared.answer.Answer.{Answer}
use Rattle.orc_call.specs.declared.call.Action.{Action}
use Rattle.orc_call.specs.declared.call.Call.{Call}
use Rattle.orc_tree.specs.declared.change.ChangeSet.{ChangeSet}
use Rattle.orc_template.specs.declared.expansion.Expansion.{Expansion}
use Rattle.orc_path.specs.Configurations.{Config}
use Rattle.orc_datastore.specs.Actions.{data_after}
use Rattle.orc_decls.specs.Declarations.{AreDecls}
use Rattle.orc_datastore.specs.Histories.{fold_from}
use Rattle.orc_datastore.specs.Legal.{state_of}
use Rattle.orc_datastore.specs.Next.{IsDataAfter, after_by, clash, existence, expanded_call, expanded_to, invalid, refusal, refusal_by, unexpanded}
use Rattle.orc_datastore.specs.States.{Datastore, opening}
use Rattle.orc_datastore.specs.Touched.{touched_among}
use Rattle.orc_decls.specs.declared.declarations.Decls.{Decls}
use Rattle.orc_datastore.specs.declared.plan.Plan.{Plan}
use Rattle.orc_datastore.proofs.Legality.{fold_from-append}
use Rattle.orc_plans.specs.Plans.{PlanIsEnough, PlannedStands, StandsOn, UnreadPlanStands, with_expansions}
use Rattle.orc_state.specs.Checks.{Checks, IsUnread, clash_of, clashes, early, passes, refused_early}
use Rattle.orc_state.specs.States.{IsPlanAt, state_at}
use Rattle.orc_datastore.specs.Sets.{AreSets, sets_among, sets_between, sets_of}

-- the state after a history, from that after a prefix of it on
state_since : (decls : Decls) (history : List Call) (n : ℕ)
    → fold_from decls (state_at decls history n) (drop n history) ≡ state_of decls history
state_since decls history n =
    sym (fold_from-append decls (opening decls) (take n history) (drop n history)) ∙ ap (state_of decls) (take-append-drop n history)

-- nothing first, and nothing then
pub neither : {X : Type 0} (one other : Option X) → option_or one other ≡ None → (one ≡ None) × (other ≡ None)
neither None other h = (refl, h)
neither (Some x) other h = let not_so : Some x ≡ None = h in absurd cc

module _ (decls : Decls) (history : List Call) (call : Call) (plan : Plan) where
  abbrev here : Datastore
  here = state_of decls history

  -- the plan stands on the present state
  pub stands_here : PlannedStands → UnreadPlanStands → AreDecls decls → IsPlanAt decls history call plan → IsUnread decls history plan
      → StandsOn decls (state_of decls history) call plan
  stands_here planned_law unread_law are of unread =
      subst (λ (s : Datastore). StandsOn decls s call plan) (state_since decls history plan.front)
      (unread_law decls (state_at decls history plan.front) call plan (drop plan.front history) are
      ((planned_law decls (state_at decls history plan.front) plan.front call plan).0 of.planned) unread).0

  -- and its call comes to these actions
  pub comes_to : PlanIsEnough → AreDecls decls → StandsOn decls (state_of decls history) call plan → (made : List Action) → made ≡ with_expansions decls.names call.actions plan.expansions
      → expanded_call decls (state_of decls history) call ≡ Ok made
  comes_to law are stands made is = law decls (state_of decls history) call plan are stands ∙ ap (λ (l : List Action). Ok l) (sym is)

  -- the sets of what it comes to are its own
  sets_same : (s : Datastore) (made : List Action) → expanded_call decls s call ≡ Ok made → sets_among decls.names made s ≡ sets_of decls s call
  sets_same s made is =
      let to : Result (List Action) Answer → List (ℕ × ChangeSet) =
      λ r. sets_between s (after_by decls s call (expanded_to r)) (touched_among decls.names s (expanded_to r)) in
      sym (ap to is)

  unrefused : (s : Datastore) (made : List Action) → refused_early decls s call ≡ None → expanded_call decls s call ≡ Ok made → clash decls.names s.live made ≡ None
      → refusal decls s call ≡ None
  unrefused s made none is clear =
      let two = neither (existence s.live call.actions) (invalid decls.data_schema (data_after call.actions s.data)) none in
      let last = option_or (unexpanded (Ok made)) (clash decls.names s.live made) in
      ap (refusal_by decls s call) is
      ∙ ap (λ (o : Option Answer). option_or o (option_or (invalid decls.data_schema (data_after call.actions s.data)) last)) two.0
      ∙ ap (λ (o : Option Answer). option_or o last) two.1
      ∙ clear

  pub checked : {E : Type 0} (s : Datastore) (made : List Action) (result : Result (Result (List (ℕ × ChangeSet)) Answer) E) → s ≡ state_of decls history
      → refused_early decls s call ≡ None → IsUnread decls history plan → StandsOn decls (state_of decls history) call plan
      → expanded_call decls s call ≡ Ok made → IfOk result (AreSets decls.names made s) → IfOk result (Checks decls history call plan)
  checked {E} s made result same none unread stands is h = on result h
    where
      first : refused_early decls here call ≡ None
      first = subst (λ (x : Datastore). refused_early decls x call ≡ None) same none

      comes : expanded_call decls here call ≡ Ok made
      comes = subst (λ (x : Datastore). expanded_call decls x call ≡ Ok made) same is

      on : (r : Result (Result (List (ℕ × ChangeSet)) Answer) E) → IfOk r (AreSets decls.names made s) → IfOk r (Checks decls history call plan)
      on (Ok (Ok sets)) g =
          let clear : clash decls.names here.live made ≡ None = subst (λ (x : Datastore). clash decls.names x.live made ≡ None) same g.0 in
          let whole : sets ≡ sets_of decls here call =
          g.1 ∙ ap (sets_among decls.names made) same ∙ sets_same here made comes in
          subst (λ (l : List (ℕ × ChangeSet)). Checks decls history call plan (Ok l)) (sym whole)
          (passes unread (unrefused here made first comes clear) stands)
      on (Ok (Err answer)) g =
          let found : clash_of decls here call ≡ Some answer =
          ap (λ r. clash decls.names here.live (expanded_to r)) comes ∙ subst (λ (x : Datastore). clash decls.names x.live made ≡ Some answer) same g in
          clashes answer first unread found
      on (Err fault) g = g

  -- refused before anything else
  pub refused_first : (s : Datastore) (answer : Answer) → s ≡ state_of decls history → IsDataAfter decls s call (Err answer) → Checks decls history call plan (Err answer)
  refused_first s answer same found = early answer (subst (λ (x : Datastore). refused_early decls x call ≡ Some answer) same found)

-- what the code lends makes the same actions
pub made_is : (names own : List (List ℕ)) (actions acts : List Action) (left expansions : List (List ℕ × Expansion)) → names ≡ own → actions ≡ acts → left ≡ expansions
    → with_expansions names actions left ≡ with_expansions own acts expansions
made_is names own actions acts left expansions ns cs es =
    ap (λ (l : List (List ℕ)). with_expansions l actions left) ns ∙ ap (λ (l : List Action). with_expansions own l left) cs
    ∙ ap (with_expansions own acts) es

-- a call is not refused where its data are, its actions come to these and nothing clashes
pub unrefused_by : (decls : Decls) (call : Call) (s : Datastore) (next : Config) (made : List Action) → IsDataAfter decls s call (Ok next)
    → expanded_call decls s call ≡ Ok made → clash_of decls s call ≡ None → refusal decls s call ≡ None
unrefused_by decls call s next made behind is clear =
    let last = option_or (unexpanded (Ok made)) (clash decls.names s.live made) in
    ap (refusal_by decls s call) is
    ∙ ap (λ (o : Option Answer). option_or o (option_or (invalid decls.data_schema (data_after call.actions s.data)) last)) behind.1
    ∙ ap (λ (o : Option Answer). option_or o last) behind.2
    ∙ sym (ap (λ r. clash decls.names s.live (expanded_to r)) is) ∙ clear
