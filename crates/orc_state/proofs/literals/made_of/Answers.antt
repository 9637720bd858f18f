-- Actions for which no template is expanded come to themselves.
use Rattle.std.proofs.Common.{◌≡◌, ◌∙◌, ℕ, List, [], ◌∷◌, false, refl, sym, ap}
use Rattle.std.specs.List.{list_any}
use Rattle.std.proofs.lemmas.Bool.{false≢true}
use Rattle.orc_call.specs.declared.call.Action.{Action}
use Rattle.orc_call.specs.declared.call.Action.TheVariants.{Create, Modify, Redeploy, Delete, Literal, Set, Unset, BasePut, BaseRemove}
use Rattle.orc_plans.specs.Plans.{with_expansions}
use Rattle.orc_services.specs.Expanded.{is_templated}
use Rattle.orc_template.specs.declared.expansion.Expansion.{Expansion}
use Rattle.orc_state.proofs.literals.made_of.Goals as goal

own : (names : List (List ℕ)) (actions : List Action) (expansions : List (List ℕ × Expansion)) → list_any is_templated actions ≡ false
    → with_expansions names actions expansions ≡ actions
own names [] expansions h = refl
own names (Create id body ∷ actions) expansions h = absurd (false≢true (sym h))
own names (Modify id body ∷ actions) expansions h = absurd (false≢true (sym h))
own names (Redeploy id ∷ actions) expansions h = absurd (false≢true (sym h))
own names (Delete id ∷ actions) expansions h = ap (λ (l : List Action). Delete id ∷ l) (own names actions expansions h)
own names (Literal id writes ∷ actions) expansions h = ap (λ (l : List Action). Literal id writes ∷ l) (own names actions expansions h)
own names (Set put ∷ actions) expansions h = ap (λ (l : List Action). Set put ∷ l) (own names actions expansions h)
own names (Unset path ∷ actions) expansions h = ap (λ (l : List Action). Unset path ∷ l) (own names actions expansions h)
own names (BasePut put ∷ actions) expansions h = ap (λ (l : List Action). BasePut put ∷ l) (own names actions expansions h)
own names (BaseRemove device path ∷ actions) expansions h = ap (λ (l : List Action). BaseRemove device path ∷ l) (own names actions expansions h)

pub returns-then-not-any_templated : goal.returns-then-not-any_templated
returns-then-not-any_templated c =
    sym (own c.args.names.now c.args.actions.now c.args.expansions.now (sym c.any_templated.ensures ∙ c.if-not-any_templated.true))
