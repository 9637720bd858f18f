-- Actions for which no template is expanded come to themselves, and their plan has no expansion.
use Rattle.std.proofs.Common.{◌≡◌, ◌∙◌, ℕ, List, [], ◌∷◌, ◌++◌, false, refl, sym, ap}
use Rattle.std.specs.List.{list_any}
use Rattle.std.specs.declared.result.Result.TheVariants.{Ok}
use Rattle.std.proofs.lemmas.Bool.{false≢true}
use Rattle.orc_call.specs.declared.call.Action.{Action}
use Rattle.orc_call.specs.declared.call.Action.TheVariants.{Create, Modify, Redeploy, Delete, Literal, Set, Unset, BasePut, BaseRemove}
use Rattle.orc_services.specs.Expanded.{ExpandedTo, expanded_action, expanded_actions, expanded_by, is_templated}
use Rattle.orc_services.specs.Services.{Serving}
use Rattle.orc_path.specs.Configurations.{Config}
use Rattle.orc_decls.proofs.Lists.{or_first, or_second}
use Rattle.orc_decls.specs.declared.declarations.Decls.{Decls}
use Rattle.orc_datastore.specs.Next.{serving_on}
use Rattle.orc_datastore.specs.inside.Sights.{all_expansions, expansions_by, held_known, planned_by, planned_known}

itself : (s : Serving) (action : Action) → is_templated action ≡ false → expanded_action s action ≡ record { outcome = Ok action; reads = [] }
itself s (Create id body) h = absurd (false≢true (sym h))
itself s (Modify id body) h = absurd (false≢true (sym h))
itself s (Redeploy id) h = absurd (false≢true (sym h))
itself s other h = refl

themselves : (s : Serving) (actions : List Action) → list_any is_templated actions ≡ false → expanded_actions s actions ≡ record { outcome = Ok actions; reads = [] }
themselves s [] h = refl
themselves s (action ∷ actions) h =
    ap (λ (e : ExpandedTo Action). expanded_by e.outcome e.reads (expanded_actions s actions))
    (itself s action (or_first (is_templated action) (list_any is_templated actions) h))
    ∙ ap (expanded_by (Ok action) []) (themselves s actions (or_second (is_templated action) (list_any is_templated actions) h))

none_by : (names : List (List ℕ)) (action made : Action) → is_templated action ≡ false → expansions_by names action made ≡ []
none_by names (Create id body) made h = absurd (false≢true (sym h))
none_by names (Modify id body) made h = absurd (false≢true (sym h))
none_by names (Redeploy id) made h = absurd (false≢true (sym h))
none_by names other made h = refl

none : (names : List (List ℕ)) (actions : List Action) → list_any is_templated actions ≡ false → all_expansions names actions actions ≡ []
none names [] h = refl
none names (action ∷ actions) h =
    ap (λ l. l ++ all_expansions names actions actions) (none_by names action action (or_first (is_templated action) (list_any is_templated actions) h))
    ∙ none names actions (or_second (is_templated action) (list_any is_templated actions) h)

-- the plan of such actions
pub planned_themselves : (decls : Decls) (known : Config) (front : ℕ) (actions : List Action) (config : Config) → list_any is_templated actions ≡ false
    → Ok (record { front = front; held = held_known decls known actions actions []; expansions = []; next = config }) ≡ planned_known decls known front actions config
planned_themselves decls known front actions config h =
    ap (λ l. Ok (record { front = front; held = held_known decls known actions actions []; expansions = l; next = config })) (sym (none decls.names actions h))
    ∙ ap (λ (due : ExpandedTo (List Action)). planned_by decls known front actions config due.outcome due.reads) (sym (themselves (serving_on decls config) actions h))
