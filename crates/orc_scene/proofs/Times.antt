-- Time and restarts.
use Rattle.std.proofs.Common.{[], ◌≡◌, ℕ, Some, None, List, ◌∷◌, ◌++◌, ◌<◌, ◌⊎◌, inl, inr, map, refl, sym, ap, ◌∙◌, ◌≤◌}
use Rattle.orc_check.specs.declared.acceptance.Accept.{Accept}
use Rattle.orc_node.specs.LinkStates.{LinkState}
use Rattle.orc_rules.specs.Events.{Turn}
use Rattle.orc_rules.specs.Worlds.{Setting}
use Rattle.orc_rules.specs.declared.event.Event.{Event}
use Rattle.orc_runs.specs.Runs.{EndsRun}

some_not_none : {A B : Type 0} (x : A) → Some x ≡ None → B
some_not_none x e = absurd cc

pub accepts_mapped : (g : LinkState → LinkState) → ((link : LinkState) → (g link).node.accept ≡ link.node.accept) → (links : List LinkState)
    → map (λ link. link.node.accept) (map g links) ≡ map (λ link. link.node.accept) links
accepts_mapped g same [] = refl
accepts_mapped g same (link ∷ links) =
    ap (λ (a : Accept). a ∷ map (λ link. link.node.accept) (map g links)) (same link)
    ∙ ap (λ (all : List Accept). link.node.accept ∷ all) (accepts_mapped g same links)

module _ {D : Type 0} (here : Setting D) where
  -- a turn that is seen, and leaves the hub as it is, doesn't end the run
  pub goes_on_same : (turn : Turn D) (one : Event) → turn.seen ≡ Some one → turn.behind.hub ≡ turn.before.hub → EndsRun turn → ⊥
  goes_on_same turn one is same (inl none) = some_not_none one (sym is ∙ none)
  goes_on_same turn one is same (inr ends) = some_not_none ends.0 (sym ends.1 ∙ sym same ∙ ends.2)
