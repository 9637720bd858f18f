-- Changes touch the paths that they name.
use Rattle.std.proofs.Common.{◌≡◌, inl, inr, Bool, true, false, ◌||◌, List, [], ◌∷◌, refl, ap}
use Rattle.std.specs.Ordering.{eq_by_cmp}
use Rattle.orc_path.specs.Steps.{PathStep}
use Rattle.orc_path.specs.Order.{path_cmp}
use Rattle.orc_path.proofs.ConfigurationLaws.{path_ties}
use Rattle.orc_tree.specs.declared.change.Change.{Change}
use Rattle.orc_tree.specs.declared.change.Change.TheVariants as change
use Rattle.orc_change.proofs.Towards.{Mentions}
use Rattle.orc_refs.specs.inside.Settling.{changes_touch}

or_right : (a b : Bool) → b ≡ true → (a || b) ≡ true
or_right true b e = refl
or_right false b e = e

-- a change that is of a path touches it
pub mentions_touch : (q : List PathStep) (cs : List Change) → Mentions q cs → changes_touch cs q ≡ true
mentions_touch q [] never = elim never [ ]
mentions_touch q (change.Remove p ∷ cs) (inl h) = ap (λ b. b || changes_touch cs q) (path_ties q p h)
mentions_touch q (change.Remove p ∷ cs) (inr h) = or_right (eq_by_cmp path_cmp q p) _ (mentions_touch q cs h)
mentions_touch q (change.Put p item ∷ cs) (inl h) = ap (λ b. b || changes_touch cs q) (path_ties q p h)
mentions_touch q (change.Put p item ∷ cs) (inr h) = or_right (eq_by_cmp path_cmp q p) _ (mentions_touch q cs h)
