-- A path and those that begin with its steps.
use Rattle.std.proofs.Common.{◌≡◌, ◌≢◌, true, List, [], ◌∷◌, ◌++◌, refl, sym, ap, ◌∙◌}
use Rattle.std.proofs.lemmas.Bool.{and_from}
use Rattle.std.specs.declared.cmp.Ordering.TheVariants.{Less}
use Rattle.std.specs.Ordering.{ordering_then}
use Rattle.std.specs.Cmp.{first_so, second_so}
use Rattle.std.proofs.lemmas.Cmp.{tied_itself}
use Rattle.orc_path.specs.Steps.{PathStep}
use Rattle.orc_path.specs.Order.{step_cmp, path_cmp, is_prefix}
use Rattle.orc_path.proofs.PathOrder.{step_cmp_total}
use Rattle.orc_path.proofs.Equality.{step_eq_decides}

-- what a path has beyond its first steps
pub is_prefix_rest : (p q : List PathStep) → is_prefix p q ≡ true → (rest : List PathStep) × (q ≡ p ++ rest)
is_prefix_rest [] q h = (q, refl)
is_prefix_rest (s ∷ p) [] h = let not_so : ⊥ = cc in absurd not_so
is_prefix_rest (s ∷ p) (t ∷ q) h =
    let more = is_prefix_rest p q (second_so _ _ h) in
    let same : t ≡ s = sym ((step_eq_decides s t).0 (first_so _ _ h)) in
    (more.0, ap (λ ss. t ∷ ss) more.1 ∙ ap (λ u. u ∷ (p ++ more.0)) same)

-- a path begins with its first steps
pub is_prefix-append : (p rest : List PathStep) → is_prefix p (p ++ rest) ≡ true
is_prefix-append [] rest = refl
is_prefix-append (s ∷ p) rest = and_from _ _ ((step_eq_decides s s).1 refl) (is_prefix-append p rest)

-- a path comes before its extensions
pub path_cmp-extension : (p q : List PathStep) → is_prefix p q ≡ true → p ≢ q → path_cmp p q ≡ Less
path_cmp-extension [] [] h unlike = absurd (unlike refl)
path_cmp-extension [] (t ∷ q) h unlike = refl
path_cmp-extension (s ∷ p) [] h unlike = let not_so : ⊥ = cc in absurd not_so
path_cmp-extension (s ∷ p) (t ∷ q) h unlike =
    let same : s ≡ t = (step_eq_decides s t).0 (first_so _ _ h) in
    ap (λ o. ordering_then o (path_cmp p q)) (ap (step_cmp s) (sym same) ∙ tied_itself step_cmp_total s)
    ∙ path_cmp-extension p q (second_so _ _ h) (λ e. unlike (ap (λ ss. s ∷ ss) e ∙ ap (λ u. u ∷ q) same))
