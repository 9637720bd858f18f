-- A set of texts that grows beside a list of them.
use Rattle.std.proofs.Common.{◌≡◌, ℕ, ◌+◌, ◌<◌, Bool, true, false, cond, List, [], ◌∷◌, ◌++◌, length, get_or, take, refl, sym, ap, ◌∙◌}
use Rattle.std.specs.Prelude.{◌||◌, nat_eq}
use Rattle.std.specs.List.{list_any}
use Rattle.std.specs.Cmp.Lexicographic.{pointwise, nat_list_eq_equiv}
use Rattle.std.proofs.lemmas.List.{take_more}
use Rattle.std.proofs.lemmas.List.Folds.{list_any-append}

last : (t o : Bool) → cond t true o ≡ (o || (t || false))
last true true = refl
last true false = refl
last false true = refl
last false false = refl

-- one name more in the set, and the next of the list
pub one_more : (names : List (List ℕ)) (i : ℕ) (name text : List ℕ) (before now : Bool) → now ≡ cond (pointwise nat_eq name text) true before
    → before ≡ list_any (pointwise nat_eq text) (take i names) → i < length names → name ≡ get_or names i name
    → now ≡ list_any (pointwise nat_eq text) (take (i + 1) names)
one_more names i name text before now grown so_far within is =
    let front = take i names in
    let parts = ap (list_any (pointwise nat_eq text)) (take_more names i name within ∙ ap (λ (n : List ℕ). front ++ n ∷ []) (sym is)) ∙ list_any-append (pointwise nat_eq text) front (name ∷ []) in
    let turned = nat_list_eq_equiv.symm name text in
    grown ∙ last (pointwise nat_eq name text) before
    ∙ ap (λ (b : Bool). b || (pointwise nat_eq name text || false)) so_far
    ∙ ap (λ (b : Bool). list_any (pointwise nat_eq text) front || (b || false)) turned
    ∙ sym parts
