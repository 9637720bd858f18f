-- A loop that changes each element of a list in place.
use Rattle.std.proofs.Common.{ℕ, suc, zero, ◌+◌, ◌≡◌, ◌<◌, List, [], ◌∷◌, ◌++◌, map, take, drop, set, length, get_or, refl, ◌∙◌, ap, arith}
use Rattle.std.proofs.lemmas.List.Edits.{map_over_more}

any_default : {X : Type 0} (xs : List X) (i : ℕ) (d e : X) → i < length xs → get_or xs i d ≡ get_or xs i e
any_default [] i d e h = absurd (omega arith)
any_default (x ∷ xs) zero d e h = refl
any_default (x ∷ xs) (suc i) d e h = any_default xs i d e (omega arith)

pub changed_more : {X : Type 0} (f : X → X) (xs ys : List X) (i : ℕ) (d r : X) → i < length xs → length ys ≡ length xs
    → ys ≡ map f (take i xs) ++ drop i xs → r ≡ f (get_or ys i d)
    → set ys i r ≡ map f (take (i + 1) xs) ++ drop (i + 1) xs
changed_more f xs ys i d r h l e is =
    ap (set ys i) is ∙ map_over_more f xs ys i (get_or ys i d) h e (any_default ys i d (get_or ys i d) (omega (arith, l)))
