-- What isn't settled is settled, one after another.
use Rattle.std.proofs.Common.{◌≡◌, ℕ, ◌==◌, Bool, true, false, List, [], ◌∷◌, length, drop, get_or, refl, sym, ap, ◌∙◌, arith, eqb-true}
use Rattle.std.proofs.lemmas.Bool.{false≢true}

-- a list with an element begins with it
pub begins : {X : Type 0} (xs : List X) (x : X) (b : Bool) → b ≡ (length xs == 0) → b ≡ false → x ≡ get_or xs 0 x → xs ≡ x ∷ drop 1 xs
begins [] x b is none first = absurd (false≢true (sym none ∙ is))
begins (y ∷ xs) x b is none first = ap (λ z. z ∷ xs) (sym first)

-- a list without an element is empty
pub ends : {X : Type 0} (xs : List X) (b : Bool) → b ≡ (length xs == 0) → b ≡ true → xs ≡ []
ends [] b is all = refl
ends (x ∷ xs) b is all = absurd (let no = eqb-true (length (x ∷ xs)) 0 (sym is ∙ all) in omega (arith, no))
