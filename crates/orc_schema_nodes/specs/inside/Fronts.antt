-- Names that begin alike.
use Rattle.std.specs.Prelude.{◌≡◌, ℕ, zero, suc, ⊤, List, [], ◌∷◌}

-- both have so many names, and their first ones are the same
abbrev pub Shares : ℕ → List (List ℕ) → List (List ℕ) → Type 0
Shares zero names others = ⊤
Shares (suc count) [] others = ⊥
Shares (suc count) (name ∷ names) [] = ⊥
Shares (suc count) (name ∷ names) (other ∷ others) = (name ≡ other) × Shares count names others
