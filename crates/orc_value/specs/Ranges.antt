-- Ranges in ascending order.
use Rattle.std.specs.Prelude.{Bool, true, ◌&&◌, not, List, [], ◌∷◌}
use Rattle.std.specs.List.{list_all}

-- no range, a least and a greatest value, is empty, and each ends below those after it
abbrev pub stand_apart : {X : Type 0} → (X → X → Bool) → List (X × X) → Bool
stand_apart le [] = true
stand_apart le (r ∷ rs) = le r.0 r.1 && (list_all (λ s. not (le s.0 r.1)) rs && stand_apart le rs)
