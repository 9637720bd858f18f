-- Ids of services: each once, in byte order.
use Rattle.std.specs.Prelude.{ℕ, Bool, true, ◌&&◌, nat_eq, List, [], ◌∷◌}
use Rattle.std.specs.List.{list_any}
use Rattle.std.specs.Ordering.{is_lt}
use Rattle.std.specs.Cmp.Lexicographic.{pointwise}
use Rattle.orc_path.specs.Order.{text_cmp}

-- the two ids are one
abbrev pub is_id : List ℕ → List ℕ → Bool
is_id = pointwise nat_eq

-- the id is among these
abbrev pub holds_id : List ℕ → List (List ℕ) → Bool
holds_id id ids = list_any (λ other. is_id other id) ids

-- the id comes before all of these
abbrev pub comes_before : List ℕ → List (List ℕ) → Bool
comes_before id [] = true
comes_before id (other ∷ ids) = is_lt (text_cmp id other) && comes_before id ids

-- each once, in byte order
abbrev pub are_rising : List (List ℕ) → Bool
are_rising [] = true
are_rising (id ∷ ids) = comes_before id ids && are_rising ids
