-- Names in the order in which they came.
use Rattle.std.specs.Prelude.{ℕ, Bool, List, [], ◌∷◌, ◌++◌, Option, if◌then◌else◌}
use Rattle.std.specs.List.{list_any, position}
use Rattle.orc_decls.specs.Devices.{is_same_text}

-- a name is among them
abbrev pub is_among : List (List ℕ) → List ℕ → Bool
is_among names name = list_any (is_same_text name) names

-- the number of a name, counted from 0
abbrev pub place_of : List (List ℕ) → List ℕ → Option ℕ
place_of names name = position (is_same_text name) names

-- the names, and this one after them where it is new
abbrev pub with_name : List (List ℕ) → List ℕ → List (List ℕ)
with_name names name = if is_among names name then names else names ++ name ∷ []
