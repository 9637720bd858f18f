-- The entries of one list, and what is below them.
use Rattle.std.specs.Prelude.{ℕ, Bool, false, not, ◌&&◌, nat_eq, List, [], ◌∷◌, map}
use Rattle.std.specs.List.{filter}
use Rattle.std.specs.Ordering.{is_lt}
use Rattle.std.specs.Cmp.Lexicographic.{pointwise}
use Rattle.orc_path.specs.Steps.{PathStep}
use Rattle.orc_path.specs.Order.{path_cmp, step_eq}
use Rattle.orc_path.specs.Configurations.{is_entry_of}
use Rattle.orc_path.specs.declared.item.Item.{Item}

-- a path goes on from these steps by a step of the name
abbrev pub is_under : List PathStep → List ℕ → List PathStep → Bool
is_under front name [] = false
is_under [] name (step ∷ rest) = pointwise nat_eq step.node name
is_under (first ∷ front) name (step ∷ rest) = step_eq first step && is_under front name rest

-- a path comes after a list's and doesn't go on from it
abbrev pub is_past : List PathStep → List ℕ → List PathStep → List PathStep → Bool
is_past front name list path = is_lt (path_cmp list path) && not (is_under front name path)

-- the entries of a list among rows
abbrev pub entries_of : List PathStep → List (List PathStep × Item) → List (List PathStep)
entries_of list rows = filter (is_entry_of list) (map (λ row. row.0) rows)
