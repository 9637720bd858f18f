-- The entries of one list among rows in path order.
use Rattle.std.specs.Prelude.{ℕ, Bool, false, not, ◌&&◌, ◌-◌, nat_eq, nat_lt, List, [], ◌∷◌, Option, Some, None, if◌then◌else◌}
use Rattle.std.specs.Ordering.{is_lt}
use Rattle.std.specs.Cmp.Lexicographic.{pointwise}
use Rattle.orc_path.specs.Steps.{PathStep, has_keys}
use Rattle.orc_path.specs.Order.{path_cmp, step_eq}
use Rattle.orc_path.specs.declared.item.Item.{Item}

-- the path is one step, with the name and keys
abbrev pub is_keyed : List PathStep → List ℕ → Bool
is_keyed [] name = false
is_keyed (step ∷ []) name = has_keys step && pointwise nat_eq step.node name
is_keyed (step ∷ next ∷ rest) name = false

-- the path begins with a step of the name
abbrev pub is_named : List PathStep → List ℕ → Bool
is_named [] name = false
is_named (step ∷ rest) name = pointwise nat_eq step.node name

-- the list's own step has no keys, and the path is one step of its name with keys
abbrev pub is_alone : PathStep → List PathStep → Bool
is_alone list path = pointwise (pointwise nat_eq) [] list.keys && is_keyed path list.node

-- a path enters a list: it has the steps of the list's path, and keys in the last
abbrev pub enters : List PathStep → List PathStep → Bool
enters [] path = false
enters (list ∷ []) path = is_alone list path
enters (list ∷ next ∷ later) [] = false
enters (list ∷ next ∷ later) (step ∷ rest) = step_eq list step && enters (next ∷ later) rest

-- a path goes on from the steps above a list by a step of the list's last name
abbrev pub goes_on : List PathStep → List PathStep → Bool
goes_on [] path = false
goes_on (list ∷ []) path = is_named path list.node
goes_on (list ∷ next ∷ later) [] = false
goes_on (list ∷ next ∷ later) (step ∷ rest) = step_eq list step && goes_on (next ∷ later) rest

-- the first of the rows stands after the list and all that is below it
abbrev pub is_past : List PathStep → List (List PathStep × Item) → Bool
is_past list [] = false
is_past list (row ∷ rows) = is_lt (path_cmp list row.0) && not (goes_on list row.0)

-- a number less a count, where the count isn't more
abbrev pub count_down : ℕ → ℕ → Option ℕ
count_down number count = if nat_lt number count then None else Some (number - count)
