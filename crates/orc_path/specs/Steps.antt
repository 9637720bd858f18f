-- A path is a list of steps.
use Rattle.std.specs.Prelude.{ℕ, Bool, true, false, ◌&&◌, List, [], ◌∷◌, length, nat_lt}
use Rattle.std.specs.List.{list_all}
use Rattle.orc_path.specs.Alphabet.{is_identifier, is_qualified, is_key}

-- a node's name, and keys or none
pub record PathStep : Type 0 where
  pub node : List ℕ
  pub keys : List (List ℕ)

-- a first step's name has its module
abbrev pub is_first_step : PathStep → Bool
is_first_step step = is_qualified step.node && list_all is_key step.keys

-- a later step's name has none
abbrev pub is_later_step : PathStep → Bool
is_later_step step = is_identifier step.node && list_all is_key step.keys

-- the first name has its module and the later ones have none; the root has no step
abbrev pub is_path : List PathStep → Bool
is_path [] = true
is_path (first ∷ later) = is_first_step first && list_all is_later_step later

-- what a name is after these steps: with its module where it is the first, and without where it is a later one
abbrev pub is_name_behind : List PathStep → List ℕ → Bool
is_name_behind [] name = is_qualified name
is_name_behind (first ∷ later) name = is_identifier name

abbrev pub has_keys : PathStep → Bool
has_keys step = nat_lt 0 (length step.keys)

-- the last step has keys
abbrev pub ends_in_keys : List PathStep → Bool
ends_in_keys [] = false
ends_in_keys (last ∷ []) = has_keys last
ends_in_keys (step ∷ next ∷ rest) = ends_in_keys (next ∷ rest)
