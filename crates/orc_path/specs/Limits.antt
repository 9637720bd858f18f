-- What is past a limit.
use Rattle.std.specs.Prelude.{ℕ, Bool, ◌==◌, ◌||◌, nat_lt, List, length}
use Rattle.std.specs.List.{list_any, before_first, after_first}
use Rattle.orc_path.specs.Steps.{PathStep}
use Rattle.orc_path.specs.Texts.{path_text}
use Rattle.orc_path.specs.declared.limits.TheConstants.{NAME_LEN, PATH_STEPS, STEP_KEYS, PATH_LEN, VALUE_LEN}

-- an identifier is past its limit
abbrev pub is_long_name : List ℕ → Bool
is_long_name name = nat_lt NAME_LEN (length name)

-- a key or a value is
abbrev pub is_long_value : List ℕ → Bool
is_long_value value = nat_lt VALUE_LEN (length value)

-- an identifier of a node's name is past its limit: the one before the colon or the one after it, or the only one
abbrev pub is_long_node : List ℕ → Bool
is_long_node node =
    is_long_name (before_first (λ byte. byte == 58) node) || is_long_name (after_first (λ byte. byte == 58) node)

-- the step has a key too many, or a key or an identifier is past its limit
abbrev pub is_long_step : PathStep → Bool
is_long_step step =
    nat_lt STEP_KEYS (length step.keys) || (list_any is_long_value step.keys || is_long_node step.node)

-- the path has a step too many, its text is past its limit, or a step is too long
abbrev pub is_long_path : List PathStep → Bool
is_long_path path =
    nat_lt PATH_STEPS (length path) || (nat_lt PATH_LEN (length (path_text path)) || list_any is_long_step path)
