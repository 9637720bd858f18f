-- The form of a leafref's path, without predicates: RFC 7950 section 14, path-arg.
use Rattle.std.specs.Prelude.{ℕ, Bool, false, ◌&&◌, List, [], ◌∷◌, codes, is_some, if◌then◌else◌}
use Rattle.std.specs.List.{list_all, slice_split, position, before_first, after_first}
use Rattle.orc_path.specs.Alphabet.{is_identifier}
use Rattle.orc_value.specs.Canon.{same_text}
use Rattle.orc_types.specs.Texts.{is_char}

abbrev pub is_step_mark : ℕ → Bool
is_step_mark = is_char 47

abbrev pub is_colon : ℕ → Bool
is_colon = is_char 58

-- node-identifier: an identifier, alone or after a prefix and a colon
abbrev pub is_reference : List ℕ → Bool
is_reference text = if is_some (position is_colon text)
    then is_identifier (before_first is_colon text) && is_identifier (after_first is_colon text)
    else is_identifier text

-- one name at least
abbrev pub are_names : List (List ℕ) → Bool
are_names [] = false
are_names (part ∷ parts) = is_reference part && list_all is_reference parts

abbrev pub is_up : List ℕ → Bool
is_up part = same_text part (codes "..")

-- `..` any number of times, and then names
abbrev pub leads_down : List (List ℕ) → Bool
leads_down [] = false
leads_down (part ∷ parts) = if is_up part then leads_down parts else are_names (part ∷ parts)

-- what stands between the slashes of a path: nothing and names in an absolute one, `..` at least once and names in a
-- relative one
abbrev pub is_path_form : List (List ℕ) → Bool
is_path_form [] = false
is_path_form (part ∷ parts) = if same_text part [] then are_names parts else is_up part && leads_down parts

abbrev pub is_leafref_path : List ℕ → Bool
is_leafref_path text = is_path_form (slice_split is_step_mark text)
