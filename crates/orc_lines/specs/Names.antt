-- Names that stand twice.
use Rattle.std.specs.Prelude.{ℕ, Bool, false, ◌||◌, List, [], ◌∷◌}
pub use Rattle.orc_decls.specs.Names.{is_among, place_of, with_name}

-- one of the names is among those before it, which begin with these
abbrev pub repeats_behind : List (List ℕ) → List (List ℕ) → Bool
repeats_behind before [] = false
repeats_behind before (name ∷ names) = is_among before name || repeats_behind (with_name before name) names

-- a name stands twice
abbrev pub repeats : List (List ℕ) → Bool
repeats names = repeats_behind [] names
