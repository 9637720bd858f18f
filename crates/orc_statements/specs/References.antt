-- The names in a leafref's path, and the modules of their prefixes: RFC 7950 sections 5.1 and 9.9.2.
use Rattle.std.specs.Prelude.{ℕ, Bool, false, ◌&&◌, ◌==◌, not, List, [], ◌∷◌, drop, length, map, Option, None, is_some, option_and_then, if◌then◌else◌}
use Rattle.std.specs.List.{position, position_or_len, before_first, after_first}
use Rattle.orc_yang.specs.declared.statement.Stmt.{Stmt}
use Rattle.orc_types.specs.Paths.{is_up}
use Rattle.orc_modules.specs.Scopes.{owner_of}
use Rattle.orc_statements.specs.declared.reference.Reference.{Reference}
use Rattle.orc_statements.specs.declared.reference.StepName.{StepName}
use Rattle.orc_statements.specs.declared.cuts.Mark.TheVariants.{Slash, Colon}
use Rattle.orc_statements.specs.Cuts.{is_mark, parts}

-- the name of the module that a prefix stands for in a module, where there is one
abbrev pub owner_in : List Stmt → Option Stmt → List ℕ → Option (List ℕ)
owner_in modules m prefix = option_and_then (owner_of modules prefix) m

abbrev pub is_prefixed : List ℕ → Bool
is_prefixed name = is_some (position (is_mark Colon) name)

-- no module has the prefix of this name
abbrev pub is_strange : List Stmt → Option Stmt → List ℕ → Bool
is_strange modules m name = is_prefixed name
    && not (is_some (owner_in modules m (before_first (is_mark Colon) name)))

-- how many `..` a path begins with: the place of the first part that is another one
abbrev pub count_ups : List (List ℕ) → ℕ
count_ups ps = position_or_len (λ part. not (is_up part)) ps

abbrev pub is_absolute : List (List ℕ) → Bool
is_absolute [] = false
is_absolute (part ∷ ps) = length part == 0

-- the names of a path, after what it begins with
abbrev pub reference_names : List (List ℕ) → List (List ℕ)
reference_names ps = if is_absolute ps then drop 1 ps else drop (count_ups ps) ps

-- a name, with the module of its prefix where it has one
abbrev pub step_of : List Stmt → Option Stmt → List ℕ → StepName
step_of modules m name = if is_prefixed name
    then record {
      owner = owner_in modules m (before_first (is_mark Colon) name);
      name = after_first (is_mark Colon) name;
    }
    else record { owner = None; name = name }

-- a leafref's path, whose text stands in the module m
abbrev pub reference_of : List Stmt → Option Stmt → List ℕ → Reference
reference_of modules m text = record {
  text = text;
  absolute = is_absolute (parts Slash text);
  ups = count_ups (parts Slash text);
  names = map (step_of modules m) (reference_names (parts Slash text));
}
