-- What removing a path takes of rows, and what it leaves.
use Rattle.std.specs.Prelude.{Bool, false, not, List, [], ◌∷◌}
use Rattle.std.specs.List.{list_all}
use Rattle.std.specs.FinMap.Entries.{where_key}
use Rattle.orc_path.specs.Steps.{PathStep}
use Rattle.orc_path.specs.Order.{path_cmp}
use Rattle.orc_path.specs.Configurations.{is_removed_with}
use Rattle.orc_path.specs.declared.item.Item.{Item}

-- what removing a path leaves of rows
abbrev pub kept_of : List PathStep → List (List PathStep × Item) → List (List PathStep × Item)
kept_of path rows = where_key path_cmp (λ other. not (is_removed_with path other)) rows

-- removing a path takes none of the rows
abbrev pub all_kept : List PathStep → List (List PathStep × Item) → Bool
all_kept path rows = list_all (λ row. not (is_removed_with path row.0)) rows

-- removing a path takes the first of the rows
abbrev pub starts_taken : List PathStep → List (List PathStep × Item) → Bool
starts_taken path [] = false
starts_taken path (row ∷ rows) = is_removed_with path row.0
