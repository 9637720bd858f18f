-- Rows that begin with the same steps stand together.
use Rattle.std.specs.Prelude.{Bool, false, not, ◌&&◌, List, [], ◌∷◌}
use Rattle.std.specs.Ordering.{is_lt}
use Rattle.orc_path.specs.Steps.{PathStep}
use Rattle.orc_path.specs.Order.{path_cmp, is_prefix}
use Rattle.orc_path.specs.declared.item.Item.{Item}

-- the first of the rows stands after all that begin with these steps
abbrev pub begins_past : List PathStep → List (List PathStep × Item) → Bool
begins_past steps [] = false
begins_past steps (row ∷ rows) = is_lt (path_cmp steps row.0) && not (is_prefix steps row.0)
