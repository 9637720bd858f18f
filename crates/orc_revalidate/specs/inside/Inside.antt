-- The rows of a configuration inside targets.
use Rattle.std.specs.Prelude.{ℕ, zero, suc, List, [], ◌∷◌, ◌++◌, length, take}
use Rattle.std.specs.List.{filter}
use Rattle.std.specs.Option.{option_map_or}
use Rattle.std.specs.FinMap.{get, entries}
use Rattle.orc_path.specs.Steps.{PathStep}
use Rattle.orc_path.specs.Order.{is_prefix}
use Rattle.orc_path.specs.Configurations.{Config}
use Rattle.orc_path.specs.declared.item.Item.{Item}
use Rattle.orc_expr.specs.declared.read.Target.{Target}
use Rattle.orc_expr.specs.declared.read.Target.TheVariants.{One, Under}

-- the row of a path, where there is one
abbrev pub row_of : Config → List PathStep → List (List PathStep × Item)
row_of c path = option_map_or (λ item. (path, item) ∷ []) (get c path) []

-- the rows of the path's first n steps, and of fewer
abbrev pub front_rows : Config → List PathStep → ℕ → List (List PathStep × Item)
front_rows c path zero = row_of c []
front_rows c path (suc n) = row_of c (take (suc n) path) ++ front_rows c path n

-- the rows at and below a path
abbrev pub rows_under : Config → List PathStep → List (List PathStep × Item)
rows_under c path = filter (λ row. is_prefix path row.0) (entries c)

-- the rows inside a target
abbrev pub rows_inside : Config → Target → List (List PathStep × Item)
rows_inside c (One path) = front_rows c path (length path)
rows_inside c (Under path) = rows_under c path
