-- The paths inside targets at which two configurations differ.
use Rattle.std.specs.Prelude.{List, [], ◌∷◌, ◌++◌, is_some, if◌then◌else◌}
use Rattle.std.specs.FinMap.{get}
use Rattle.std.specs.List.{flat_map}
use Rattle.orc_path.specs.Steps.{PathStep}
use Rattle.orc_path.specs.Configurations.{Config}
use Rattle.orc_path.specs.declared.item.Item.{Item}
use Rattle.orc_expr.specs.declared.read.Target.{Target}
use Rattle.orc_revalidate.specs.inside.Inside.{rows_inside}
use Rattle.orc_revalidate.specs.inside.Looked.{has_row}

-- the path of a row that a configuration hasn't
abbrev pub lacking : Config → (List PathStep × Item) → List (List PathStep)
lacking c row = if has_row c row then [] else row.0 ∷ []

-- the path of a row at which nothing stands in a configuration
abbrev pub gone : Config → (List PathStep × Item) → List (List PathStep)
gone c row = if is_some (get c row.0) then [] else row.0 ∷ []

-- those inside a target: where a row came, or one took another's place, and where one went
abbrev pub changed_in : Config → Config → Target → List (List PathStep)
changed_in old new target =
    flat_map (lacking old) (rows_inside new target) ++ flat_map (gone new) (rows_inside old target)

abbrev pub changed_paths : Config → Config → List Target → List (List PathStep)
changed_paths old new targets = flat_map (changed_in old new) targets
