-- Rows in path order that stand in runs.
use Rattle.std.specs.Prelude.{List}
use Rattle.std.specs.List.{flat_map}
use Rattle.orc_path.specs.Steps.{PathStep}
use Rattle.orc_path.specs.declared.item.Item.{Item}

-- the rows of runs, one run after another
abbrev pub all_rows : List (List (List PathStep × Item)) → List (List PathStep × Item)
all_rows runs = flat_map (λ rows. rows) runs
