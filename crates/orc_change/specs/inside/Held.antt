-- Rows that a configuration has.
use Rattle.std.specs.Prelude.{◌≡◌, List, [], ◌∷◌}
use Rattle.std.specs.declared.option.Option.TheVariants.{Some}
use Rattle.std.specs.FinMap.{get}
use Rattle.orc_path.specs.Steps.{PathStep}
use Rattle.orc_path.specs.Configurations.{Config}
use Rattle.orc_path.specs.declared.item.Item.{Item}

-- a configuration has each of these items at its path
abbrev pub AreHeld : Config → List (List PathStep × Item) → Type 0
AreHeld config [] = Unit {0}
AreHeld config (row ∷ rows) = (get config row.0 ≡ Some row.1) × AreHeld config rows
