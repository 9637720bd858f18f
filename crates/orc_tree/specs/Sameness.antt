-- A test of equality of configurations.
use Rattle.std.specs.Prelude.{◌≡◌, ◌↔◌, Bool, true, false, ◌&&◌, nat_eq, List, IsTrue}
use Rattle.std.specs.Cmp.Lexicographic.{pointwise}
use Rattle.std.specs.FinMap.{entries}
use Rattle.orc_path.specs.Steps.{PathStep}
use Rattle.orc_path.specs.Order.{step_eq}
use Rattle.orc_path.specs.Configurations.{Config}
use Rattle.orc_path.specs.declared.item.Item.{Item}
use Rattle.orc_path.specs.declared.item.Item.TheVariants.{Entry, Leaf}

-- both are an entry, or leaves with the same value
abbrev pub equal_items : Item → Item → Bool
equal_items Entry Entry = true
equal_items Entry (Leaf text) = false
equal_items (Leaf text) Entry = false
equal_items (Leaf text) (Leaf other) = pointwise nat_eq text other

-- both rows have one path and one item
abbrev pub equal_rows : List PathStep × Item → List PathStep × Item → Bool
equal_rows row other = pointwise step_eq row.0 other.0 && equal_items row.1 other.1

-- both configurations have the same items at the same paths
abbrev pub equal_configs : Config → Config → Bool
equal_configs config other = pointwise equal_rows (entries config) (entries other)

-- The test decides equality.
abbrev pub EqualConfigsAreOne : Type 0
EqualConfigsAreOne = (config other : Config) → IsTrue (equal_configs config other) ↔ (config ≡ other)
