-- The difference of two configurations.
use Rattle.std.specs.Prelude.{◌≡◌, Bool, true, false, nat_eq, List, [], ◌∷◌, ◌++◌, Option, if◌then◌else◌, is_none}
use Rattle.std.specs.declared.option.Option.TheVariants.{None, Some}
use Rattle.std.specs.Cmp.Lexicographic.{pointwise}
use Rattle.std.specs.FinMap.{get, entries}
use Rattle.orc_path.specs.Steps.{PathStep}
use Rattle.orc_path.specs.Configurations.{Config, IsConfig}
use Rattle.orc_path.specs.declared.item.Item.{Item}
use Rattle.orc_path.specs.declared.item.Item.TheVariants.{Entry, Leaf}
use Rattle.orc_tree.specs.Changes.{applied}
use Rattle.orc_tree.specs.declared.change.Change.{Change}
use Rattle.orc_tree.specs.declared.change.Change.TheVariants.{Put, Remove}

-- this item is there
abbrev pub has_item : Option Item → Item → Bool
has_item None item = false
has_item (Some Entry) Entry = true
has_item (Some Entry) (Leaf text) = false
has_item (Some (Leaf text)) Entry = false
has_item (Some (Leaf text)) (Leaf other) = pointwise nat_eq text other

-- a removal of each row's path at which a configuration has no item
abbrev pub removals : List (List PathStep × Item) → Config → List Change
removals [] to = []
removals (row ∷ rows) to = if is_none (get to row.0) then Remove row.0 ∷ removals rows to else removals rows to

-- a put of each row whose item a configuration hasn't at its path
abbrev pub new_puts : List (List PathStep × Item) → Config → List Change
new_puts [] from = []
new_puts (row ∷ rows) from =
    if has_item (get from row.0) row.1 then new_puts rows from else Put row.0 row.1 ∷ new_puts rows from

-- the paths at which two configurations differ, with the second one's item or nothing: removals first, and each part in
-- path order
abbrev pub difference : Config → Config → List Change
difference from to = removals (entries from) to ++ new_puts (entries to) from

-- The difference of two configurations, applied to the first, gives the second.
abbrev pub DifferenceLeads : Type 0
DifferenceLeads = (from to : Config) → IsConfig to → applied (difference from to) from ≡ to
