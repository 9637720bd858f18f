-- Changes of a configuration: removals, and items that are put.
use Rattle.std.specs.Prelude.{Bool, true, List, [], ◌∷◌}
use Rattle.orc_path.specs.Items.{fits}
use Rattle.orc_path.specs.Configurations.{Config, put_item, drop_item}
use Rattle.orc_tree.specs.declared.change.Change.{Change}
use Rattle.orc_tree.specs.declared.change.Change.TheVariants.{Put, Remove}

-- without what the removals among the changes remove
abbrev pub drop_each : List Change → Config → Config
drop_each [] config = config
drop_each (Remove path ∷ rest) config = drop_each rest (drop_item config path)
drop_each (Put path item ∷ rest) config = drop_each rest config

-- with the items that the changes put, and the entries on their way
abbrev pub put_each : List Change → Config → Config
put_each [] config = config
put_each (Put path item ∷ rest) config = put_each rest (put_item config path item)
put_each (Remove path ∷ rest) config = put_each rest config

-- the changes applied: the removals first, and then what is put
abbrev pub applied : List Change → Config → Config
applied changes config = put_each changes (drop_each changes config)

-- an item that is put fits its path
abbrev pub change_fits : Change → Bool
change_fits (Put path item) = fits path item
change_fits (Remove path) = true
