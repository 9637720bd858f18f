-- A configuration is a finite map from paths to items in which every entry on the way to a path is present.
use Rattle.std.specs.Prelude.{◌≡◌, ℕ, zero, suc, ◌-◌, ◌<◌, length, take, slice_get, Bool, true, false, cond, not, ◌&&◌, List, [], ◌∷◌, ◌++◌, IsTrue, IsSome, Option, if◌then◌else◌}
use Rattle.std.specs.declared.option.Option.TheVariants.{None, Some}
use Rattle.std.specs.Option.{option_map_or}
use Rattle.std.specs.Ordering.{eq_by_cmp}
use Rattle.std.specs.FinMap.{FinMap, get, insert, remove, retain_keys, entries}
use Rattle.orc_path.specs.Steps.{PathStep, has_keys, ends_in_keys, is_path}
use Rattle.orc_path.specs.Items.{fits}
use Rattle.orc_path.specs.Order.{path_cmp, is_prefix}
use Rattle.orc_path.specs.declared.item.Item.{Item}
use Rattle.orc_path.specs.declared.item.Item.TheVariants.{Entry, Leaf}

-- a finite map from paths to items
abbrev pub Config : Type 0
Config = FinMap path_cmp Item

-- the way is an entry on the way to the path: the path goes on after it, and it ends in keys
pub record IsWay (way path : List PathStep) : Type 0 where
  pub shorter : length way < length path
  pub begins : way ≡ take (length way) path
  pub keyed : IsTrue (ends_in_keys way)

-- an entry stands there
abbrev pub is_entry : Option Item → Bool
is_entry None = false
is_entry (Some Entry) = true
is_entry (Some (Leaf text)) = false

-- each path is one that its item fits, and every entry on the way to it is present
pub record IsConfig (config : Config) : Type 0 where
  pub paths : (path : List PathStep) → IsSome (get config path) → IsTrue (is_path path)
  pub fit : (path : List PathStep) (item : Item) → get config path ≡ Some item → IsTrue (fits path item)
  pub ways : (path way : List PathStep) → IsSome (get config path) → IsWay way path → IsTrue (is_entry (get config way))

-- the step at a place has keys
abbrev pub has_keys_at : List PathStep → ℕ → Bool
has_keys_at path at = option_map_or has_keys (slice_get path at) false

-- the entries among the first beginnings of a path
abbrev pub ways_up_to : ℕ → List PathStep → List (List PathStep)
ways_up_to zero path = []
ways_up_to (suc len) path = ways_up_to len path ++ cond (has_keys_at path len) (take (suc len) path ∷ []) []

-- the entries on the way to a path, shorter ones first
abbrev pub ways : List PathStep → List (List PathStep)
ways path = ways_up_to (length path - 1) path

-- with an entry at each of these paths
abbrev pub enter_all : List (List PathStep) → Config → Config
enter_all [] config = config
enter_all (way ∷ rest) config = enter_all rest (insert config way Entry)

-- setting an item adds the entries on its way
abbrev pub put_item : Config → List PathStep → Item → Config
put_item config path item = insert (enter_all (ways path) config) path item

-- removing a path takes what stands at the other: all at and below it where it ends in keys, and else that one leaf
abbrev pub is_removed_with : List PathStep → List PathStep → Bool
is_removed_with path other = if ends_in_keys path then is_prefix path other else eq_by_cmp path_cmp path other

-- removing a path that ends in keys removes it and all below it, and removing another one that leaf alone
abbrev pub drop_item : Config → List PathStep → Config
drop_item config path =
    if ends_in_keys path then retain_keys config (λ other. not (is_prefix path other)) else remove config path

-- with each of these items at its path
abbrev pub insert_all : List (List PathStep × Item) → Config → Config
insert_all [] config = config
insert_all (row ∷ rest) config = insert_all rest (insert config row.0 row.1)

-- the base overlaid with the items of another configuration
abbrev pub overlay : Config → Config → Config
overlay top base = insert_all (entries top) base

-- the path of the list that an entry is in: the entry's path without the keys of its last step
abbrev pub list_of : List PathStep → List PathStep
list_of [] = []
list_of (last ∷ []) = record { node = last.node; keys = [] } ∷ []
list_of (step ∷ next ∷ rest) = step ∷ list_of (next ∷ rest)

-- the path is that of an entry of the list
abbrev pub is_entry_of : List PathStep → List PathStep → Bool
is_entry_of list path = ends_in_keys path && eq_by_cmp path_cmp (list_of path) list
