-- The shelves that a store's back pointers stand on, and the racks of these.
use Rattle.std.specs.Prelude.{◌≤◌, ℕ, suc, ◌<◌, Bool, false, not, List, [], ◌∷◌, map, length, take, drop, IsTrue}
use Rattle.std.specs.Arc.{arc_value}
use Rattle.std.specs.List.{flat_map, list_all, All}
use Rattle.std.specs.Ordering.{is_gt, is_lt, eq_by_cmp}
use Rattle.std.specs.FinMap.{put, is_sorted}
use Rattle.std.specs.FinMap.Entries.{below_all, where_key}
use Rattle.std.specs.declared.alloc.Global.{Global}
use Rattle.std.specs.declared.sync.Arc.{Arc}
use Rattle.orc_path.specs.Steps.{PathStep}
use Rattle.orc_path.specs.Order.{path_cmp}
use Rattle.orc_refs.specs.declared.shelf.Back.{Back}
use Rattle.orc_refs.specs.declared.shelf.Shelf.{Shelf}
use Rattle.orc_refs.specs.declared.rack.Rack.{Rack}
use Rattle.orc_refs.specs.declared.backs.RackList.{RackList}

-- a path with the ids of the services that write it
abbrev pub back_row : Arc Back Global → List PathStep × List (List ℕ)
back_row back = ((arc_value back).path, (arc_value back).ids)

-- the rows of these
abbrev pub back_rows : List (Arc Back Global) → List (List PathStep × List (List ℕ))
back_rows backs = map back_row backs

-- the rows of a shelf
abbrev pub shelf_rows : Arc Shelf Global → List (List PathStep × List (List ℕ))
shelf_rows shelf = back_rows (arc_value shelf).rows.items

-- the rows of shelves, one shelf after another
abbrev pub rows_on : List (Arc Shelf Global) → List (List PathStep × List (List ℕ))
rows_on shelves = flat_map shelf_rows shelves

-- the shelves of a rack
abbrev pub rack_shelves : Arc Rack Global → List (Arc Shelf Global)
rack_shelves rack = (arc_value rack).shelves.items

-- the rows of a rack
abbrev pub rack_rows : Arc Rack Global → List (List PathStep × List (List ℕ))
rack_rows rack = rows_on (rack_shelves rack)

-- the rows of racks, one rack after another
abbrev pub rows_in : List (Arc Rack Global) → List (List PathStep × List (List ℕ))
rows_in racks = flat_map rack_rows racks

-- the racks of a list of racks that stores share
abbrev pub list_racks : Arc RackList Global → List (Arc Rack Global)
list_racks list = (arc_value list).racks.items

-- a shelf has a row
abbrev pub HasRow : Arc Shelf Global → Type 0
HasRow shelf = 1 ≤ length (shelf_rows shelf)

-- each of the shelves has
abbrev pub AreSome : List (Arc Shelf Global) → Type 0
AreSome shelves = All HasRow shelves

-- there is a shelf, and none of the shelves is empty
pub record HaveRows (shelves : List (Arc Shelf Global)) : Type 0 where
  pub some : 1 ≤ length shelves
  pub full : AreSome shelves

-- a rack has a shelf, and none of its shelves is empty
abbrev pub IsFull : Arc Rack Global → Type 0
IsFull rack = HaveRows (rack_shelves rack)

-- each of the racks is so
abbrev pub AreFull : List (Arc Rack Global) → Type 0
AreFull racks = All IsFull racks

-- rows stand in path order, each path once
abbrev pub AreOrdered : List (List PathStep × List (List ℕ)) → Type 0
AreOrdered rows = IsTrue (is_sorted path_cmp rows)

-- the rows of the racks stand in path order, each path once, and no rack and no shelf is empty
pub record AreRacked (racks : List (Arc Rack Global)) : Type 0 where
  pub sorted : AreOrdered (rows_in racks)
  pub full : AreFull racks

-- each of the rows comes before the path
abbrev pub all_before : List PathStep → List (List PathStep × List (List ℕ)) → Bool
all_before path rows = list_all (λ row. is_gt (path_cmp path row.0)) rows

-- the first of the rows comes after the path
abbrev pub starts_behind : List PathStep → List (List PathStep × List (List ℕ)) → Bool
starts_behind path [] = false
starts_behind path (row ∷ rows) = is_lt (path_cmp path row.0)

-- Of parts, which have rows (shelves, racks): the rows of the parts before that one come before the path, and those of
-- the parts after it come after the path.
pub record IsPartFor {X : Type 0} (rows : X → List (List PathStep × List (List ℕ))) (path : List PathStep)
    (parts : List X) (at : ℕ) : Type 0 where
  pub within : at < length parts
  pub before : IsTrue (all_before path (flat_map rows (take at parts)))
  pub behind : IsTrue (below_all path_cmp path (flat_map rows (drop (suc at) parts)))

-- rows with one in the place of that of its path; one without ids takes the row away
abbrev pub set_row
    : List PathStep → List (List ℕ) → List (List PathStep × List (List ℕ)) → List (List PathStep × List (List ℕ))
set_row path [] rows = where_key path_cmp (λ other. not (eq_by_cmp path_cmp path other)) rows
set_row path (id ∷ ids) rows = put path_cmp path (id ∷ ids) rows
