-- What moves of services and edits of the base make of a store.
use Rattle.std.specs.Prelude.{◌≡◌, ℕ, ◌+◌, Bool, true, false, List, [], ◌∷◌, map, Option, IsTrue, IsSome, length, if◌then◌else◌}
use Rattle.std.specs.declared.option.Option.TheVariants.{None, Some}
use Rattle.std.specs.List.{list_any}
use Rattle.std.specs.Ordering.{eq_by_cmp}
use Rattle.std.specs.FinMap.{entries, is_sorted}
use Rattle.orc_path.specs.Steps.{PathStep}
use Rattle.orc_path.specs.Order.{path_cmp}
use Rattle.orc_path.specs.Items.{fits}
use Rattle.orc_path.specs.Configurations.{Config, IsWay, put_item, drop_item}
use Rattle.orc_path.specs.declared.item.Item.{Item}
use Rattle.orc_path.specs.declared.item.Item.TheVariants.{Entry}
use Rattle.orc_call.specs.declared.call.Put.{Put}
use Rattle.orc_tree.specs.declared.change.Change.{Change}
use Rattle.orc_tree.specs.Changes.{applied}
use Rattle.orc_change.specs.Differences.{difference}
use Rattle.orc_refs.specs.declared.moves.Move.{Move}
use Rattle.orc_refs.specs.declared.moves.BaseEdit.{BaseEdit}
use Rattle.orc_refs.specs.declared.moves.BaseEdit.TheVariants as edit
use Rattle.orc_refs.specs.Ids.{is_id}
use Rattle.orc_refs.specs.Stores.{Store, IsStore, written_by}

-- the item that a list of items puts at a path
abbrev pub put_at : List Put → List PathStep → Option Item
put_at [] path = None
put_at (put ∷ puts) path = if eq_by_cmp path_cmp path put.path then Some put.item else put_at puts path

-- items as rows, each a path with its item
abbrev pub rows_in : List Put → List (List PathStep × Item)
rows_in puts = map (λ put. (put.path, put.item)) puts

-- the items that a configuration has, in path order
abbrev pub items_of : Config → List Put
items_of config = map (λ row. record { path = row.0; item = row.1 }) (entries config)

-- the items of a configuration: in path order, each path once; each fits its path, and the entries on its way are among
-- them
pub record AreWhole (puts : List Put) : Type 0 where
  pub sorted : IsTrue (is_sorted path_cmp (rows_in puts))
  pub fit : (path : List PathStep) (item : Item) → put_at puts path ≡ Some item → IsTrue (fits path item)
  pub ways : (path way : List PathStep) → IsSome (put_at puts path) → IsWay way path → put_at puts way ≡ Some Entry

-- some move names the service
abbrev pub is_moved : List Move → List ℕ → Bool
is_moved moves id = list_any (λ move. is_id move.service id) moves

-- no two moves name one service
abbrev pub are_distinct : List Move → Bool
are_distinct [] = true
are_distinct (move ∷ moves) = if is_moved moves move.service then false else are_distinct moves

-- each move starts at what its service writes
abbrev pub StartAt : Store → List Move → Type 0
StartAt store [] = Unit {0}
StartAt store (move ∷ moves) =
    ((path : List PathStep) → put_at move.old path ≡ written_by store move.service path) × StartAt store moves

-- each move brings the items of a configuration
abbrev pub BringWhole : List Move → Type 0
BringWhole [] = Unit {0}
BringWhole (move ∷ moves) = AreWhole move.new × BringWhole moves

-- how many items the moves take and bring
abbrev pub count_moved : List Move → ℕ
count_moved [] = 0
count_moved (move ∷ moves) = length move.old + length move.new + count_moved moves

-- what the service of an id writes at a path once the moves are done
abbrev pub writes_after : List Move → (List ℕ → List PathStep → Option Item) → List ℕ → List PathStep → Option Item
writes_after [] writes id path = writes id path
writes_after (move ∷ moves) writes id path =
    if is_id move.service id then put_at move.new path else writes_after moves writes id path

-- the base with the edits done in order
abbrev pub edited : List BaseEdit → Config → Config
edited [] base = base
edited (edit.Put put ∷ edits) base = edited edits (put_item base put.path put.item)
edited (edit.Remove path ∷ edits) base = edited edits (drop_item base path)

-- an item that is put into the base fits its path
abbrev pub edit_fits : BaseEdit → Bool
edit_fits (edit.Put put) = fits put.path put.item
edit_fits (edit.Remove path) = true

-- the moves and the edits lead from one store to another: its base is edited, and services write what the moves say
pub record IsMoved (before : Store) (moves : List Move) (edits : List BaseEdit) (after : Store) : Type 0 where
  pub base : after.base ≡ edited edits before.base
  pub written : (id : List ℕ) (path : List PathStep)
      → written_by after id path ≡ writes_after moves (written_by before) id path
  pub store : IsStore after

-- these changes lead from the store's tree to that of the store to which the moves and the edits lead, and are exactly
-- where the two trees differ
pub record LeadsTo (before : Store) (moves : List Move) (edits : List BaseEdit) (changes : List Change) : Type 0 where
  pub after : Store
  pub moved : IsMoved before moves edits after
  pub leads : applied changes before.tree ≡ after.tree
  pub exact : changes ≡ difference before.tree after.tree

-- The store to which moves and edits lead is one, so `preview` gives what `apply` would give.
abbrev pub OneStore : Type 0
OneStore =
    (before : Store) (moves : List Move) (edits : List BaseEdit) (one other : Store) → IsMoved before moves edits one
    → IsMoved before moves edits other → one ≡ other
