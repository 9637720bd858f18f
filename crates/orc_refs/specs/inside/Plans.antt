-- What moves come to at the paths that they touch.
use Rattle.std.specs.Prelude.{◌≡◌, ◌≢◌, ℕ, Bool, true, false, IsSome, ◌&&◌, List, [], ◌∷◌, ◌++◌, Option, IsTrue, if◌then◌else◌}
use Rattle.std.specs.declared.option.Option.TheVariants.{None, Some}
use Rattle.std.specs.List.{list_all}
use Rattle.std.specs.FinMap.{get, insert, remove, find}
use Rattle.std.specs.declared.cmp.Ordering.TheVariants.{Less}
use Rattle.orc_path.specs.Steps.{PathStep, is_path}
use Rattle.orc_path.specs.Order.{path_cmp}
use Rattle.orc_path.specs.Configurations.{Config, IsConfig}
use Rattle.orc_path.specs.declared.item.Item.{Item}
use Rattle.orc_tree.specs.Changes.{applied, change_fits}
use Rattle.orc_tree.specs.declared.change.Change.{Change}
use Rattle.orc_tree.specs.declared.change.Change.TheVariants.{Put, Remove}
use Rattle.orc_change.specs.Differences.{difference, has_item}
use Rattle.orc_refs.specs.declared.moves.Move.{Move}
use Rattle.orc_refs.specs.declared.moves.RefsFault.{RefsFault}
use Rattle.orc_refs.specs.declared.moves.RefsFault.TheVariants.{Clash, Memory}
use Rattle.orc_refs.specs.Stores.{Store, Backs, IsStore, ids_in, written_by}
use Rattle.orc_refs.specs.Moves.{writes_after}
use Rattle.orc_refs.specs.inside.Settling.{ids_after, item_after, all_bring}
use Rattle.orc_refs.specs.inside.Rivals.{rival_of}

-- each path that services write has an item in the tree
abbrev pub AreCovered : Backs → Config → Type 0
AreCovered backs tree = (path : List PathStep) → ids_in backs path ≢ [] → IsSome (get tree path)

-- the removal of a path, where something stands there and nothing is to
abbrev pub gone : Option Item → Option Item → List PathStep → List Change
gone here (Some item) p = []
gone None None p = []
gone (Some item) None p = Remove p ∷ []

-- the put of a path, where another item or nothing stands there
abbrev pub come : Option Item → Option Item → List PathStep → List Change
come here None p = []
come here (Some item) p = if has_item here item then [] else Put p item ∷ []

-- what is to stand at a path
abbrev pub due : Backs → Config → Config → List Move → List PathStep → Option Item
due backs tree base moves p = item_after moves p (ids_in backs p) (get tree p) (get base p)

-- the back pointers that are to stand at these paths
abbrev pub rows_due : Backs → List Move → List (List PathStep × Unit {0}) → List (List PathStep × List (List ℕ))
rows_due backs moves [] = []
rows_due backs moves (e ∷ es) = (e.0, ids_after moves e.0 (ids_in backs e.0)) ∷ rows_due backs moves es

-- the removals that are due at these paths
abbrev pub removals_due : Backs → Config → Config → List Move → List (List PathStep × Unit {0}) → List Change
removals_due backs tree base moves [] = []
removals_due backs tree base moves (e ∷ es) =
    gone (get tree e.0) (due backs tree base moves e.0) e.0 ++ removals_due backs tree base moves es

-- what is to be put there
abbrev pub puts_due : Backs → Config → Config → List Move → List (List PathStep × Unit {0}) → List Change
puts_due backs tree base moves [] = []
puts_due backs tree base moves (e ∷ es) =
    come (get tree e.0) (due backs tree base moves e.0) e.0 ++ puts_due backs tree base moves es

-- the changes that are due there
abbrev pub changes_due : Backs → Config → Config → List Move → List (List PathStep × Unit {0}) → List Change
changes_due backs tree base moves es = removals_due backs tree base moves es ++ puts_due backs tree base moves es

-- at each of these paths all that write it agree
abbrev pub all_agree : Backs → Config → Config → List Move → List (List PathStep × Unit {0}) → Bool
all_agree backs tree base moves [] = true
all_agree backs tree base moves (e ∷ es) =
    all_bring moves e.0 (due backs tree base moves e.0) && all_agree backs tree base moves es

-- a row put in the place of that of its path; one without ids takes the row away
abbrev pub with_row : List PathStep → List (List ℕ) → Backs → Backs
with_row p [] backs = remove backs p
with_row p (id ∷ ids) backs = insert backs p (id ∷ ids)

abbrev pub with_rows : List (List PathStep × List (List ℕ)) → Backs → Backs
with_rows [] backs = backs
with_rows (row ∷ rows) backs = with_rows rows (with_row row.0 row.1 backs)

-- at the path some that write it differ, and at no touched path before it
pub record IsFirstClash (backs : Backs) (tree base : Config) (moves : List Move) (es : List (List PathStep × Unit {0}))
    (p : List PathStep) : Type 0 where
  pub here : all_bring moves p (due backs tree base moves p) ≡ false
  pub before : (q : List PathStep) → IsSome (find path_cmp q es) → path_cmp q p ≡ Less
      → all_bring moves q (due backs tree base moves q) ≡ true

-- a clash names the first such path and the rival there; running out of memory has no cause
abbrev pub HasCause
    : Backs → Config → Config → List Move → List (List PathStep × Unit {0}) → RefsFault → Type 0
HasCause backs tree base moves es (Clash p other) =
    IsFirstClash backs tree base moves es p × (rival_of moves p (ids_in backs p) (get tree p) ≡ Some other)
HasCause backs tree base moves es Memory = Unit {0}

-- an item that is put is put at a path
abbrev pub PutsAtPath : Change → Type 0
PutsAtPath (Put path item) = IsTrue (is_path path)
PutsAtPath (Remove path) = Unit {0}

-- the store that a plan makes of a store: its base edited, the changes applied to its tree, and the rows put
abbrev pub planned_store : Store → Config → List Change → List (List PathStep × List (List ℕ)) → Store
planned_store store base changes rows =
    record { base = base; tree = applied changes store.tree; backs = with_rows rows store.backs }

-- What a plan is: services then write what the moves say, the store after it is one where its tree is a configuration,
-- and its changes are exactly where the two trees differ, and fit.
pub record IsPlanned (before : Store) (base : Config) (moves : List Move) (changes : List Change)
    (rows : List (List PathStep × List (List ℕ))) : Type 0 where
  pub written : (id : List ℕ) (p : List PathStep)
      → written_by (planned_store before base changes rows) id p ≡ writes_after moves (written_by before) id p
  pub store : IsConfig (applied changes before.tree) → IsStore (planned_store before base changes rows)
  pub exact : changes ≡ difference before.tree (applied changes before.tree)
  pub fit : IsTrue (list_all change_fits changes)

-- a plan of these changes with some rows; where back pointers are made, the rows that were made are those
pub record IsPlannedWith (pointers : Bool) (before : Store) (base : Config) (moves : List Move) (changes : List Change)
    (made : List (List PathStep × List (List ℕ))) : Type 0 where
  pub rows : List (List PathStep × List (List ℕ))
  pub planned : IsPlanned before base moves changes rows
  pub made_are : IsTrue pointers → made ≡ rows
