-- The paths that moves and edits of the base touch, each with what moves bring there.
use Rattle.std.specs.Prelude.{◌≡◌, ℕ, Bool, true, false, List, [], ◌∷◌, ◌++◌, ◌||◌, map, is_some, IsSome, IsTrue, Vec, Option, if◌then◌else◌}
use Rattle.std.specs.declared.option.Option.TheVariants.{None, Some}
use Rattle.std.specs.declared.alloc.Global.{Global}
use Rattle.std.specs.Borrow.{Bor}
use Rattle.std.specs.List.{filter, flat_map, list_any}
use Rattle.std.specs.Option.{option_map_or}
use Rattle.std.specs.List.Sorted.{IsSortedByKey}
use Rattle.std.specs.Ordering.{eq_by_cmp, is_lt}
use Rattle.std.specs.FinMap.{find, is_sorted}
use Rattle.orc_path.specs.Steps.{PathStep}
use Rattle.orc_path.specs.Order.{path_cmp}
use Rattle.orc_path.specs.declared.item.Item.{Item}
use Rattle.orc_call.specs.declared.call.Put.{Put}
use Rattle.orc_tree.specs.declared.change.Change.{Change}
use Rattle.orc_change.specs.Differences.{has_item}
use Rattle.orc_refs.specs.declared.moves.Move.{Move}
use Rattle.orc_refs.specs.declared.mark.Brought.{Brought}
use Rattle.orc_refs.specs.declared.mark.Mark.{Mark}
use Rattle.orc_refs.specs.Moves.{put_at}
use Rattle.orc_refs.specs.inside.Settling.{changed_path, enter_id}

-- What is brought to a path: items, each with the id of the service that is to write it

-- what is shown of it
abbrev pub shown : List Brought → List (List ℕ × Item)
shown bs = map (λ b. (b.service.now, b.item.now)) bs

-- the item of a service, if there is one
abbrev pub one_brought : List ℕ → Option Item → List (List ℕ × Item)
one_brought id None = []
one_brought id (Some item) = (id, item) ∷ []

-- what moves bring to a path, in the order of the moves
abbrev pub brings_at : List Move → List PathStep → List (List ℕ × Item)
brings_at [] p = []
brings_at (m ∷ ms) p = one_brought m.service (put_at m.new p) ++ brings_at ms p

-- the first item that is brought
abbrev pub first_of : List (List ℕ × Item) → Option Item
first_of [] = None
first_of (b ∷ bs) = Some b.1

-- each item that is brought is this one
abbrev pub all_are : List (List ℕ × Item) → Option Item → Bool
all_are [] o = true
all_are (b ∷ bs) o = if has_item o b.1 then all_are bs o else false

-- ids with those of the services to which items are brought
abbrev pub entered : List (List ℕ × Item) → List (List ℕ) → List (List ℕ)
entered [] ids = ids
entered (b ∷ bs) ids = entered bs (enter_id b.0 ids)

-- Marks: a path each, with what is brought there

-- what a mark says is brought
abbrev pub given : Option Brought → List (List ℕ × Item)
given None = []
given (Some b) = (b.service.now, b.item.now) ∷ []

abbrev pub read_one : Mark → List PathStep × List (List ℕ × Item)
read_one mark = (mark.path.now, given mark.brought)

abbrev pub read : List Mark → List (List PathStep × List (List ℕ × Item))
read marks = map read_one marks

-- the marks of items that are taken
abbrev pub taken_marks : List Put → List (List PathStep × List (List ℕ × Item))
taken_marks puts = map (λ put. (put.path, [])) puts

-- the marks of items that a service brings
abbrev pub brought_marks : List ℕ → List Put → List (List PathStep × List (List ℕ × Item))
brought_marks id puts = map (λ put. (put.path, (id, put.item) ∷ [])) puts

-- the marks of a move
abbrev pub move_marks : Move → List (List PathStep × List (List ℕ × Item))
move_marks move = taken_marks move.old ++ brought_marks move.service move.new

-- the marks of changes
abbrev pub change_marks : List Change → List (List PathStep × List (List ℕ × Item))
change_marks changes = map (λ change. (changed_path change, [])) changes

-- those of changes and of moves
abbrev pub all_marks : List Change → List Move → List (List PathStep × List (List ℕ × Item))
all_marks changes moves = change_marks changes ++ flat_map move_marks moves

-- the mark is at the path
abbrev pub is_at : List PathStep → List PathStep × List (List ℕ × Item) → Bool
is_at p mark = eq_by_cmp path_cmp p mark.0

-- some mark is at the path
abbrev pub marked : List (List PathStep × List (List ℕ × Item)) → List PathStep → Bool
marked marks p = list_any (is_at p) marks

-- what the marks at a path say is brought there
abbrev pub brought_by : List (List PathStep × List (List ℕ × Item)) → List PathStep → List (List ℕ × Item)
brought_by marks p = flat_map (λ mark. mark.1) (filter (is_at p) marks)

-- at each path both lists have the same marks in the same order
abbrev pub KeepsOrder
    : List (List PathStep × List (List ℕ × Item)) → List (List PathStep × List (List ℕ × Item)) → Type 0
KeepsOrder marks others = (p : List PathStep) → filter (is_at p) others ≡ filter (is_at p) marks

-- no mark is at a path after that of a later one
abbrev pub InPathOrder : List Mark → Type 0
InPathOrder marks = IsSortedByKey (λ (mark : Mark). mark.path.now) path_cmp marks

-- Rows: each path once, with what is brought there

abbrev pub TouchedRows : Type 0
TouchedRows = List (List PathStep × Vec Brought Global)

-- rows whose paths are lent
abbrev pub LentRows : Type 0
LentRows = List (Bor (List PathStep) × Vec Brought Global)

abbrev pub by_path : LentRows → TouchedRows
by_path rows = map (λ row. (row.0.now, row.1)) rows

-- the paths of rows
abbrev pub paths_in : LentRows → List (List PathStep × Unit {0})
paths_in rows = map (λ row. (row.0.now, tt)) rows

-- no row is at a path after this one
abbrev pub NoneBehind : List PathStep → TouchedRows → Type 0
NoneBehind p rows = (q : List PathStep) → IsSome (find path_cmp q rows) → is_lt (path_cmp p q) ≡ false

-- what rows say is brought to a path
abbrev pub brought_in : TouchedRows → List PathStep → List (List ℕ × Item)
brought_in rows p = option_map_or (λ list. shown list.items) (find path_cmp p rows) []

-- rows with a mark more
pub record IsEntered (mark : List PathStep × List (List ℕ × Item)) (old new : TouchedRows) : Type 0 where
  pub sorted : IsTrue (is_sorted path_cmp new)
  pub paths : (p : List PathStep) → is_some (find path_cmp p new) ≡ (is_some (find path_cmp p old) || is_at p mark)
  pub given : (p : List PathStep)
      → brought_in new p ≡ brought_in old p ++ (if is_at p mark then mark.1 else [])

-- the rows of marks
pub record AreRowsOf (marks : List (List PathStep × List (List ℕ × Item))) (rows : TouchedRows) : Type 0 where
  pub sorted : IsTrue (is_sorted path_cmp rows)
  pub paths : (p : List PathStep) → is_some (find path_cmp p rows) ≡ marked marks p
  pub given : (p : List PathStep) → brought_in rows p ≡ brought_by marks p
