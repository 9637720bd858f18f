-- What moves make of one path.
use Rattle.std.specs.Prelude.{ℕ, Bool, true, false, not, ◌||◌, List, [], ◌∷◌, filter, Option, if◌then◌else◌}
use Rattle.std.specs.declared.option.Option.TheVariants.{None, Some}
use Rattle.std.specs.List.{list_any}
use Rattle.std.specs.Ordering.{eq_by_cmp}
use Rattle.std.specs.FinMap.Entries.{by_order}
use Rattle.orc_path.specs.Steps.{PathStep}
use Rattle.orc_path.specs.Order.{path_cmp, text_cmp}
use Rattle.orc_path.specs.declared.item.Item.{Item}
use Rattle.orc_call.specs.declared.call.Put as call
use Rattle.orc_tree.specs.declared.change.Change.{Change}
use Rattle.orc_tree.specs.declared.change.Change.TheVariants.{Put, Remove}
use Rattle.orc_change.specs.Differences.{has_item}
use Rattle.orc_refs.specs.declared.moves.Move.{Move}
use Rattle.orc_refs.specs.Moves.{put_at, is_moved}

-- with one id more, in its place
abbrev pub enter_id : List ℕ → List (List ℕ) → List (List ℕ)
enter_id id [] = id ∷ []
enter_id id (other ∷ ids) =
    by_order (text_cmp id other) (id ∷ other ∷ ids) (other ∷ ids) (other ∷ enter_id id ids)

-- those of the ids that no move names
abbrev pub staying : List Move → List (List ℕ) → List (List ℕ)
staying moves ids = filter (λ id. not (is_moved moves id)) ids

-- with the ids of the moves that bring an item there
abbrev pub brought : List Move → List PathStep → List (List ℕ) → List (List ℕ)
brought [] p ids = ids
brought (m ∷ ms) p ids =
    elim (put_at m.new p) [ None ↦ brought ms p ids | Some item ↦ brought ms p (enter_id m.service ids) ]

-- the ids of the services that write a path once the moves are done
abbrev pub ids_after : List Move → List PathStep → List (List ℕ) → List (List ℕ)
ids_after moves p ids = brought moves p (staying moves ids)

-- the item that the first move to bring one there brings
abbrev pub first_brought : List Move → List PathStep → Option Item
first_brought [] p = None
first_brought (m ∷ ms) p = elim (put_at m.new p) [ None ↦ first_brought ms p | Some item ↦ Some item ]

abbrev pub or_else : Option Item → Option Item → Option Item
or_else None other = other
or_else (Some item) other = Some item

-- the item that stands there once the moves are done: that of a service that stays, else what a move brings, else the
-- base's
abbrev pub item_after : List Move → List PathStep → List (List ℕ) → Option Item → Option Item → Option Item
item_after moves p ids here base =
    elim (staying moves ids) [ [] ↦ or_else (first_brought moves p) base | id ∷ others ↦ here ]

-- each move brings this item there, or none
abbrev pub all_bring : List Move → List PathStep → Option Item → Bool
all_bring [] p o = true
all_bring (m ∷ ms) p o =
    elim (put_at m.new p) [ None ↦ all_bring ms p o | Some item ↦ if has_item o item then all_bring ms p o else false ]

-- some item of the list is at the path
abbrev pub has_path : List call.Put → List PathStep → Bool
has_path puts p = list_any (λ put. eq_by_cmp path_cmp p put.path) puts

-- some move takes an item from there or brings one
abbrev pub moves_touch : List Move → List PathStep → Bool
moves_touch moves p = list_any (λ move. has_path move.old p || has_path move.new p) moves

-- the path of a change
abbrev pub changed_path : Change → List PathStep
changed_path (Put path item) = path
changed_path (Remove path) = path

-- some change is of the path
abbrev pub changes_touch : List Change → List PathStep → Bool
changes_touch changes p = list_any (λ change. eq_by_cmp path_cmp p (changed_path change)) changes
