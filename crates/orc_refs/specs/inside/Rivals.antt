-- The least service whose item differs from that of the first move to bring one to a path.
use Rattle.std.specs.Prelude.{ℕ, List, [], ◌∷◌, Option, if◌then◌else◌}
use Rattle.std.specs.declared.option.Option.TheVariants.{None, Some}
use Rattle.std.specs.Ordering.{is_lt}
use Rattle.orc_path.specs.Steps.{PathStep}
use Rattle.orc_path.specs.Order.{text_cmp}
use Rattle.orc_path.specs.declared.item.Item.{Item}
use Rattle.orc_change.specs.Differences.{has_item}
use Rattle.orc_refs.specs.declared.moves.Move.{Move}
use Rattle.orc_refs.specs.Moves.{put_at}
use Rattle.orc_refs.specs.inside.Settling.{staying, first_brought}

-- the lesser of the least id so far and another one
abbrev pub lesser : Option (List ℕ) → List ℕ → Option (List ℕ)
lesser None id = Some id
lesser (Some least) id = if is_lt (text_cmp id least) then Some id else Some least

-- the least id so far, unless the item is there; else the lesser of it and another one
abbrev pub lesser_rival : Option Item → Item → Option (List ℕ) → List ℕ → Option (List ℕ)
lesser_rival None item least id = least
lesser_rival (Some other) item least id = if has_item (Some item) other then least else lesser least id

-- the least of an id so far and the ids of the moves that bring another item there
abbrev pub least_brought : List Move → List PathStep → Item → Option (List ℕ) → Option (List ℕ)
least_brought [] p item least = least
least_brought (m ∷ ms) p item least =
    least_brought ms p item (lesser_rival (put_at m.new p) item least m.service)

-- the first of ids
abbrev pub first_id : List (List ℕ) → Option (List ℕ)
first_id [] = None
first_id (id ∷ ids) = Some id

-- the first of the ids that stay, where another item stands there
abbrev pub least_staying : List Move → List (List ℕ) → Option Item → Item → Option (List ℕ)
least_staying moves ids here item = if has_item here item then None else first_id (staying moves ids)

-- the least id of those whose item differs from this
abbrev pub least_rival : List Move → List PathStep → List (List ℕ) → Option Item → Option Item → Option (List ℕ)
least_rival moves p ids here None = None
least_rival moves p ids here (Some item) = least_brought moves p item (least_staying moves ids here item)

-- and from that of the first move to bring one there
abbrev pub rival_of : List Move → List PathStep → List (List ℕ) → Option Item → Option (List ℕ)
rival_of moves p ids here = least_rival moves p ids here (first_brought moves p)
