-- What a row ends as, where its items are lent for change in place.
use Rattle.std.specs.Prelude.{List, ◌++◌, length, take, drop}
use Rattle.std.specs.Borrow.{Lends, Fml, RattleType, MutBor, Array}
use Rattle.orc_text.specs.contracts.row.Row.{the_row}

-- the row with these as its items. Where they are fewer or more they are filled up from the row or cut, so that the
-- length stays
abbrev pub with_items : {T : Type 0} → List T → List T → List T
with_items row items = take (length row) (items ++ drop (length items) row)

-- once the loan of the items ends, the row has those that stand there last
abbrev pub LendsItems : (T : RattleType) → MutBor (List T.Denot) → MutBor (List T.Denot) → Fml
LendsItems T row items = Lends (the_row T) (Array T 0) row items (with_items row.now)
