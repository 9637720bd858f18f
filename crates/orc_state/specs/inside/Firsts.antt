-- The first row of writes that touches a read.
use Rattle.std.specs.Prelude.{◌≡◌, ℕ, ◌+◌, ◌≤◌, ◌<◌, List, slice_get}
use Rattle.std.specs.declared.option.Option.TheVariants.{Some}
use Rattle.orc_path.specs.declared.item.Write.{Write}
use Rattle.orc_call.specs.declared.answer.Answer.{Answer}
use Rattle.orc_call.specs.declared.answer.Answer.TheVariants.{Conflict}
use Rattle.orc_expr.specs.Touches.{IsFirstTouch, IsUntouched}
use Rattle.orc_expr.specs.declared.read.Read.{Read}

-- no row from a place up to another has a write that touches a read
abbrev pub AreUntouched : List Read → List (List Write) → ℕ → ℕ → Type 0
AreUntouched reads rows front end =
    (place : ℕ) (row : List Write) → front ≤ place → place < end → slice_get rows place ≡ Some row
    → IsUntouched reads row

-- the first row from a place on that has one, and its least
pub record IsFirstIn (reads : List Read) (rows : List (List Write)) (front : ℕ) (at : ℕ × ℕ) : Type 0 where
  pub later : front ≤ at.0
  pub untouched : AreUntouched reads rows front at.0
  pub row : List Write
  pub there : slice_get rows at.0 ≡ Some row
  pub first : IsFirstTouch reads row at.1

-- there is a write at this place of this row
abbrev pub IsWriteAt : List (List Write) → ℕ × ℕ → Type 0
IsWriteAt rows at =
    (row : List Write) × (slice_get rows at.0 ≡ Some row) × (write : Write) × (slice_get row at.1 ≡ Some write)

-- the answer reports it, with the number of the row's entry
abbrev pub IsAnswerAt : List (List Write) → ℕ × ℕ → Answer → Type 0
IsAnswerAt rows at answer =
    (row : List Write) × (slice_get rows at.0 ≡ Some row) × (write : Write) × (slice_get row at.1 ≡ Some write)
    × (answer ≡ Conflict (at.0 + 1) write)
