-- Slots of callers and numbers.
use Rattle.std.specs.Prelude.{◌≡◌, ℕ, true, List, [], None, Some, Option, slice_get, slice_set}
use Rattle.std.specs.List.{find}
use Rattle.std.specs.Option.{option_and_then, option_map_or}
use Rattle.orc_call.specs.declared.answer.Answer.{Answer}
use Rattle.orc_rules.specs.Asked.{is_of}
use Rattle.orc_rules.specs.declared.asked.Asked.{Asked}

-- the last answer that a caller and number got
abbrev pub answer_of : List Asked → List ℕ → ℕ → Option Answer
answer_of asked caller number = option_and_then (λ one. one.last) (find (is_of caller number) asked)

-- the call at this place is open, with this last answer
abbrev pub opened_one : Option Answer → Asked → Asked
opened_one last one = record one { last = last; is_open = true }

abbrev pub opened_at : Option Answer → ℕ → List Asked → List Asked
opened_at last place asked =
    option_map_or (λ one. slice_set asked place (opened_one last one)) (slice_get asked place) asked

-- this is the last answer of the slot at this place, where a call that is open stays open
abbrev pub noted_one : Answer → Asked → Asked
noted_one answer one = record one { last = Some answer }

abbrev pub noted_at : ℕ → Answer → List Asked → List Asked
noted_at place answer asked =
    option_map_or (λ one. slice_set asked place (noted_one answer one)) (slice_get asked place) asked

-- an open call stands at this place
pub record IsOpenAt (asked : List Asked) (place : ℕ) : Type 0 where
  pub slot : Asked
  pub there : slice_get asked place ≡ Some slot
  pub is : slot.is_open ≡ true

-- the caller and number of a place
abbrev pub named_at : List Asked → ℕ → List ℕ × ℕ
named_at asked place = option_map_or (λ slot. (slot.caller, slot.number)) (slice_get asked place) ([], 0)
