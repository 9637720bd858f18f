-- Who asked what, and what was answered.
use Rattle.std.specs.Prelude.{ℕ, ◌≡◌, nat_eq, Bool, true, false, ◌&&◌, List, [], ◌∷◌, ◌++◌, Option, Some, None, slice_get, slice_set}
use Rattle.std.specs.List.{find}
use Rattle.std.specs.Option.{option_and_then, option_map, option_map_or}
use Rattle.orc_call.specs.declared.answer.Answer.{Answer}
use Rattle.orc_decls.specs.Devices.{is_same_text}
use Rattle.orc_call.specs.declared.answer.Answer.TheVariants as answer
use Rattle.orc_call.specs.declared.call.Call.{Call}
use Rattle.std.specs.List.{position}
use Rattle.orc_rules.specs.declared.asked.Asked.{Asked}

-- the caller has an open call with this number
abbrev pub is_open_of : List ℕ → Asked → Bool
is_open_of caller one = one.is_open && is_same_text one.caller caller

-- the number of the caller's open call, if there is one: a caller has one at most
abbrev pub open_of : List Asked → List ℕ → Option ℕ
open_of asked caller = option_map (λ one. one.number) (find (is_open_of caller) asked)

-- this caller and number
abbrev pub is_of : List ℕ → ℕ → Asked → Bool
is_of caller number one = is_same_text one.caller caller && nat_eq one.number number

-- a caller and number with this answer as their last, and no call open
abbrev pub answered_one : Answer → Asked → Asked
answered_one answer one = record one { last = Some answer; is_open = false }

-- the slot at this place is answered
abbrev pub answered_at : ℕ → Answer → List Asked → List Asked
answered_at place answer asked =
    option_map_or (λ one. slice_set asked place (answered_one answer one)) (slice_get asked place) asked

-- A call was submitted: the slot of its caller and number, which is made where there is none, holds what came of it.
abbrev pub slot_of : List Asked → Call → Option ℕ
slot_of asked call = position (is_of call.caller call.number) asked

-- a slot of the caller and number of a call
abbrev pub new_slot : Call → Option Answer → Bool → Asked
new_slot call last open_now = record { caller = call.caller; number = call.number; last = last; is_open = open_now }

-- the slot at this place, or a new one at the end, is that of the call
abbrev pub slot_set : List Asked → Call → Option ℕ → Option Answer → Bool → List Asked
slot_set asked call None last open_now = asked ++ new_slot call last open_now ∷ []
slot_set asked call (Some place) last open_now = slice_set asked place (new_slot call last open_now)

-- the call in the slot at this place is open
abbrev pub is_open_at : List Asked → Option ℕ → Bool
is_open_at asked place = option_map_or (λ at. option_map_or (λ one. one.is_open) (slice_get asked at) false) place false

-- It is answered at once: the answer is the last of its caller and number. It ends no call: where theirs is open, as
-- it may be where the answer is Busy, it stays open.
abbrev pub with_answer : Call → Answer → List Asked → List Asked
with_answer call said asked =
    slot_set asked call (slot_of asked call) (Some said) (is_open_at asked (slot_of asked call))

-- What is kept of an answer at once: the answer, as the last of its caller and number. Where memory runs out, and
-- these have no slot yet, nothing is, since a slot takes memory.
pub data KeepsAnswer (call : Call) (said : Answer) (asked : List Asked) : List Asked → Type 0 where
  kept : KeepsAnswer call said asked (with_answer call said asked)
  wanting : said ≡ answer.Memory → slot_of asked call ≡ None → KeepsAnswer call said asked asked

-- the last answer in the slot at this place, if one was given
abbrev pub last_at : List Asked → Option ℕ → Option Answer
last_at asked place = option_and_then (λ at. option_and_then (λ one. one.last) (slice_get asked at)) place

-- or it waits: the last answer of its caller and number stays
abbrev pub with_open : Call → List Asked → List Asked
with_open call asked = slot_set asked call (slot_of asked call) (last_at asked (slot_of asked call)) true
