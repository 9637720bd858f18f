-- The slot of a caller and number.
use Rattle.std.proofs.Common.{◌≡◌, ℕ, ◌<◌, Bool, true, false, ◌&&◌, nat_eq, List, [], ◌∷◌, ◌++◌, Option, None, Some, length, get_or, set, refl, sym, ap, subst, ◌∙◌, eqb-true, eq-eqb}
use Rattle.std.specs.Prelude.{slice_get}
use Rattle.std.specs.Option.{option_map_or}
use Rattle.std.specs.Cmp.{first_so, second_so}
use Rattle.std.specs.Cmp.Lexicographic.{bytes_decides}
use Rattle.std.proofs.lemmas.List.Quantifiers.{position-Some}
use Rattle.std.proofs.lemmas.Option.{slice_get-get_or}
use Rattle.orc_call.specs.declared.answer.Answer.{Answer}
use Rattle.orc_call.specs.declared.call.Call.{Call}
use Rattle.orc_decls.specs.Devices.{is_same_text}
use Rattle.orc_rules.specs.Asked.{is_of, is_open_at, new_slot, slot_of, slot_set, with_answer}
use Rattle.orc_rules.specs.declared.asked.Asked.{Asked}
use Rattle.orc_hub_parts.proofs.Positions.{found_again, found_last}
use Rattle.orc_hub_parts.specs.Askers.{noted_at, noted_one}

pub own : (call : Call) (last : Option Answer) (is_open : Bool) → is_of call.caller call.number (new_slot call last is_open) ≡ true
own call last is_open = ap (λ (b : Bool). b && nat_eq call.number call.number) ((bytes_decides call.caller call.caller).1 refl) ∙ eq-eqb call.number call.number refl

-- a slot of this caller and number, with another last answer
same_slot : (call : Call) (answer : Answer) (one : Asked) → is_of call.caller call.number one ≡ true → noted_one answer one ≡ new_slot call (Some answer) one.is_open
same_slot call answer one is =
    let caller : one.caller ≡ call.caller = (bytes_decides one.caller call.caller).0 (first_so (is_same_text one.caller call.caller) (nat_eq one.number call.number) is) in
    let number : one.number ≡ call.number = eqb-true one.number call.number (second_so (is_same_text one.caller call.caller) (nat_eq one.number call.number) is) in
    λ i. record { caller = caller i; number = number i; last = Some answer; is_open = one.is_open }

-- noting an answer in the slot that a call has
pub noted_slot : (asked : List Asked) (call : Call) (place : ℕ) (answer : Answer) → slot_of asked call ≡ Some place
    → noted_at place answer asked ≡ with_answer call answer asked
noted_slot asked call place answer is =
    let d = new_slot call (Some answer) false in
    let here = position-Some (is_of call.caller call.number) asked place d is in
    let one = get_or asked place d in
    let there : slice_get asked place ≡ Some one = slice_get-get_or asked place d here.0 in
    let open_there : is_open_at asked (Some place) ≡ one.is_open = ap (λ (o : Option Asked). option_map_or (λ (x : Asked). x.is_open) o false) there in
    ap (λ (o : Option Asked). option_map_or (λ (x : Asked). set asked place (noted_one answer x)) o asked) there
    ∙ ap (set asked place) (same_slot call answer one here.1)
    ∙ ap (λ (b : Bool). set asked place (new_slot call (Some answer) b)) (sym open_there)
    ∙ ap (λ (o : Option ℕ). slot_set asked call o (Some answer) (is_open_at asked o)) (sym is)

-- it is still the slot
pub still_slot : (asked : List Asked) (call : Call) (place : ℕ) (answer : Answer) → slot_of asked call ≡ Some place
    → slot_of (noted_at place answer asked) call ≡ Some place
still_slot asked call place answer is =
    ap (λ (l : List Asked). slot_of l call)
    (noted_slot asked call place answer is ∙ ap (λ (o : Option ℕ). slot_set asked call o (Some answer) (is_open_at asked o)) is)
    ∙ found_again (is_of call.caller call.number) asked place (new_slot call (Some answer) (is_open_at asked (Some place))) is
    (own call (Some answer) (is_open_at asked (Some place)))

-- a new slot is the last
pub new_place : (asked : List Asked) (call : Call) (last : Option Answer) (is_open : Bool) → slot_of asked call ≡ None
    → slot_of (asked ++ new_slot call last is_open ∷ []) call ≡ Some (length asked)
new_place asked call last is_open none = found_last (is_of call.caller call.number) asked (new_slot call last is_open) none (own call last is_open)
