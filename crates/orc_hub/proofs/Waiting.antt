-- What comes of a submission, said of the hub before it.
use Rattle.std.proofs.Common.{◌≡◌, ℕ, ◌<◌, suc, zero, Bool, true, List, [], ◌∷◌, ◌++◌, Option, None, Some, length, get_or, set, refl, sym, ap, subst, ◌∙◌, arith}
use Rattle.std.specs.Prelude.{MatchOption, slice_get}
use Rattle.std.specs.Option.{option_map_or}
use Rattle.std.specs.Cmp.{first_so}
use Rattle.std.specs.Cmp.Lexicographic.{bytes_decides}
use Rattle.std.proofs.lemmas.List.{set-set, set_at}
use Rattle.std.proofs.lemmas.List.Quantifiers.{position-Some}
use Rattle.std.proofs.lemmas.Option.{same_Some, slice_get-get_or}
use Rattle.orc_call.specs.declared.answer.Answer.{Answer}
use Rattle.orc_call.specs.declared.answer.Answer.TheVariants as answer
use Rattle.orc_call.specs.declared.call.Call.{Call}
use Rattle.orc_datastore.specs.declared.plan.Plan.{Plan}
use Rattle.orc_decls.specs.Devices.{is_same_text}
use Rattle.orc_rules.specs.Asked.{KeepsAnswer, is_of, is_open_at, last_at, new_slot, slot_of, slot_set, with_answer}
use Rattle.orc_rules.specs.Asked.KeepsAnswer.{kept, wanting}
use Rattle.orc_rules.specs.declared.asked.Asked.{Asked}
use Rattle.orc_hub_parts.specs.Askers.{opened_at, opened_one}
use Rattle.orc_hub.specs.Submits.{Queues, Waits}
use Rattle.orc_hub.specs.declared.hub.Hub.{Hub}
use Rattle.orc_hub.specs.declared.hub.Submitted.{Submitted}
use Rattle.orc_hub.specs.declared.hub.Submitted.TheVariants as submitted
use Rattle.orc_hub_parts.proofs.Positions.{found_again, found_last}
use Rattle.orc_hub_parts.proofs.CallSlots.{own}

-- the slot of a call has its caller's name
pub named_slot : (asked : List Asked) (call : Call) (place : ℕ) (name : List ℕ) → slot_of asked call ≡ Some place → name ≡ call.caller
    → MatchOption (slice_get asked place) ⊥ (λ slot. slot.caller ≡ name)
named_slot asked call place name is named =
    let d = new_slot call None true in
    let here = position-Some (is_of call.caller call.number) asked place d is in
    let one = get_or asked place d in
    let caller : one.caller ≡ call.caller = (bytes_decides one.caller call.caller).0 (first_so (is_same_text one.caller call.caller) _ here.1) in
    subst (λ (o : Option Asked). MatchOption o ⊥ (λ (slot : Asked). slot.caller ≡ name)) (sym (slice_get-get_or asked place d here.0)) (caller ∙ sym named)

-- what is kept of an answer
pub kept_answer : (asked new : List Asked) (call : Call) (said : Answer) → new ≡ with_answer call said asked → KeepsAnswer call said asked new
kept_answer asked new call said put = subst (KeepsAnswer call said asked) (sym put) kept

pub kept_none : (asked new : List Asked) (call : Call) → slot_of asked call ≡ None → new ≡ asked → KeepsAnswer call answer.Memory asked new
kept_none asked new call none same = subst (KeepsAnswer call answer.Memory asked) (sym same) (wanting refl none)

-- the slot opens

pub get_last : {X : Type 0} (xs : List X) (x : X) → slice_get (xs ++ x ∷ []) (length xs) ≡ Some x
get_last [] x = refl
get_last (z ∷ xs) x = get_last xs x

set_last : {X : Type 0} (xs : List X) (x y : X) → set (xs ++ x ∷ []) (length xs) y ≡ xs ++ y ∷ []
set_last xs x y = set_at xs x [] y (length xs) refl

pub get_set : {X : Type 0} (xs : List X) (i : ℕ) (x : X) → i < length xs → slice_get (set xs i x) i ≡ Some x
get_set [] i x h = absurd (omega (arith, h))
get_set (y ∷ xs) zero x h = refl
get_set (y ∷ xs) (suc i) x h = get_set xs i x (omega (arith, h))

module _ (asked : List Asked) (call : Call) (open_now : Bool) where
  -- where the slot was made
  there_again : (q place : ℕ) → slot_of asked call ≡ Some q → slot_of (set asked q (new_slot call (Some answer.Memory) open_now)) call ≡ Some place → q ≡ place
  there_again q place is slot =
      same_Some q place (sym (found_again (is_of call.caller call.number) asked q (new_slot call (Some answer.Memory) open_now) is (own call (Some answer.Memory) open_now)) ∙ slot)

  there_last : (place : ℕ) → slot_of asked call ≡ None → slot_of (asked ++ new_slot call (Some answer.Memory) open_now ∷ []) call ≡ Some place → length asked ≡ place
  there_last place is slot =
      same_Some (length asked) place (sym (found_last (is_of call.caller call.number) asked (new_slot call (Some answer.Memory) open_now) is (own call (Some answer.Memory) open_now)) ∙ slot)

  pub opened_is : (last : Option Answer) (o : Option ℕ) → slot_of asked call ≡ o → (place : ℕ) → slot_of (slot_set asked call o (Some answer.Memory) open_now) call ≡ Some place
      → opened_at last place (slot_set asked call o (Some answer.Memory) open_now) ≡ slot_set asked call o last true
  opened_is last (Some q) is place slot =
      let one = new_slot call (Some answer.Memory) open_now in
      subst (λ (n : ℕ). opened_at last n (set asked q one) ≡ set asked q (new_slot call last true)) (there_again q place is slot)
      (ap (λ (o : Option Asked). option_map_or (λ (x : Asked). set (set asked q one) q (opened_one last x)) o (set asked q one))
      (get_set asked q one (position-Some (is_of call.caller call.number) asked q one is).0) ∙ set-set asked q one (opened_one last one))
  opened_is last None is place slot =
      let one = new_slot call (Some answer.Memory) open_now in
      subst (λ (n : ℕ). opened_at last n (asked ++ one ∷ []) ≡ asked ++ new_slot call last true ∷ []) (there_last place is slot)
      (ap (λ (o : Option Asked). option_map_or (λ (x : Asked). set (asked ++ one ∷ []) (length asked) (opened_one last x)) o (asked ++ one ∷ []))
      (get_last asked one) ∙ set_last asked one (opened_one last one))

  pub open_slot : (last : Option Answer) (o : Option ℕ) → slot_of asked call ≡ o → (place : ℕ) → slot_of (slot_set asked call o (Some answer.Memory) open_now) call ≡ Some place
      → slot_of (slot_set asked call o last true) call ≡ Some place
  open_slot last (Some q) is place slot =
      found_again (is_of call.caller call.number) asked q (new_slot call last true) is (own call last true) ∙ ap (λ (n : ℕ). Some n) (there_again q place is slot)
  open_slot last None is place slot =
      found_last (is_of call.caller call.number) asked (new_slot call last true) is (own call last true) ∙ ap (λ (n : ℕ). Some n) (there_last place is slot)

module _ {D : Type 0} (old : Hub D) (call : Call) (plan : Plan) (asked : List Asked) (put : asked ≡ with_answer call answer.Memory old.askers)
    (place : ℕ) (slot : slot_of asked call ≡ Some place) (last : Option Answer) (was : last ≡ last_at old.askers (slot_of old.askers call)) where
  abbrev was_open : Bool
  was_open = is_open_at old.askers (slot_of old.askers call)

  slot' : slot_of (with_answer call answer.Memory old.askers) call ≡ Some place
  slot' = subst (λ (l : List Asked). slot_of l call ≡ Some place) put slot

  pub waits_so : (result : Submitted) (new : Hub D) → Waits (record old { askers = asked }) call plan place last result new → Queues old call plan result new
  waits_so (submitted.Answered said) new w = (
    w.0,
    record {
      kept = subst (λ (h : Hub D). KeepsAnswer call said old.askers h.askers) (sym w.1)
          (subst (λ (a : Answer). KeepsAnswer call a old.askers asked) (sym w.0) (kept_answer old.askers asked call answer.Memory put));
      rest = w.1 ∙ ap (λ (l : List Asked). record old { askers = l }) (sym (ap (λ (h : Hub D). h.askers) w.1));
    },
  )
  waits_so (submitted.Queued t) new w = record {
    asker = place;
    slot = subst (λ (l : Option Answer). slot_of (slot_set old.askers call (slot_of old.askers call) l true) call ≡ Some place) was
        (open_slot old.askers call was_open last (slot_of old.askers call) refl place slot');
    least = w.0;
    given = w.1;
    waits = w.2 ∙ ap (λ (l : List Asked). record old { waiting = old.waiting ++ record { t = t; call = call; plan = plan; asker = place } ∷ []; askers = l; numbers = new.numbers })
        (ap (opened_at last place) put ∙ opened_is old.askers call was_open last (slot_of old.askers call) refl place slot'
        ∙ ap (λ (l : Option Answer). slot_set old.askers call (slot_of old.askers call) l true) was);
  }
