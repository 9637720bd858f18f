-- A caller without an open call has none after an answer at once.
use Rattle.std.proofs.Common.{◌≡◌, ℕ, suc, zero, Bool, true, false, cond, List, [], ◌∷◌, ◌++◌, Option, None, Some, get_or, set, refl, sym, ap, ◌∙◌}
use Rattle.std.specs.Prelude.{slice_get}
use Rattle.std.specs.List.{find}
use Rattle.std.specs.Option.{option_map, option_map_or}
use Rattle.std.specs.Cmp.{first_so}
use Rattle.std.specs.Cmp.Lexicographic.{bytes_decides}
use Rattle.std.proofs.lemmas.List.Quantifiers.{position-Some}
use Rattle.std.proofs.lemmas.Option.{none-some, slice_get-get_or}
use Rattle.orc_call.specs.declared.answer.Answer.{Answer}
use Rattle.orc_call.specs.declared.call.Call.{Call}
use Rattle.orc_decls.specs.Devices.{is_same_text}
use Rattle.orc_rules.specs.Asked.{is_of, is_open_at, is_open_of, new_slot, open_of, slot_of, slot_set, with_answer}
use Rattle.orc_rules.specs.declared.asked.Asked.{Asked}
use Rattle.orc_hub.proofs.Asking.{none_open}

module _ {X : Type 0} (p : X → Bool) where
  found_no_more : (xs : List X) (y : X) → find p xs ≡ None → p y ≡ false → find p (xs ++ y ∷ []) ≡ None
  found_no_more [] y none fails = ap (λ (b : Bool). cond b (Some y) None) fails
  found_no_more (x ∷ xs) y none fails = on (p x) refl (λ later. found_no_more xs y later fails)
    where
      on : (b : Bool) → p x ≡ b → (find p xs ≡ None → find p (xs ++ y ∷ []) ≡ None) → find p (x ∷ xs ++ y ∷ []) ≡ None
      on true e rest = absurd (none-some x (sym none ∙ ap (λ (b : Bool). cond b (Some x) (find p xs)) e))
      on false e rest = ap (λ (b : Bool). cond b (Some x) (find p (xs ++ y ∷ []))) e
          ∙ rest (sym (ap (λ (b : Bool). cond b (Some x) (find p xs)) e) ∙ none)

  found_no_other : (xs : List X) (i : ℕ) (y : X) → find p xs ≡ None → p y ≡ false → find p (set xs i y) ≡ None
  found_no_other [] i y none fails = refl
  found_no_other (x ∷ xs) i y none fails = on i (p x) refl (λ k later. found_no_other xs k y later fails)
    where
      on : (i : ℕ) (b : Bool) → p x ≡ b → ((k : ℕ) → find p xs ≡ None → find p (set xs k y) ≡ None) → find p (set (x ∷ xs) i y) ≡ None
      on i true e rest = absurd (none-some x (sym none ∙ ap (λ (b : Bool). cond b (Some x) (find p xs)) e))
      on zero false e rest = ap (λ (b : Bool). cond b (Some y) (find p xs)) fails
          ∙ sym (ap (λ (b : Bool). cond b (Some x) (find p xs)) e) ∙ none
      on (suc k) false e rest = ap (λ (b : Bool). cond b (Some x) (find p (set xs k y))) e
          ∙ rest k (sym (ap (λ (b : Bool). cond b (Some x) (find p xs)) e) ∙ none)

-- the slot of such a caller isn't open
closed_there : (asked : List Asked) (call : Call) → open_of asked call.caller ≡ None → (o : Option ℕ) → slot_of asked call ≡ o → is_open_at asked o ≡ false
closed_there asked call closed None is = refl
closed_there asked call closed (Some q) is =
    let d = new_slot call None true in
    let here = position-Some (is_of call.caller call.number) asked q d is in
    let one = get_or asked q d in
    let there : slice_get asked q ≡ Some one = slice_get-get_or asked q d here.0 in
    let same : one.caller ≡ call.caller = (bytes_decides one.caller call.caller).0 (first_so (is_same_text one.caller call.caller) _ here.1) in
    ap (λ (o : Option Asked). option_map_or (λ (x : Asked). x.is_open) o false) there ∙ not_open one there same one.is_open refl
  where
    not_open : (one : Asked) → slice_get asked q ≡ Some one → one.caller ≡ call.caller → (b : Bool) → one.is_open ≡ b → b ≡ false
    not_open one there same true e = absurd (none_open asked call.caller closed q one there e same)
    not_open one there same false e = refl

pub still_closed : (asked : List Asked) (call : Call) (said : Answer) → open_of asked call.caller ≡ None → open_of (with_answer call said asked) call.caller ≡ None
still_closed asked call said closed =
    ap (λ (b : Bool). open_of (slot_set asked call (slot_of asked call) (Some said) b) call.caller) (closed_there asked call closed (slot_of asked call) refl)
    ∙ on (slot_of asked call)
  where
    none : (o : Option Asked) → option_map (λ (one : Asked). one.number) o ≡ None → o ≡ None
    none None e = refl
    none (Some x) e = absurd (none-some x.number (sym e))

    before : find (is_open_of call.caller) asked ≡ None
    before = none (find (is_open_of call.caller) asked) closed

    on : (o : Option ℕ) → open_of (slot_set asked call o (Some said) false) call.caller ≡ None
    on None = ap (option_map (λ (one : Asked). one.number)) (found_no_more (is_open_of call.caller) asked (new_slot call (Some said) false) before refl)
    on (Some i) = ap (option_map (λ (one : Asked). one.number)) (found_no_other (is_open_of call.caller) asked i (new_slot call (Some said) false) before refl)
