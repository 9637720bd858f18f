-- Who asked, while others are answered.
use Rattle.std.proofs.Common.{◌≡◌, ◌≢◌, ℕ, ◌<◌, zero, suc, Bool, true, false, cond, ◌&&◌, nat_eq, List, [], ◌∷◌, ◌++◌, Option, None, Some, get_or, length, set, refl, sym, ap, subst, ◌∙◌, eqb-true, eq-eqb}
use Rattle.std.specs.Prelude.{slice_get}
use Rattle.std.specs.List.{find}
use Rattle.std.specs.Option.{option_map, option_map_or}
use Rattle.std.specs.Cmp.{first_so, second_so}
use Rattle.std.specs.Cmp.Lexicographic.{bytes_decides}
use Rattle.std.proofs.lemmas.Bool.{false≢true}
use Rattle.std.proofs.lemmas.List.Quantifiers.{position-Some}
use Rattle.std.proofs.lemmas.Option.{none-some, same_Some, slice_get-get_or}
use Rattle.orc_call.specs.declared.answer.Answer.{Answer}
use Rattle.orc_call.specs.declared.call.Call.{Call}
use Rattle.orc_datastore.specs.Legal.{IsSame}
use Rattle.orc_decls.specs.Devices.{is_same_text}
use Rattle.orc_rules.specs.Asked.{answered_at, answered_one, is_of, is_open_at, is_open_of, new_slot, open_of, slot_of, slot_set}
use Rattle.orc_rules.specs.declared.asked.Asked.{Asked}
use Rattle.orc_hub.specs.Keeps.{IsAsker}
use Rattle.orc_hub_parts.proofs.Positions.{found_again, found_last}
use Rattle.orc_hub_parts.proofs.CallSlots.{own}
use Rattle.orc_hub.proofs.Waiting.{get_last, get_set}

-- another place is as it was
pub get_set_other : {X : Type 0} (xs : List X) (i j : ℕ) (x : X) → (j ≡ i → ⊥) → slice_get (set xs i x) j ≡ slice_get xs j
get_set_other [] i j x differ = refl
get_set_other (y ∷ xs) zero zero x differ = absurd (differ refl)
get_set_other (y ∷ xs) zero (suc j) x differ = refl
get_set_other (y ∷ xs) (suc i) zero x differ = refl
get_set_other (y ∷ xs) (suc i) (suc j) x differ = get_set_other xs i j x (λ same. differ (ap suc same))

pub same_place : (asked : List Asked) (place : ℕ) (call other : Call) → IsAsker asked place call → IsAsker asked place other → IsSame call other
same_place asked place call other own their =
    let slot : own.slot ≡ their.slot = same_Some own.slot their.slot (sym own.there ∙ their.there) in
    (sym own.caller ∙ ap (λ (s : Asked). s.caller) slot ∙ their.caller, sym own.number ∙ ap (λ (s : Asked). s.number) slot ∙ their.number)

-- who isn't answered has an open call as before
pub asks_still : (asked : List Asked) (q : ℕ) (said : Answer) (answered : Call) → IsAsker asked q answered → (p : ℕ) (call : Call)
    → (IsSame answered call → ⊥) → IsAsker asked p call → IsAsker (answered_at q said asked) p call
asks_still asked q said answered own p call differ their = record {
  slot = their.slot;
  there = ap (λ (l : List Asked). slice_get l p) put ∙ get_set_other asked q p (answered_one said own.slot) apart ∙ their.there;
  is_open = their.is_open;
  caller = their.caller;
  number = their.number;
}
  where
    put : answered_at q said asked ≡ set asked q (answered_one said own.slot)
    put = ap (λ (o : Option Asked). option_map_or (λ (one : Asked). set asked q (answered_one said one)) o asked) own.there

    apart : p ≡ q → ⊥
    apart same = differ (same_place asked q answered call own (subst (λ (n : ℕ). IsAsker asked n call) same their))

-- what isn't found is nowhere

fails : {X : Type 0} (p : X → Bool) (xs : List X) → find p xs ≡ None → (i : ℕ) (x : X) → slice_get xs i ≡ Some x → p x ≡ true → ⊥
fails p [] none i x is passes = absurd (none-some x is)
fails {X = X} p (y ∷ xs) none i x is passes = on (p y) refl none i is (fails p xs)
  where
    on : (b : Bool) → p y ≡ b → cond b (Some y) (find p xs) ≡ None → (i : ℕ) → slice_get (y ∷ xs) i ≡ Some x
        → (find p xs ≡ None → (i : ℕ) (x : X) → slice_get xs i ≡ Some x → p x ≡ true → ⊥) → ⊥
    on true e none i is later = none-some y (sym none)
    on false e none zero is later = false≢true (sym e ∙ ap p (same_Some y x is) ∙ passes)
    on false e none (suc i) is later = later none i x is passes

unmapped : {X Y : Type 0} (f : X → Y) (o : Option X) → option_map f o ≡ None → o ≡ None
unmapped f None h = refl
unmapped f (Some x) h = absurd (none-some (f x) (sym h))

-- where a caller has no open call, no open slot is of this caller
pub none_open : (asked : List Asked) (caller : List ℕ) → open_of asked caller ≡ None → (p : ℕ) (slot : Asked) → slice_get asked p ≡ Some slot → slot.is_open ≡ true
    → slot.caller ≢ caller
none_open asked caller closed p slot there is_open same =
    fails (is_open_of caller) asked (unmapped (λ (one : Asked). one.number) (find (is_open_of caller) asked) closed) p slot there
    (ap (λ (b : Bool). b && is_same_text slot.caller caller) is_open ∙ (bytes_decides slot.caller caller).1 same)

-- a slot that is made, or written, of a caller who has no open call, leaves those of the others

get_front : {X : Type 0} (xs ys : List X) (i : ℕ) (x : X) → slice_get xs i ≡ Some x → slice_get (xs ++ ys) i ≡ Some x
get_front [] ys i x is = absurd (none-some x is)
get_front (y ∷ xs) ys zero x is = is
get_front (y ∷ xs) ys (suc i) x is = get_front xs ys i x is

module _ (asked : List Asked) (call : Call) (closed : open_of asked call.caller ≡ None) where
  pub asks_beside : (last : Option Answer) (is_open : Bool) (o : Option ℕ) → slot_of asked call ≡ o → (p : ℕ) (other : Call) → IsAsker asked p other
      → IsAsker (slot_set asked call o last is_open) p other
  asks_beside last is_open (Some q) is p other their = record {
    slot = their.slot;
    there = get_set_other asked q p (new_slot call last is_open) apart ∙ their.there;
    is_open = their.is_open;
    caller = their.caller;
    number = their.number;
  }
    where
      d : Asked
      d = new_slot call None true

      apart : p ≡ q → ⊥
      apart same =
          let here = position-Some (is_of call.caller call.number) asked q d is in
          let one : their.slot ≡ get_or asked q d =
          same_Some their.slot (get_or asked q d) (sym their.there ∙ ap (slice_get asked) same ∙ slice_get-get_or asked q d here.0) in
          none_open asked call.caller closed p their.slot their.there their.is_open
          (ap (λ (s : Asked). s.caller) one ∙ (bytes_decides (get_or asked q d).caller call.caller).0 (first_so (is_same_text (get_or asked q d).caller call.caller) _ here.1))
  asks_beside last is_open None is p other their = record {
    slot = their.slot;
    there = get_front asked (new_slot call last is_open ∷ []) p their.slot their.there;
    is_open = their.is_open;
    caller = their.caller;
    number = their.number;
  }

-- a slot in which an answer is noted, or that is made for it, leaves each open call, which may be this one
pub asks_noted : (asked : List Asked) (call : Call) (said : Answer) (o : Option ℕ) → slot_of asked call ≡ o → (p : ℕ) (other : Call) → IsAsker asked p other
    → IsAsker (slot_set asked call o (Some said) (is_open_at asked o)) p other
asks_noted asked call said (Some q) is p other their = on (nat_eq p q) refl
  where
    noted : Asked
    noted = new_slot call (Some said) (is_open_at asked (Some q))

    here : (q < length asked) × (is_of call.caller call.number (get_or asked q (new_slot call None true)) ≡ true)
        × ((k : ℕ) → k < q → is_of call.caller call.number (get_or asked k (new_slot call None true)) ≡ false)
    here = position-Some (is_of call.caller call.number) asked q (new_slot call None true) is

    slot_is : p ≡ q → their.slot ≡ get_or asked q (new_slot call None true)
    slot_is same =
        same_Some their.slot (get_or asked q (new_slot call None true))
        (sym their.there ∙ ap (slice_get asked) same ∙ slice_get-get_or asked q (new_slot call None true) here.0)

    on : (b : Bool) → nat_eq p q ≡ b → IsAsker (set asked q noted) p other
    on true e =
        let same : p ≡ q = eqb-true p q e in
        let one = get_or asked q (new_slot call None true) in
        let slot : their.slot ≡ one = slot_is same in
        let caller : one.caller ≡ call.caller =
        (bytes_decides one.caller call.caller).0 (first_so (is_same_text one.caller call.caller) (nat_eq one.number call.number) here.1) in
        let number : one.number ≡ call.number =
        eqb-true one.number call.number (second_so (is_same_text one.caller call.caller) (nat_eq one.number call.number) here.1) in
        record {
          slot = noted;
          there = ap (slice_get (set asked q noted)) same ∙ get_set asked q noted here.0;
          is_open = ap (λ (o : Option Asked). option_map_or (λ (x : Asked). x.is_open) o false) (sym (ap (slice_get asked) same) ∙ their.there) ∙ their.is_open;
          caller = sym caller ∙ sym (ap (λ (x : Asked). x.caller) slot) ∙ their.caller;
          number = sym number ∙ sym (ap (λ (x : Asked). x.number) slot) ∙ their.number;
        }
    on false e = record {
      slot = their.slot;
      there = get_set_other asked q p noted (λ same. false≢true (sym e ∙ eq-eqb p q same)) ∙ their.there;
      is_open = their.is_open;
      caller = their.caller;
      number = their.number;
    }
asks_noted asked call said None is p other their = record {
  slot = their.slot;
  there = get_front asked (new_slot call (Some said) false ∷ []) p their.slot their.there;
  is_open = their.is_open;
  caller = their.caller;
  number = their.number;
}

-- and who asks has the open one
pub asks_now : (asked : List Asked) (call : Call) (last : Option Answer) (o : Option ℕ) → slot_of asked call ≡ o → (place : ℕ) → slot_of (slot_set asked call o last true) call ≡ Some place
    → IsAsker (slot_set asked call o last true) place call
asks_now asked call last (Some q) is place at =
    let one = new_slot call last true in
    let same : q ≡ place = same_Some q place (sym (found_again (is_of call.caller call.number) asked q one is (own call last true)) ∙ at) in
    record {
      slot = one;
      there = subst (λ (n : ℕ). slice_get (set asked q one) n ≡ Some one) same (get_set asked q one (position-Some (is_of call.caller call.number) asked q one is).0);
      is_open = refl;
      caller = refl;
      number = refl;
    }
asks_now asked call last None is place at =
    let one = new_slot call last true in
    let same : length asked ≡ place = same_Some (length asked) place (sym (found_last (is_of call.caller call.number) asked one is (own call last true)) ∙ at) in
    record {
      slot = one;
      there = subst (λ (n : ℕ). slice_get (asked ++ one ∷ []) n ≡ Some one) same (get_last asked one);
      is_open = refl;
      caller = refl;
      number = refl;
    }
