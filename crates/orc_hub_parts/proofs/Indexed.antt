-- Slots that are found by an index.
use Rattle.std.proofs.Common.{◌≡◌, nat_lt, ltb-true, ltb-false, ◌⊎◌, inl, inr, ⊎_elim, ℕ, zero, suc, ◌+◌, ◌<◌, ◌≤◌, Bool, true, false, ◌&&◌, nat_eq, cond, List, [], ◌∷◌, ◌++◌, Option, None, Some, length, get_or, take, refl, sym, ap, subst, ◌∙◌, arith, true≢false, eqb-true, eq-eqb}
use Rattle.std.specs.Prelude.{slice_get, slice_set, is_some, MatchOption}
use Rattle.std.specs.List.{find, position}
use Rattle.std.specs.Option.{option_and_then, option_map, option_map_or}
use Rattle.std.specs.Ordering.{is_eq, nat_cmp}
use Rattle.std.specs.Cmp.{first_so, nat_cmp_is, ranks, second_so}
use Rattle.std.specs.declared.cmp.Ordering.{Ordering}
use Rattle.std.specs.declared.cmp.Ordering.TheVariants.{Less, Equal, Greater}
use Rattle.std.specs.Ordering.{MatchOrdering}
use Rattle.std.proofs.Math.Seq.{take-append_seam}
use Rattle.std.proofs.lemmas.List.{get_or_push, length-append}
use Rattle.std.specs.Cmp.Lexicographic.{bytes_decides}
use Rattle.std.proofs.lemmas.Option.{get_or_from_slice_get, none-some, slice_get-get_or, slice_get_within}
use Rattle.orc_call.specs.declared.answer.Answer.{Answer}
use Rattle.orc_decls.specs.Devices.{is_same_text}
use Rattle.orc_hub_parts.proofs.Indexing.{get_front, get_last, get_other, get_set}
use Rattle.orc_hub_parts.proofs.Positions.{found, not_found}
use Rattle.orc_hub_parts.specs.Askers.{answer_of, noted_at, noted_one, opened_at, opened_one}
use Rattle.orc_hub_parts.specs.declared.index.Calls.{Calls}
use Rattle.orc_hub_parts.specs.declared.index.Index.{Index}
use Rattle.orc_hub_parts.specs.inside.Indexed.{AreIndexed, FindsSame, IsKnown, IsPaired, NotesOpen, NotesPlace, calls_among, latest_in, place_in}
use Rattle.orc_rules.specs.Asked.{answered_at, answered_one, is_of, is_open_of, open_of}
use Rattle.orc_rules.specs.declared.asked.Asked.{Asked}

-- the one that passes

same_some : {X : Type 0} (x y : X) → Some x ≡ Some y → x ≡ y
same_some {X = X} x y is = ap (λ (o : Option X). option_map_or (λ (z : X). z) o x) is

module _ {X : Type 0} (p : X → Bool) where
  abbrev Alone : List X → ℕ → Type 0
  Alone xs i = (j : ℕ) (y : X) → slice_get xs j ≡ Some y → p y ≡ true → j ≡ i

  abbrev NoOne : List X → Type 0
  NoOne xs = (j : ℕ) (y : X) → slice_get xs j ≡ Some y → p y ≡ true → ⊥

  find_none : (xs : List X) → NoOne xs → find p xs ≡ None
  find_none [] nobody = refl
  find_none (x ∷ xs) nobody = on (p x) refl (find_none xs (λ j y there passes. nobody (suc j) y there passes))
    where
      on : (b : Bool) → p x ≡ b → find p xs ≡ None → find p (x ∷ xs) ≡ None
      on true e rest = absurd (nobody zero x refl e)
      on false e rest = ap (λ (b : Bool). cond b (Some x) (find p xs)) e ∙ rest

  find_one : (xs : List X) (i : ℕ) (x : X) → slice_get xs i ≡ Some x → p x ≡ true → Alone xs i → find p xs ≡ Some x
  find_one [] i x there passes alone = absurd (none-some x there)
  find_one (z ∷ xs) zero x there passes alone =
      ap (λ (b : Bool). cond b (Some z) (find p xs)) (ap p (same_some z x there) ∙ passes) ∙ there
  find_one (z ∷ xs) (suc i) x there passes alone =
      on (p z) refl (find_one xs i x there passes (λ j y there' passes'. (let up = alone (suc j) y there' passes' in omega (arith, up))))
    where
      on : (b : Bool) → p z ≡ b → find p xs ≡ Some x → find p (z ∷ xs) ≡ Some x
      on true e rest = absurd (let nobody = alone zero z refl e in omega (arith, nobody))
      on false e rest = ap (λ (b : Bool). cond b (Some z) (find p xs)) e ∙ rest

  fails_at : (xs : List X) (k : ℕ) (d : X) → k < length xs → (p (get_or xs k d) ≡ true → ⊥) → p (get_or xs k d) ≡ false
  fails_at xs k d within nobody = on (p (get_or xs k d)) refl
    where
      on : (b : Bool) → p (get_or xs k d) ≡ b → b ≡ false
      on true e = absurd (nobody e)
      on false e = refl

  position_one : (xs : List X) (i : ℕ) (x : X) → slice_get xs i ≡ Some x → p x ≡ true → Alone xs i → position p xs ≡ Some i
  position_one xs i x there passes alone =
      let within = slice_get_within xs i x there in
      sym (found p xs i x within (sym (get_or_from_slice_get xs i x x there)) passes
      (λ k d below. (let inside : k < length xs = omega (arith, below, within) in
      fails_at xs k d inside (λ e. (let same = alone k (get_or xs k d) (slice_get-get_or xs k d inside) e in omega (arith, same, below))))))

  position_none : (xs : List X) → NoOne xs → position p xs ≡ None
  position_none xs nobody = sym (not_found p xs (length xs) (omega arith)
      (λ k d below. fails_at xs k d below (λ e. nobody k (get_or xs k d) (slice_get-get_or xs k d below) e)))

-- what slots are found

is_of_both : (caller : List ℕ) (number : ℕ) (one : Asked) → is_of caller number one ≡ true → (one.caller ≡ caller) × (one.number ≡ number)
is_of_both caller number one is = (
  (bytes_decides one.caller caller).0 (first_so (is_same_text one.caller caller) (nat_eq one.number number) is),
  eqb-true one.number number (second_so (is_same_text one.caller caller) (nat_eq one.number number) is),
)

is_of_so : (caller : List ℕ) (number : ℕ) (one : Asked) → one.caller ≡ caller → one.number ≡ number → is_of caller number one ≡ true
is_of_so caller number one same_caller same_number =
    ap (λ (b : Bool). b && nat_eq one.number number) ((bytes_decides one.caller caller).1 same_caller) ∙ eq-eqb one.number number same_number

open_both : (caller : List ℕ) (one : Asked) → is_open_of caller one ≡ true → (one.is_open ≡ true) × (one.caller ≡ caller)
open_both caller one is = (
  first_so one.is_open (is_same_text one.caller caller) is,
  (bytes_decides one.caller caller).0 (second_so one.is_open (is_same_text one.caller caller) is),
)

open_so : (caller : List ℕ) (one : Asked) → one.is_open ≡ true → one.caller ≡ caller → is_open_of caller one ≡ true
open_so caller one is same_caller =
    ap (λ (b : Bool). b && is_same_text one.caller caller) is ∙ (bytes_decides one.caller caller).1 same_caller

module _ (slots : List Asked) (index : Index) (own : AreIndexed slots index) where
  place_of_one : (caller : List ℕ) (number j : ℕ) (y : Asked) → slice_get slots j ≡ Some y → is_of caller number y ≡ true → place_in index caller number ≡ Some j
  place_of_one caller number j y there is =
      let both = is_of_both caller number y is in
      sym (ap (λ (name : List ℕ). place_in index name number) both.0) ∙ sym (ap (place_in index y.caller) both.1) ∙ own.found j y there

  latest_of_one : (caller : List ℕ) (j : ℕ) (y : Asked) → slice_get slots j ≡ Some y → is_open_of caller y ≡ true → latest_in index caller ≡ Some j
  latest_of_one caller j y there is =
      let both = open_both caller y is in
      sym (ap (latest_in index) both.1) ∙ own.opened j y there both.0

  pub slot_none : (caller : List ℕ) (number : ℕ) → place_in index caller number ≡ None → position (is_of caller number) slots ≡ None
  slot_none caller number none = position_none (is_of caller number) slots
      (λ j y there is. none-some j (sym none ∙ place_of_one caller number j y there is))

  pub slot_some : (caller : List ℕ) (number place : ℕ) → place_in index caller number ≡ Some place → position (is_of caller number) slots ≡ Some place
  slot_some caller number place is =
      let at = own.there caller number place is in
      position_one (is_of caller number) slots place at.0 at.1 (is_of_so caller number at.0 at.2 at.3)
      (λ j y there passes. same_some j place (sym (place_of_one caller number j y there passes) ∙ is))

  pub answer_none : (caller : List ℕ) (number : ℕ) → place_in index caller number ≡ None → answer_of slots caller number ≡ None
  answer_none caller number none =
      ap (λ (o : Option Asked). option_and_then (λ (one : Asked). one.last) o)
      (find_none (is_of caller number) slots (λ j y there is. none-some j (sym none ∙ place_of_one caller number j y there is)))

  pub answer_some : (caller : List ℕ) (number place : ℕ) (slot : Asked) → place_in index caller number ≡ Some place → slot ≡ get_or slots place slot
      → answer_of slots caller number ≡ slot.last
  answer_some caller number place slot is read =
      let at = own.there caller number place is in
      let same : at.0 ≡ slot = sym (read ∙ get_or_from_slice_get slots place at.0 slot at.1) in
      ap (λ (o : Option Asked). option_and_then (λ (one : Asked). one.last) o)
      (find_one (is_of caller number) slots place at.0 at.1 (is_of_so caller number at.0 at.2 at.3)
      (λ j y there' passes. same_some j place (sym (place_of_one caller number j y there' passes) ∙ is)))
      ∙ ap (λ (one : Asked). one.last) same

  pub open_none : (caller : List ℕ) → latest_in index caller ≡ None → open_of slots caller ≡ None
  open_none caller none = ap (option_map (λ (one : Asked). one.number))
      (find_none (is_open_of caller) slots (λ j y there is. none-some j (sym none ∙ latest_of_one caller j y there is)))

  pub open_some : (caller : List ℕ) (place : ℕ) (slot : Asked) → latest_in index caller ≡ Some place → slot ≡ get_or slots place slot
      → open_of slots caller ≡ cond slot.is_open (Some slot.number) None
  open_some caller place slot is read = on slot.is_open refl
    where
      at : (one : Asked) × (slice_get slots place ≡ Some one) × (one.caller ≡ caller)
      at = own.latest_there caller place is

      same : slot ≡ at.0
      same = read ∙ get_or_from_slice_get slots place at.0 slot at.1

      there : slice_get slots place ≡ Some slot
      there = at.1 ∙ ap Some (sym same)

      alone : (j : ℕ) (y : Asked) → slice_get slots j ≡ Some y → is_open_of caller y ≡ true → j ≡ place
      alone j y there' passes = same_some j place (sym (latest_of_one caller j y there' passes) ∙ is)

      on : (b : Bool) → slot.is_open ≡ b → open_of slots caller ≡ cond b (Some slot.number) None
      on true e = ap (option_map (λ (one : Asked). one.number))
          (find_one (is_open_of caller) slots place slot there (open_so caller slot e (ap (λ (one : Asked). one.caller) same ∙ at.2)) alone)
      on false e = ap (option_map (λ (one : Asked). one.number))
          (find_none (is_open_of caller) slots (λ j y there' passes.
          true≢false (sym (open_both caller y passes).0
          ∙ ap (λ (one : Asked). one.is_open) (same_some y slot (sym there' ∙ ap (slice_get slots) (alone j y there' passes) ∙ there)) ∙ e)))

  -- the same slots are found by an index that finds the same
  pub found_same : (other : Index) → IsPaired other → FindsSame index other → AreIndexed slots other
  found_same other paired finds = record {
    paired = paired;
    found = λ place slot there. finds.places slot.caller slot.number ∙ own.found place slot there;
    there = λ caller number place is. own.there caller number place (sym (finds.places caller number) ∙ is);
    opened = λ place slot there is. finds.latest slot.caller ∙ own.opened place slot there is;
    latest_there = λ caller place is. own.latest_there caller place (sym (finds.latest caller) ∙ is);
  }

-- a slot changed

same_place : (j place : ℕ) → (j ≡ place) ⊎ (j ≡ place → ⊥)
same_place j place = on (nat_eq j place) refl
  where
    on : (b : Bool) → nat_eq j place ≡ b → (j ≡ place) ⊎ (j ≡ place → ⊥)
    on true e = inl (eqb-true j place e)
    on false e = inr (λ same. true≢false (sym (eq-eqb j place same) ∙ e))

module _ (slots : List Asked) (index : Index) (own : AreIndexed slots index) (place : ℕ) (one other : Asked) (there : slice_get slots place ≡ Some one)
    (caller : other.caller ≡ one.caller) (number : other.number ≡ one.number) where
  abbrev changed : List Asked
  changed = slice_set slots place other

  now : slice_get changed place ≡ Some other
  now = get_set slots place one other there

  -- what stands at a place then
  before : (j : ℕ) (y : Asked) → slice_get changed j ≡ Some y
      → ((j ≡ place) × (y ≡ other)) ⊎ ((j ≡ place → ⊥) × (slice_get slots j ≡ Some y))
  before j y at = ⊎_elim (λ same. inl (same, same_some y other (sym at ∙ ap (slice_get changed) same ∙ now)))
      (λ apart. inr (apart, sym (get_other slots place j other (λ same. apart (sym same))) ∙ at)) (same_place j place)

  -- and what stood there
  after : (j : ℕ) (y : Asked) → slice_get slots j ≡ Some y → (z : Asked) × (slice_get changed j ≡ Some z) × (z.caller ≡ y.caller) × (z.number ≡ y.number)
  after j y at = ⊎_elim (λ same.
      (let is : one ≡ y = same_some one y (sym there ∙ ap (slice_get slots) (sym same) ∙ at) in
      (other, ap (slice_get changed) same ∙ now, caller ∙ ap (λ (x : Asked). x.caller) is, number ∙ ap (λ (x : Asked). x.number) is)))
      (λ apart. (y, get_other slots place j other (λ same. apart (sym same)) ∙ at, refl, refl)) (same_place j place)

  found_still : (j : ℕ) (y : Asked) → slice_get changed j ≡ Some y → place_in index y.caller y.number ≡ Some j
  found_still j y at = ⊎_elim (λ h.
      ap (λ (x : Asked). place_in index x.caller x.number) h.1 ∙ ap (λ (name : List ℕ). place_in index name other.number) caller
      ∙ ap (place_in index one.caller) number ∙ own.found place one there ∙ ap Some (sym h.0))
      (λ h. own.found j y h.1) (before j y at)

  there_still : (name : List ℕ) (n j : ℕ) → place_in index name n ≡ Some j
      → (slot : Asked) × (slice_get changed j ≡ Some slot) × (slot.caller ≡ name) × (slot.number ≡ n)
  there_still name n j is =
      let at = own.there name n j is in
      let z = after j at.0 at.1 in
      (z.0, z.1, z.2 ∙ at.2, z.3 ∙ at.3)

  latest_still : (name : List ℕ) (j : ℕ) → latest_in index name ≡ Some j → (slot : Asked) × (slice_get changed j ≡ Some slot) × (slot.caller ≡ name)
  latest_still name j is =
      let at = own.latest_there name j is in
      let z = after j at.0 at.1 in
      (z.0, z.1, z.2 ∙ at.2)

  -- it isn't open
  closed_slot : other.is_open ≡ false → AreIndexed changed index
  closed_slot closed = record {
    paired = own.paired;
    found = found_still;
    there = there_still;
    opened = λ j y at is. ⊎_elim (λ h. absurd (true≢false (sym is ∙ ap (λ (x : Asked). x.is_open) h.1 ∙ closed))) (λ h. own.opened j y h.1 is) (before j y at);
    latest_there = latest_still;
  }

  -- it is open where it was
  kept_slot : other.is_open ≡ one.is_open → AreIndexed changed index
  kept_slot same = record {
    paired = own.paired;
    found = found_still;
    there = there_still;
    opened = λ j y at is. ⊎_elim
        (λ h. ap (λ (x : Asked). latest_in index x.caller) h.1 ∙ ap (latest_in index) caller
        ∙ own.opened place one there (sym same ∙ sym (ap (λ (x : Asked). x.is_open) h.1) ∙ is) ∙ ap Some (sym h.0))
        (λ h. own.opened j y h.1 is) (before j y at);
    latest_there = latest_still;
  }

  -- it is open, and its caller had no open call
  open_slot : (later : Index) → IsPaired later → NotesOpen index later one.caller place → open_of slots one.caller ≡ None → AreIndexed changed later
  open_slot later paired notes none = record {
    paired = paired;
    found = λ j y at. notes.places y.caller y.number ∙ found_still j y at;
    there = λ name n j is. there_still name n j (sym (notes.places name n) ∙ is);
    opened = opened_now;
    latest_there = λ name j is. latest_now name j is (is_same_text one.caller name) refl;
  }
    where
      opened_now : (j : ℕ) (y : Asked) → slice_get changed j ≡ Some y → y.is_open ≡ true → latest_in later y.caller ≡ Some j
      opened_now j y at is = ⊎_elim
          (λ h. notes.latest y.caller
          ∙ ap (λ (b : Bool). cond b (Some place) (latest_in index y.caller)) ((bytes_decides one.caller y.caller).1 (sym (ap (λ (x : Asked). x.caller) h.1 ∙ caller)))
          ∙ ap Some (sym h.0))
          (λ h. notes.latest y.caller
          ∙ ap (λ (b : Bool). cond b (Some place) (latest_in index y.caller)) (others j y h.1 is (is_same_text one.caller y.caller) refl)
          ∙ own.opened j y h.1 is) (before j y at)
        where
          others : (k : ℕ) (z : Asked) → slice_get slots k ≡ Some z → z.is_open ≡ true → (b : Bool) → is_same_text one.caller z.caller ≡ b → b ≡ false
          others k z at' is' false e = refl
          others k z at' is' true e = absurd (none-some z.number
              (sym none ∙ ap (option_map (λ (x : Asked). x.number))
              (find_one (is_open_of one.caller) slots k z at' (open_so one.caller z is' (sym ((bytes_decides one.caller z.caller).0 e)))
              (λ i w there' passes. same_some i k (sym (latest_of_one slots index own one.caller i w there' passes)
              ∙ ap (latest_in index) ((bytes_decides one.caller z.caller).0 e) ∙ own.opened k z at' is')))))

      latest_now : (name : List ℕ) (j : ℕ) → latest_in later name ≡ Some j → (b : Bool) → is_same_text one.caller name ≡ b
          → (slot : Asked) × (slice_get changed j ≡ Some slot) × (slot.caller ≡ name)
      latest_now name j is true e =
          let here : place ≡ j = same_some place j (sym (notes.latest name ∙ ap (λ (b : Bool). cond b (Some place) (latest_in index name)) e) ∙ is) in
          (other, ap (slice_get changed) (sym here) ∙ now, caller ∙ (bytes_decides one.caller name).0 e)
      latest_now name j is false e =
          latest_still name j (sym (notes.latest name ∙ ap (λ (b : Bool). cond b (Some place) (latest_in index name)) e) ∙ is)

-- a slot answered, noted, opened, added

pub answered_indexed : (slots : List Asked) (index : Index) (place : ℕ) (answer : Answer) → AreIndexed slots index → AreIndexed (answered_at place answer slots) index
answered_indexed slots index place answer own = on (slice_get slots place) refl
  where
    on : (o : Option Asked) → slice_get slots place ≡ o
        → AreIndexed (option_map_or (λ (one : Asked). slice_set slots place (answered_one answer one)) o slots) index
    on None is = own
    on (Some one) is = closed_slot slots index own place one (answered_one answer one) is refl refl refl

pub noted_indexed : (slots : List Asked) (index : Index) (place : ℕ) (answer : Answer) → AreIndexed slots index → AreIndexed (noted_at place answer slots) index
noted_indexed slots index place answer own = on (slice_get slots place) refl
  where
    on : (o : Option Asked) → slice_get slots place ≡ o
        → AreIndexed (option_map_or (λ (one : Asked). slice_set slots place (noted_one answer one)) o slots) index
    on None is = own
    on (Some one) is = kept_slot slots index own place one (noted_one answer one) is refl refl refl

pub opened_indexed : (slots : List Asked) (index later : Index) (place : ℕ) (last : Option Answer) (name : List ℕ) → AreIndexed slots index
    → MatchOption (slice_get slots place) ⊥ (λ slot. slot.caller ≡ name) → open_of slots name ≡ None → IsPaired later → NotesOpen index later name place
    → AreIndexed (opened_at last place slots) later
opened_indexed slots index later place last name own named closed paired notes = on (slice_get slots place) refl named
  where
    on : (o : Option Asked) → slice_get slots place ≡ o → MatchOption o ⊥ (λ slot. slot.caller ≡ name)
        → AreIndexed (option_map_or (λ (one : Asked). slice_set slots place (opened_one last one)) o slots) later
    on None is nobody = absurd nobody
    on (Some one) is same =
        open_slot slots index own place one (opened_one last one) is refl refl later paired
        (subst (λ (caller : List ℕ). NotesOpen index later caller place) (sym same) notes)
        (ap (open_of slots) same ∙ closed)

pub named_known : (slots : List Asked) (index : Index) (place : ℕ) (name : List ℕ) → AreIndexed slots index
    → MatchOption (slice_get slots place) ⊥ (λ slot. slot.caller ≡ name) → IsKnown index name
named_known slots index place name own named = on (slice_get slots place) refl named
  where
    is_there : (o : Option Calls) (f : Calls → Option ℕ) (j : ℕ) → option_and_then f o ≡ Some j → is_some o ≡ true
    is_there None f j is = absurd (none-some j is)
    is_there (Some calls) f j is = refl

    on : (o : Option Asked) → slice_get slots place ≡ o → MatchOption o ⊥ (λ slot. slot.caller ≡ name) → IsKnown index name
    on None is nobody = absurd nobody
    on (Some one) is same = is_there (calls_among index name) _ place
        (sym (ap (λ (caller : List ℕ). place_in index caller one.number) same) ∙ own.found place one is)

pub named_within : (slots : List Asked) (place : ℕ) (name : List ℕ) → MatchOption (slice_get slots place) ⊥ (λ slot. slot.caller ≡ name) → place < length slots
named_within slots place name named = on (slice_get slots place) refl named
  where
    on : (o : Option Asked) → slice_get slots place ≡ o → MatchOption o ⊥ (λ slot. slot.caller ≡ name) → place < length slots
    on None is nobody = absurd nobody
    on (Some one) is same = slice_get_within slots place one is

-- numbers compared by their order

eq_number : (a b : ℕ) → is_eq (nat_cmp a b) ≡ true → a ≡ b
eq_number a b is = on (nat_cmp a b) (ranks a b) is
  where
    on : (r : Ordering) → MatchOrdering r (a < b) (a ≡ b) (b < a) → is_eq r ≡ true → a ≡ b
    on Less so e = absurd (true≢false (sym e))
    on Equal so e = so
    on Greater so e = absurd (true≢false (sym e))

same_number : (a : ℕ) → is_eq (nat_cmp a a) ≡ true
same_number a = ap is_eq (sym (nat_cmp_is a a Equal refl))

module _ (slots : List Asked) (index later : Index) (new : Asked) (closed : new.is_open ≡ false) (own : AreIndexed slots index)
    (none : position (is_of new.caller new.number) slots ≡ None)
    (paired : IsPaired later) (notes : NotesPlace index later new.caller new.number (length slots)) where
  abbrev pub more : List Asked
  more = slots ++ new ∷ []

  -- what stands at a place then
  at_place : (j : ℕ) (y : Asked) → slice_get more j ≡ Some y → ((j ≡ length slots) × (y ≡ new)) ⊎ (slice_get slots j ≡ Some y)
  at_place j y at = on (nat_lt j (length slots)) refl
    where
      longer : length more ≡ length slots + 1
      longer = length-append slots (new ∷ [])

      on : (b : Bool) → nat_lt j (length slots) ≡ b → ((j ≡ length slots) × (y ≡ new)) ⊎ (slice_get slots j ≡ Some y)
      on true e = inr (sym (get_front slots j new (ltb-true j (length slots) e)) ∙ at)
      on false e =
          let within = slice_get_within more j y at in
          let high = ltb-false j (length slots) e in
          let size = longer in
          let last_place : j ≡ length slots = omega (arith, within, high, size) in
          inl (last_place, same_some y new (sym at ∙ ap (slice_get more) last_place ∙ get_last slots new))

  still : (j : ℕ) (y : Asked) → slice_get slots j ≡ Some y → slice_get more j ≡ Some y
  still j y at = get_front slots j new (slice_get_within slots j y at) ∙ at

  pub added_indexed : AreIndexed more later
  added_indexed = record {
    paired = paired;
    found = λ j y at. ⊎_elim (λ h. notes.places y.caller y.number
        ∙ ap (λ (x : Asked). cond (is_same_text new.caller x.caller && is_eq (nat_cmp new.number x.number)) (Some (length slots)) (place_in index x.caller x.number)) h.1
        ∙ ap (λ (b : Bool). cond (b && is_eq (nat_cmp new.number new.number)) (Some (length slots)) (place_in index new.caller new.number))
        ((bytes_decides new.caller new.caller).1 refl)
        ∙ ap (λ (b : Bool). cond b (Some (length slots)) (place_in index new.caller new.number)) (same_number new.number)
        ∙ ap Some (sym h.0))
        (λ h. notes.places y.caller y.number
        ∙ ap (λ (b : Bool). cond b (Some (length slots)) (place_in index y.caller y.number)) (others j y h (is_same_text new.caller y.caller && is_eq (nat_cmp new.number y.number)) refl)
        ∙ own.found j y h) (at_place j y at);
    there = λ name n j is. there_now name n j is (is_same_text new.caller name && is_eq (nat_cmp new.number n)) refl;
    opened = λ j y at is. ⊎_elim (λ h. absurd (true≢false (sym is ∙ ap (λ (x : Asked). x.is_open) h.1 ∙ closed))) (λ h. notes.latest y.caller ∙ own.opened j y h is) (at_place j y at);
    latest_there = λ name j is.
        (let at = own.latest_there name j (sym (notes.latest name) ∙ is) in
        (at.0, still j at.0 at.1, at.2));
  }
    where
      others : (j : ℕ) (y : Asked) → slice_get slots j ≡ Some y → (b : Bool) → (is_same_text new.caller y.caller && is_eq (nat_cmp new.number y.number)) ≡ b → b ≡ false
      others j y at false e = refl
      others j y at true e = absurd (none-some j (sym none
          ∙ slot_some slots index own new.caller new.number j
          (ap (λ (name : List ℕ). place_in index name new.number) ((bytes_decides new.caller y.caller).0 (first_so (is_same_text new.caller y.caller) (is_eq (nat_cmp new.number y.number)) e))
          ∙ ap (place_in index y.caller) (eq_number new.number y.number (second_so (is_same_text new.caller y.caller) (is_eq (nat_cmp new.number y.number)) e))
          ∙ own.found j y at)))

      there_now : (name : List ℕ) (n j : ℕ) → place_in later name n ≡ Some j → (b : Bool) → (is_same_text new.caller name && is_eq (nat_cmp new.number n)) ≡ b
          → (slot : Asked) × (slice_get more j ≡ Some slot) × (slot.caller ≡ name) × (slot.number ≡ n)
      there_now name n j is true e =
          let here : length slots ≡ j = same_some (length slots) j
          (sym (notes.places name n ∙ ap (λ (b : Bool). cond b (Some (length slots)) (place_in index name n)) e) ∙ is) in (
            new,
            ap (slice_get more) (sym here) ∙ get_last slots new,
            (bytes_decides new.caller name).0 (first_so (is_same_text new.caller name) (is_eq (nat_cmp new.number n)) e),
            eq_number new.number n (second_so (is_same_text new.caller name) (is_eq (nat_cmp new.number n)) e),
          )
      there_now name n j is false e =
          let at = own.there name n j (sym (notes.places name n ∙ ap (λ (b : Bool). cond b (Some (length slots)) (place_in index name n)) e) ∙ is) in
          (at.0, still j at.0 at.1, at.2, at.3)

-- where a slot is found is where it is first
pub slot_place : (slots : List Asked) (index : Index) (caller : List ℕ) (number : ℕ) → AreIndexed slots index
    → place_in index caller number ≡ position (is_of caller number) slots
slot_place slots index caller number own = on (place_in index caller number) refl
  where
    on : (o : Option ℕ) → place_in index caller number ≡ o → o ≡ position (is_of caller number) slots
    on None is = sym (slot_none slots index own caller number is)
    on (Some place) is = sym (slot_some slots index own caller number place is)

-- what a push leaves, and what it leaves where memory runs out

pub pushed_indexed : (slots rows seen : List Asked) (index later : Index) (slot read : Asked) (place : ℕ) → AreIndexed slots index → slot.is_open ≡ false
    → position (is_of slot.caller slot.number) slots ≡ None → rows ≡ slots ++ slot ∷ [] → place ≡ length slots → seen ≡ rows
    → IsPaired later → NotesPlace index later (get_or seen place read).caller slot.number place → AreIndexed rows later
pushed_indexed slots rows seen index later slot read place own closed none rows_are at is paired notes =
    let same : get_or seen place read ≡ slot = ap (λ (l : List Asked). get_or l place read) (is ∙ rows_are) ∙ get_or_push slots slot read place (sym at) in
    let noted : NotesPlace index later slot.caller slot.number (length slots) =
    subst (λ (n : ℕ). NotesPlace index later slot.caller slot.number n) at
    (subst (λ (one : Asked). NotesPlace index later one.caller slot.number place) same notes) in
    subst (λ (l : List Asked). AreIndexed l later) (sym rows_are) (added_indexed slots index later slot closed own none paired noted)

pub unpushed_indexed : (slots rows kept : List Asked) (index later : Index) (slot : Asked) (place : ℕ) → AreIndexed slots index
    → rows ≡ slots ++ slot ∷ [] → place ≡ length slots → kept ≡ take place rows → IsPaired later → FindsSame index later → AreIndexed kept later
unpushed_indexed slots rows kept index later slot place own rows_are at is paired finds =
    subst (λ (l : List Asked). AreIndexed l later)
    (sym (is ∙ ap (take place) rows_are ∙ ap (λ (n : ℕ). take n (slots ++ slot ∷ [])) at ∙ take-append_seam slots (slot ∷ [])))
    (found_same slots index own later paired finds)
