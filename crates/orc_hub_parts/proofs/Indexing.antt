-- What an index finds where the slots of one caller changed.
use Rattle.std.proofs.Common.{◌≡◌, ℕ, zero, suc, ◌+◌, ◌<◌, ◌≤◌, Bool, true, false, ◌&&◌, ◌||◌, not, cond, take, drop, List, [], ◌∷◌, ◌++◌, Option, None, Some, length, get_or, set, refl, sym, ap, subst, ◌∙◌, arith, length-set, true≢false}
use Rattle.std.specs.Prelude.{slice_get, slice_set, is_some}
use Rattle.std.specs.BTreeMap.{get, IsEmpty}
use Rattle.std.specs.List.{list_any, position_or_len}
use Rattle.std.specs.Option.{option_and_then}
use Rattle.std.specs.Ordering.{is_eq, nat_cmp}
use Rattle.std.specs.Cmp.Lexicographic.{bytes_decides}
use Rattle.std.proofs.Math.Seq.{take-append_seam}
use Rattle.std.proofs.lemmas.List.Quantifiers.{position-Some}
use Rattle.std.specs.Map.{lookup}
use Rattle.std.proofs.lemmas.List.{length-append}
use Rattle.std.proofs.lemmas.Option.{none-some}
use Rattle.orc_decls.specs.Devices.{is_same_text}
use Rattle.orc_decls.specs.Names.{place_of, with_name}
use Rattle.orc_hub_parts.proofs.Positions.{found_before_last, found_last, none_before}
use Rattle.orc_hub_parts.specs.declared.index.Calls.{Calls}
use Rattle.orc_hub_parts.specs.declared.index.Index.{Index}
use Rattle.orc_hub_parts.specs.inside.Indexed.{ChangesRow, FindsSame, IsPaired, KeepsCalls, NotesCall, NotesOpen, NotesPlace, OpensCall, calls_among, latest_in, place_in, with_caller}

-- lists

pub get_set : {X : Type 0} (xs : List X) (i : ℕ) (x y : X) → slice_get xs i ≡ Some x → slice_get (slice_set xs i y) i ≡ Some y
get_set [] i x y there = absurd (none-some x there)
get_set (z ∷ xs) zero x y there = refl
get_set (z ∷ xs) (suc i) x y there = get_set xs i x y there

pub get_other : {X : Type 0} (xs : List X) (i j : ℕ) (y : X) → (i ≡ j → ⊥) → slice_get (slice_set xs i y) j ≡ slice_get xs j
get_other [] i j y apart = refl
get_other (z ∷ xs) zero zero y apart = absurd (apart refl)
get_other (z ∷ xs) zero (suc j) y apart = refl
get_other (z ∷ xs) (suc i) zero y apart = refl
get_other (z ∷ xs) (suc i) (suc j) y apart = get_other xs i j y (λ same. apart (ap suc same))

pub get_front : {X : Type 0} (xs : List X) (i : ℕ) (y : X) → i < length xs → slice_get (xs ++ y ∷ []) i ≡ slice_get xs i
get_front [] i y below = absurd (omega (arith, below))
get_front (z ∷ xs) zero y below = refl
get_front (z ∷ xs) (suc i) y below = get_front xs i y (omega (arith, below))

pub get_last : {X : Type 0} (xs : List X) (y : X) → slice_get (xs ++ y ∷ []) (length xs) ≡ Some y
get_last [] y = refl
get_last (z ∷ xs) y = get_last xs y

-- a list written over whole
pub whole : {X : Type 0} (old new : List X) → length new ≡ length old → take (length old) (new ++ drop (length new) old) ≡ new
whole old new same_length =
    ap (λ (n : ℕ). take n (new ++ drop (length new) old)) (sym same_length) ∙ take-append_seam new (drop (length new) old)

-- nothing passes where no first one does
none_passes : {X : Type 0} (p : X → Bool) (xs : List X) → length xs ≤ position_or_len p xs → list_any p xs ≡ false
none_passes p [] long = refl
none_passes p (x ∷ xs) long = on (p x) refl (λ later. none_passes p xs later)
  where
    more : (b : Bool) → p x ≡ b → suc (length xs) ≤ cond (not b) (1 + position_or_len p xs) 0
    more b e = subst (λ (c : Bool). suc (length xs) ≤ cond (not c) (1 + position_or_len p xs) 0) e long

    on : (b : Bool) → p x ≡ b → (length xs ≤ position_or_len p xs → list_any p xs ≡ false) → list_any p (x ∷ xs) ≡ false
    on true e rest = absurd (let past = more true e in omega (arith, past))
    on false e rest = ap (λ (b : Bool). b || list_any p xs) e ∙ rest (let past = more false e in omega (arith, past))

same : (a b : List ℕ) → is_same_text a b ≡ true → a ≡ b
same a b = (bytes_decides a b).0

self : (a : List ℕ) → is_same_text a a ≡ true
self a = (bytes_decides a a).1 refl

pub added_name : (names : List (List ℕ)) (name : List ℕ) → place_of names name ≡ None → with_name names name ≡ names ++ name ∷ []
added_name names name none =
    ap (λ (b : Bool). cond b names (names ++ name ∷ [])) (none_passes (is_same_text name) names (none_before (is_same_text name) names none))

-- where the slots of one caller are these, and those of the others as they were

abbrev Puts : Index → Index → List ℕ → Calls → Type 0
Puts old new caller calls = (other : List ℕ) → calls_among new other ≡ cond (is_same_text caller other) (Some calls) (calls_among old other)

-- the first name that is one is at one place
one_place : (names : List (List ℕ)) (a b : List ℕ) (k j : ℕ) → place_of names a ≡ Some k → place_of names b ≡ Some j → (a ≡ b → ⊥) → k ≡ j → ⊥
one_place names a b k j at_a at_b apart same_place =
    let here = position-Some (is_same_text a) names k [] at_a in
    let there = position-Some (is_same_text b) names j [] at_b in
    apart (same a (get_or names k []) here.1 ∙ ap (λ (n : ℕ). get_or names n []) same_place ∙ sym (same b (get_or names j []) there.1))

module _ (old new : Index) (caller : List ℕ) (calls : Calls) where
  row_puts : (k : ℕ) (before : Calls) → place_of old.callers caller ≡ Some k → slice_get old.rows k ≡ Some before
      → new.callers ≡ old.callers → new.rows ≡ slice_set old.rows k calls → Puts old new caller calls
  row_puts k before at there callers rows other =
      ap (λ (names : List (List ℕ)). option_and_then (λ (j : ℕ). slice_get new.rows j) (place_of names other)) callers
      ∙ ap (λ (items : List Calls). option_and_then (λ (j : ℕ). slice_get items j) (place_of old.callers other)) rows
      ∙ on (is_same_text caller other) refl
    where
      set_rows : List Calls
      set_rows = slice_set old.rows k calls

      on : (b : Bool) → is_same_text caller other ≡ b
          → option_and_then (λ (j : ℕ). slice_get set_rows j) (place_of old.callers other) ≡ cond b (Some calls) (calls_among old other)
      on true e =
          ap (λ (name : List ℕ). option_and_then (λ (j : ℕ). slice_get set_rows j) (place_of old.callers name)) (sym (same caller other e))
          ∙ ap (λ (o : Option ℕ). option_and_then (λ (j : ℕ). slice_get set_rows j) o) at
          ∙ get_set old.rows k before calls there
      on false e = found (place_of old.callers other) refl
        where
          found : (o : Option ℕ) → place_of old.callers other ≡ o
              → option_and_then (λ (j : ℕ). slice_get set_rows j) o ≡ option_and_then (λ (j : ℕ). slice_get old.rows j) o
          found None is = refl
          found (Some j) is = get_other old.rows k j calls (one_place old.callers caller other k j at is
              (λ equal. true≢false (sym (self caller) ∙ ap (is_same_text caller) equal ∙ e)))

  caller_puts : place_of old.callers caller ≡ None → IsPaired old → new ≡ with_caller old caller calls → Puts old new caller calls
  caller_puts none paired is other = ap (λ (index : Index). calls_among index other) is ∙ on (is_same_text caller other) refl
    where
      rows : List Calls
      rows = old.rows ++ calls ∷ []

      on : (b : Bool) → is_same_text caller other ≡ b → calls_among (with_caller old caller calls) other ≡ cond b (Some calls) (calls_among old other)
      on true e =
          ap (λ (name : List ℕ). calls_among (with_caller old caller calls) name) (sym (same caller other e))
          ∙ ap (λ (o : Option ℕ). option_and_then (λ (j : ℕ). slice_get rows j) o) (found_last (is_same_text caller) old.callers caller none (self caller))
          ∙ ap (slice_get rows) (sym paired) ∙ get_last old.rows calls
      on false e =
          ap (λ (o : Option ℕ). option_and_then (λ (j : ℕ). slice_get rows j) o) (found_before_last (is_same_text other) old.callers caller (differs (is_same_text other caller) refl))
          ∙ found (place_of old.callers other) refl
        where
          differs : (b : Bool) → is_same_text other caller ≡ b → b ≡ false
          differs false is' = refl
          differs true is' = absurd (true≢false (sym (self caller) ∙ ap (is_same_text caller) (sym (same other caller is')) ∙ e))

          found : (o : Option ℕ) → place_of old.callers other ≡ o
              → option_and_then (λ (j : ℕ). slice_get rows j) o ≡ option_and_then (λ (j : ℕ). slice_get old.rows j) o
          found None is' = refl
          found (Some j) is' = get_front old.rows j calls
              (subst (λ (n : ℕ). j < n) (sym paired) (position-Some (is_same_text other) old.callers j [] is').0)

  -- what is found then

  notes_place : (before : Option Calls) (number place : ℕ) → Puts old new caller calls → calls_among old caller ≡ before
      → ((n : ℕ) → get nat_cmp calls.places n ≡ cond (is_eq (nat_cmp number n)) (Some place) (option_and_then (λ (c : Calls). get nat_cmp c.places n) before))
      → calls.latest ≡ option_and_then (λ (c : Calls). c.latest) before
      → NotesPlace old new caller number place
  notes_place before number place puts was noted latest = record {
    places = λ other n. ap (option_and_then (λ (c : Calls). get nat_cmp c.places n)) (puts other) ∙ at other n (is_same_text caller other) refl;
    latest = λ other. ap (option_and_then (λ (c : Calls). c.latest)) (puts other) ∙ late other (is_same_text caller other) refl;
  }
    where
      at : (other : List ℕ) (n : ℕ) (b : Bool) → is_same_text caller other ≡ b
          → option_and_then (λ (c : Calls). get nat_cmp c.places n) (cond b (Some calls) (calls_among old other))
          ≡ cond (b && is_eq (nat_cmp number n)) (Some place) (place_in old other n)
      at other n false e = refl
      at other n true e = noted n ∙ ap (λ (o : Option Calls). cond (is_eq (nat_cmp number n)) (Some place) (option_and_then (λ (c : Calls). get nat_cmp c.places n) o))
          (sym was ∙ ap (calls_among old) (same caller other e))

      late : (other : List ℕ) (b : Bool) → is_same_text caller other ≡ b
          → option_and_then (λ (c : Calls). c.latest) (cond b (Some calls) (calls_among old other)) ≡ latest_in old other
      late other false e = refl
      late other true e = latest ∙ ap (option_and_then (λ (c : Calls). c.latest)) (sym was ∙ ap (calls_among old) (same caller other e))

  finds_same : (before : Calls) → Puts old new caller calls → calls_among old caller ≡ Some before → KeepsCalls before calls → FindsSame old new
  finds_same before puts was keeps = record {
    places = λ other n. ap (option_and_then (λ (c : Calls). get nat_cmp c.places n)) (puts other) ∙ at other n (is_same_text caller other) refl;
    latest = λ other. ap (option_and_then (λ (c : Calls). c.latest)) (puts other) ∙ late other (is_same_text caller other) refl;
  }
    where
      at : (other : List ℕ) (n : ℕ) (b : Bool) → is_same_text caller other ≡ b
          → option_and_then (λ (c : Calls). get nat_cmp c.places n) (cond b (Some calls) (calls_among old other)) ≡ place_in old other n
      at other n false e = refl
      at other n true e = keeps.1 n ∙ ap (option_and_then (λ (c : Calls). get nat_cmp c.places n)) (sym was ∙ ap (calls_among old) (same caller other e))

      late : (other : List ℕ) (b : Bool) → is_same_text caller other ≡ b
          → option_and_then (λ (c : Calls). c.latest) (cond b (Some calls) (calls_among old other)) ≡ latest_in old other
      late other false e = refl
      late other true e = keeps.0 ∙ ap (option_and_then (λ (c : Calls). c.latest)) (sym was ∙ ap (calls_among old) (same caller other e))

  notes_open : (before : Calls) (place : ℕ) → Puts old new caller calls → calls_among old caller ≡ Some before → OpensCall place before calls
      → NotesOpen old new caller place
  notes_open before place puts was opens = record {
    latest = λ other. ap (option_and_then (λ (c : Calls). c.latest)) (puts other) ∙ late other (is_same_text caller other) refl;
    places = λ other n. ap (option_and_then (λ (c : Calls). get nat_cmp c.places n)) (puts other) ∙ at other n (is_same_text caller other) refl;
  }
    where
      late : (other : List ℕ) (b : Bool) → is_same_text caller other ≡ b
          → option_and_then (λ (c : Calls). c.latest) (cond b (Some calls) (calls_among old other)) ≡ cond b (Some place) (latest_in old other)
      late other false e = refl
      late other true e = ap (λ (c : Calls). c.latest) opens

      at : (other : List ℕ) (n : ℕ) (b : Bool) → is_same_text caller other ≡ b
          → option_and_then (λ (c : Calls). get nat_cmp c.places n) (cond b (Some calls) (calls_among old other)) ≡ place_in old other n
      at other n false e = refl
      at other n true e = ap (λ (c : Calls). get nat_cmp c.places n) opens
          ∙ ap (option_and_then (λ (c : Calls). get nat_cmp c.places n)) (sym was ∙ ap (calls_among old) (same caller other e))

-- a change at the place of a caller

was_there : (old : Index) (caller : List ℕ) (k : ℕ) (before : Calls) → place_of old.callers caller ≡ Some k → slice_get old.rows k ≡ Some before
    → calls_among old caller ≡ Some before
was_there old caller k before at there = ap (option_and_then (λ (j : ℕ). slice_get old.rows j)) at ∙ there

pub noted_at : (old new : Index) (caller : List ℕ) (k number place : ℕ) → place_of old.callers caller ≡ Some k → new.callers ≡ old.callers
    → ChangesRow old.rows new.rows k (NotesCall number place) → NotesPlace old new caller number place
noted_at old new caller k number place at callers (before, calls, there, rows, notes) =
    notes_place old new caller calls (Some before) number place (row_puts old new caller calls k before at there callers rows)
    (was_there old caller k before at there) notes.1 notes.0

pub kept_at : (old new : Index) (caller : List ℕ) (k : ℕ) → place_of old.callers caller ≡ Some k → new.callers ≡ old.callers
    → ChangesRow old.rows new.rows k KeepsCalls → FindsSame old new
kept_at old new caller k at callers (before, calls, there, rows, keeps) =
    finds_same old new caller calls before (row_puts old new caller calls k before at there callers rows) (was_there old caller k before at there) keeps

pub opened_there : (old new : Index) (caller : List ℕ) (k place : ℕ) → place_of old.callers caller ≡ Some k → new.callers ≡ old.callers
    → ChangesRow old.rows new.rows k (OpensCall place) → NotesOpen old new caller place
opened_there old new caller k place at callers (before, calls, there, rows, opens) =
    notes_open old new caller calls before place (row_puts old new caller calls k before at there callers rows) (was_there old caller k before at there) opens

-- a new caller

pub noted_first : (old new : Index) (caller : List ℕ) (number place : ℕ) (empty calls : Calls) → place_of old.callers caller ≡ None → IsPaired old
    → empty.latest ≡ None → IsEmpty empty.places → NotesCall number place empty calls → new ≡ with_caller old caller calls
    → NotesPlace old new caller number place
noted_first old new caller number place empty calls none paired closed nothing notes is =
    notes_place old new caller calls None number place (caller_puts old new caller calls none paired is)
    (ap (option_and_then (λ (j : ℕ). slice_get old.rows j)) none)
    (λ n. notes.1 n ∙ ap (λ (o : Option ℕ). cond (is_eq (nat_cmp number n)) (Some place) o) (none_in n)) (notes.0 ∙ closed)
  where
    none_in : (n : ℕ) → get nat_cmp empty.places n ≡ None
    none_in n = ap (λ (entries : List (ℕ × ℕ)). lookup (λ (key : ℕ). is_eq (nat_cmp n key)) entries) nothing

-- as many rows
pub row_length : (old new : List Calls) (k : ℕ) (IsSo : Calls → Calls → Type 0) → ChangesRow old new k IsSo → length new ≡ length old
row_length old new k IsSo (before, calls, there, rows, so) = ap length rows ∙ length-set old k calls
