-- Marks of devices, one after another.
use Rattle.std.proofs.Common.{◌≡◌, ℕ, zero, suc, ◌+◌, ◌<◌, ◌≤◌, ◌^◌, ◌==◌, Bool, true, false, cond, ◌&&◌, ◌||◌, ◌≢◌, ◌⊎◌, List, [], ◌∷◌, ◌++◌, length, slice_set, Some, None, inl, inr, refl, sym, subst, ap, ◌∙◌, arith}
use Rattle.std.specs.List.{filter, list_any, position, IsDistinct}
use Rattle.std.specs.Ordering.{eq_by_cmp}
use Rattle.orc_path.specs.Order.{path_cmp}
use Rattle.orc_path.specs.Steps.{PathStep}
use Rattle.std.proofs.lemmas.List.{length-append}
use Rattle.std.proofs.lemmas.Bool.{false≢true, eq-eqb, ne_eqb}
use Rattle.std.proofs.lemmas.Bool.Decides.{eqb_tells}
use Rattle.std.proofs.Math.Bool.{and-false, and-true, or-false, or-true}
use Rattle.std.specs.declared.option.Option.{Option}
use Rattle.std.specs.FinMap.{keys, contains_key-keys}
use Rattle.orc_path.specs.Configurations.{Config, is_entry_of, list_of}
use Rattle.orc_path.proofs.ConfigurationLaws.{path_ties, same_path}
use Rattle.orc_decls.specs.Devices.{is_same_text, name_of}
use Rattle.orc_datastore.specs.Snapshots.{device_row}
use Rattle.orc_datastore.specs.inside.Marks.{AddsMarks, MarksRow, is_marked}
use Rattle.orc_datastore.specs.inside.Sights.{device_list, knows_device}
use Rattle.orc_datastore.proofs.Spreading.{named_at, some_same, unnamed}

abbrev Tells : ℕ → ℕ → Type 0
Tells n d = (((n == d) ≡ true) × (n ≡ d)) ⊎ (((n == d) ≡ false) × (n ≢ d))

-- none at first

pub pushed_clear : (marks : List Bool) → ((d : ℕ) → is_marked marks d ≡ false) → (d : ℕ) → is_marked (marks ++ false ∷ []) d ≡ false
pushed_clear [] h zero = refl
pushed_clear [] h (suc d) = refl
pushed_clear (m ∷ marks) h zero = h 0
pushed_clear (m ∷ marks) h (suc d) = pushed_clear marks (λ k. h (suc k)) d

pub record AreClear (marks : List Bool) (n : ℕ) : Type 0 where
  pub len : length marks ≡ n
  pub none : (d : ℕ) → is_marked marks d ≡ false

pub clear_none : (marks : List Bool) → marks ≡ [] → AreClear marks 0
clear_none marks is = record {
  len = ap (λ (l : List Bool). length l) is;
  none = λ d. ap (λ (l : List Bool). is_marked l d) is;
}

pub clear_more : (marks new : List Bool) (n : ℕ) → AreClear marks n → new ≡ marks ++ false ∷ [] → AreClear new (n + 1)
clear_more marks new n clear is = record {
  len = ap (λ (l : List Bool). length l) is ∙ length-append marks (false ∷ []) ∙ ap (λ k. k + 1) clear.len;
  none = λ d. ap (λ (l : List Bool). is_marked l d) is ∙ pushed_clear marks clear.none d;
}

-- one mark

set_mark : (marks : List Bool) (n d : ℕ) → d < length marks → is_marked (slice_set marks n true) d ≡ (is_marked marks d || (n == d))
set_mark [] n d lt = absurd (omega (arith, lt))
set_mark (m ∷ marks) zero zero lt = sym (or-true m)
set_mark (m ∷ marks) zero (suc d) lt =
    let differ : 0 ≡ suc d → ⊥ = λ e. omega (arith, e) in
    sym (or-false (is_marked marks d)) ∙ ap (λ t. is_marked marks d || t) (sym (ne_eqb 0 (suc d) differ))
set_mark (m ∷ marks) (suc n) zero lt =
    let differ : suc n ≡ 0 → ⊥ = λ e. omega (arith, e) in
    sym (or-false m) ∙ ap (λ t. m || t) (sym (ne_eqb (suc n) 0 differ))
set_mark (m ∷ marks) (suc n) (suc d) lt =
    set_mark marks n d (omega (arith, lt)) ∙ ap (λ t. is_marked marks d || t) (same (eqb_tells n d))
  where
    same : Tells n d → (n == d) ≡ (suc n == suc d)
    same (inl e) = e.0 ∙ sym (eq-eqb (suc n) (suc d) (ap suc e.1))
    same (inr e) = e.0 ∙ sym (ne_eqb (suc n) (suc d) (λ h. e.1 (omega (arith, h))))

set_len : (marks : List Bool) (n : ℕ) → length (slice_set marks n true) ≡ length marks
set_len [] n = refl
set_len (m ∷ marks) zero = refl
set_len (m ∷ marks) (suc n) = ap suc (set_len marks n)

pub one_mark : (marks marks' : List Bool) (n : ℕ) → marks' ≡ slice_set marks n true → AddsMarks (λ d. n == d) marks marks'
one_mark marks marks' n is = record {
  len = ap (λ (l : List Bool). length l) is ∙ set_len marks n;
  each = λ d lt. ap (λ (l : List Bool). is_marked l d) is ∙ set_mark marks n d lt;
}

-- a test that passes alike
pub marks_as : (test test' : ℕ → Bool) (marks marks' : List Bool) → ((d : ℕ) → d < length marks → test d ≡ test' d) → AddsMarks test marks marks'
    → AddsMarks test' marks marks'
marks_as test test' marks marks' alike adds = record {
  len = adds.len;
  each = λ d lt. adds.each d lt ∙ ap (λ t. is_marked marks d || t) (alike d lt);
}

-- none passes
pub marks_none : (test : ℕ → Bool) (marks : List Bool) → ((d : ℕ) → d < length marks → test d ≡ false) → AddsMarks test marks marks
marks_none test marks none = record {
  len = refl;
  each = λ d lt. sym (ap (λ t. is_marked marks d || t) (none d lt) ∙ or-false (is_marked marks d));
}

-- two tests, one after the other
pub marks_both : (one two : ℕ → Bool) (marks marks' marks'' : List Bool) → AddsMarks one marks marks' → AddsMarks two marks' marks''
    → AddsMarks (λ d. one d || two d) marks marks''
marks_both one two marks marks' marks'' a b = record {
  len = b.len ∙ a.len;
  each = λ d lt.
      b.each d (omega (arith, lt, a.len)) ∙ ap (λ t. t || two d) (a.each d lt) ∙ assoc (is_marked marks d) (one d) (two d);
}
  where
    assoc : (x y z : Bool) → ((x || y) || z) ≡ (x || (y || z))
    assoc true y z = refl
    assoc false y z = refl

-- names

pub named_marks : (names : List (List ℕ)) (name : List ℕ) (n : ℕ) (marks marks' : List Bool) → IsDistinct is_same_text names
    → position (is_same_text name) names ≡ Some n → length marks ≡ length names → AddsMarks (λ d. n == d) marks marks'
    → AddsMarks (λ d. is_same_text name (name_of names d)) marks marks'
named_marks names name n marks marks' differ is count adds =
    marks_as (λ d. n == d) (λ d. is_same_text name (name_of names d)) marks marks'
    (λ d lt. sym (named_at names name n d differ is (omega (arith, lt, count)))) adds

pub unnamed_marks : (names : List (List ℕ)) (name : List ℕ) (marks : List Bool) → position (is_same_text name) names ≡ None → length marks ≡ length names
    → AddsMarks (λ d. is_same_text name (name_of names d)) marks marks
unnamed_marks names name marks is count =
    marks_none (λ d. is_same_text name (name_of names d)) marks (λ d lt. unnamed names name d is (omega (arith, lt, count)))

-- those of some elements, one after another: with those of the elements that are left they are those of all
pub record MarkedBy {A : Type 0} (test : A → ℕ → Bool) (all left : List A) (marks marks' : List Bool) : Type 0 where
  pub len : length marks' ≡ length marks
  pub each : (d : ℕ) → d < length marks
      → (is_marked marks' d || list_any (λ a. test a d) left) ≡ (is_marked marks d || list_any (λ a. test a d) all)

pub marked_start : {A : Type 0} (test : A → ℕ → Bool) (all : List A) (marks : List Bool) → MarkedBy test all all marks marks
marked_start test all marks = record { len = refl; each = λ d lt. refl }

pub marked_turn : {A : Type 0} (test : A → ℕ → Bool) (all left rest : List A) (a : A) (marks now new : List Bool) → left ≡ a ∷ rest
    → MarkedBy test all left marks now → AddsMarks (test a) now new → MarkedBy test all rest marks new
marked_turn test all left rest a marks now new is so adds = record {
  len = adds.len ∙ so.len;
  each = λ d lt.
      ap (λ t. t || list_any (λ b. test b d) rest) (adds.each d (omega (arith, lt, so.len)))
      ∙ assoc (is_marked now d) (test a d) (list_any (λ b. test b d) rest)
      ∙ ap (λ l. is_marked now d || list_any (λ b. test b d) l) (sym is)
      ∙ so.each d lt;
}
  where
    assoc : (x y z : Bool) → ((x || y) || z) ≡ (x || (y || z))
    assoc true y z = refl
    assoc false y z = refl

pub marked_end : {A : Type 0} (test : A → ℕ → Bool) (all left : List A) (marks new : List Bool) → left ≡ [] → MarkedBy test all left marks new
    → AddsMarks (λ d. list_any (λ a. test a d) all) marks new
marked_end test all left marks new is so = record {
  len = so.len;
  each = λ d lt.
      sym (ap (λ l. is_marked new d || list_any (λ a. test a d) l) is ∙ or-false (is_marked new d)) ∙ so.each d lt;
}

-- those of the devices up to a number
pub record MarkedTo (test : ℕ → Bool) (marks marks' : List Bool) (n : ℕ) : Type 0 where
  pub len : length marks' ≡ length marks
  pub front : (d : ℕ) → d < length marks → d < n → is_marked marks' d ≡ (is_marked marks d || test d)
  pub rest : (d : ℕ) → d < length marks → n ≤ d → is_marked marks' d ≡ is_marked marks d

pub to_start : (test : ℕ → Bool) (marks : List Bool) → MarkedTo test marks marks 0
to_start test marks = record {
  len = refl;
  front = λ d lt less. absurd (omega (arith, less));
  rest = λ d lt le. refl;
}

pub to_turn : (test : ℕ → Bool) (marks now new : List Bool) (n : ℕ) → MarkedTo test marks now n
    → AddsMarks (λ d. (n == d) && test n) now new → MarkedTo test marks new (n + 1)
to_turn test marks now new n so adds = record {
  len = adds.len ∙ so.len;
  front = λ d lt less. front d lt less (eqb_tells n d);
  rest = λ d lt le.
      let apart : n ≡ d → ⊥ = λ e. omega (arith, e, le) in
      adds.each d (omega (arith, lt, so.len))
      ∙ ap (λ t. is_marked now d || (t && test n)) (ne_eqb n d apart)
      ∙ or-false (is_marked now d) ∙ so.rest d lt (omega (arith, le));
}
  where
    other : (d : ℕ) → d < n + 1 → (n ≡ d → ⊥) → d < n
    other d less differ = omega (arith, less, differ)

    front : (d : ℕ) → d < length marks → d < n + 1 → Tells n d → is_marked new d ≡ (is_marked marks d || test d)
    front d lt less (inl e) =
        adds.each d (omega (arith, lt, so.len))
        ∙ ap (λ t. is_marked now d || (t && test n)) e.0
        ∙ ap (λ t. t || test n) (so.rest d lt (omega (arith, e.1)))
        ∙ ap (λ k. is_marked marks d || test k) e.1
    front d lt less (inr e) =
        let below : d < n = other d less e.1 in
        adds.each d (omega (arith, lt, so.len))
        ∙ ap (λ t. is_marked now d || (t && test n)) e.0
        ∙ or-false (is_marked now d) ∙ so.front d lt below

pub to_end : (test : ℕ → Bool) (marks new : List Bool) (n : ℕ) → length marks ≤ n → MarkedTo test marks new n → AddsMarks test marks new
to_end test marks new n end so = record {
  len = so.len;
  each = λ d lt. so.front d lt (omega (arith, lt, end));
}

-- a device that is marked already, or that the service has no item on
pub marks_yet : (test : ℕ → Bool) (marks : List Bool) (n : ℕ) (found : Bool) → is_marked marks n ≡ true → AddsMarks (λ d. (n == d) && found) marks marks
marks_yet test marks n found there = record { len = refl; each = λ d lt. on d (eqb_tells n d) }
  where
    on : (d : ℕ) → Tells n d → is_marked marks d ≡ (is_marked marks d || ((n == d) && found))
    on d (inl e) =
        let here : is_marked marks d ≡ true = ap (is_marked marks) (sym e.1) ∙ there in
        here ∙ sym (ap (λ t. t || ((n == d) && found)) here)
    on d (inr e) = sym (ap (λ t. is_marked marks d || (t && found)) e.0 ∙ or-false (is_marked marks d))

pub marks_if : (marks marks' : List Bool) (n : ℕ) (found : Bool) → found ≡ true → AddsMarks (λ d. n == d) marks marks'
    → AddsMarks (λ d. (n == d) && found) marks marks'
marks_if marks marks' n found is adds =
    marks_as (λ d. n == d) (λ d. (n == d) && found) marks marks' (λ d lt. sym (ap (λ t. (n == d) && t) is ∙ and-true (n == d))) adds

pub marks_unless : (marks : List Bool) (n : ℕ) (found : Bool) → found ≡ false → AddsMarks (λ d. (n == d) && found) marks marks
marks_unless marks n found is =
    marks_none (λ d. (n == d) && found) marks (λ d lt. ap (λ t. (n == d) && t) is ∙ and-false (n == d))

-- by the entries

pub row_marks : (known : Config) (id : List ℕ) (row : List PathStep) (n : ℕ) (number : Option ℕ) (marks marks' : List Bool) → number ≡ Some n
    → ((own : List ℕ) (d : ℕ) → d < 2 ^ 32 → row ≡ device_row own d → number ≡ Some d)
    → AddsMarks (λ d. (n == d) && knows_device known id n) marks marks' → MarksRow known id row marks marks'
row_marks known id row n number marks marks' is tells adds = record {
  len = adds.len;
  each = λ d lt. each d lt (eqb_tells n d);
  own = λ d lt small own knows.
      let here : n ≡ d = some_same (sym is ∙ tells id d small own) in
      adds.each d lt ∙ ap (λ t. is_marked marks d || (t && knows_device known id n)) (eq-eqb n d here)
      ∙ ap (λ t. is_marked marks d || t) (ap (knows_device known id) here ∙ knows) ∙ or-true (is_marked marks d);
}
  where
    each : (d : ℕ) → d < length marks → Tells n d
        → (is_marked marks' d ≡ is_marked marks d) ⊎ ((is_marked marks' d ≡ true) × (knows_device known id d ≡ true))
    each d lt (inr e) =
        inl (adds.each d lt ∙ ap (λ t. is_marked marks d || (t && knows_device known id n)) e.0 ∙ or-false (is_marked marks d))
    each d lt (inl e) = on (knows_device known id n) refl
      where
        on : (t : Bool) → knows_device known id n ≡ t
            → (is_marked marks' d ≡ is_marked marks d) ⊎ ((is_marked marks' d ≡ true) × (knows_device known id d ≡ true))
        on true knows = inr (
          adds.each d lt ∙ ap (λ t. is_marked marks d || (t && knows_device known id n)) e.0 ∙ ap (λ t. is_marked marks d || t) knows ∙ or-true (is_marked marks d),
          ap (knows_device known id) (sym e.1) ∙ knows,
        )
        on false knows = inl (
            adds.each d lt ∙ ap (λ t. is_marked marks d || ((n == d) && t)) knows ∙ ap (λ t. is_marked marks d || t) (and-false (n == d)) ∙ or-false (is_marked marks d))

-- the entry of no device, or of none that is declared
pub row_unmarked : (known : Config) (id : List ℕ) (row : List PathStep) (number : Option ℕ) (marks : List Bool)
    → ((d : ℕ) → d < length marks → number ≡ Some d → ⊥)
    → ((own : List ℕ) (d : ℕ) → d < 2 ^ 32 → row ≡ device_row own d → number ≡ Some d) → MarksRow known id row marks marks
row_unmarked known id row number marks none tells = record {
  len = refl;
  each = λ d lt. inl refl;
  own = λ d lt small own knows. absurd (none d lt (tells id d small own));
}

-- those of the entries so far: of the others each is among those that are left
pub record MarkedRows (known : Config) (id : List ℕ) (left : List (List PathStep)) (marks marks' : List Bool) : Type 0 where
  pub len : length marks' ≡ length marks
  pub each : (device : ℕ) → device < length marks
      → (is_marked marks' device ≡ is_marked marks device) ⊎ ((is_marked marks' device ≡ true) × (knows_device known id device ≡ true))
  pub rest : (device : ℕ) → device < length marks → knows_device known id device ≡ true
      → (is_marked marks' device || list_any (eq_by_cmp path_cmp (device_row id device)) left) ≡ true

pub rows_start : (known : Config) (id : List ℕ) (rows : List (List PathStep)) (marks : List Bool)
    → ((d : ℕ) → knows_device known id d ≡ true → list_any (eq_by_cmp path_cmp (device_row id d)) rows ≡ true) → MarkedRows known id rows marks marks
rows_start known id rows marks all = record {
  len = refl;
  each = λ d lt. inl refl;
  rest = λ d lt knows. ap (λ t. is_marked marks d || t) (all d knows) ∙ or-true (is_marked marks d);
}

pub rows_turn : (known : Config) (id : List ℕ) (left rest : List (List PathStep)) (row : List PathStep) (marks now new : List Bool) → left ≡ row ∷ rest
    → length marks < 2 ^ 32 → MarkedRows known id left marks now → MarksRow known id row now new → MarkedRows known id rest marks new
rows_turn known id left rest row marks now new is few so turn = record {
  len = turn.len ∙ so.len;
  each = λ d lt. both d (so.each d lt) (turn.each d (omega (arith, lt, so.len)));
  rest = λ d lt knows.
      others d lt knows (turn.each d (omega (arith, lt, so.len))) (eq_by_cmp path_cmp (device_row id d) row) refl
      (sym (ap (λ l. is_marked now d || list_any (eq_by_cmp path_cmp (device_row id d)) l) is) ∙ so.rest d lt knows);
}
  where
    both : (d : ℕ) → (is_marked now d ≡ is_marked marks d) ⊎ ((is_marked now d ≡ true) × (knows_device known id d ≡ true))
        → (is_marked new d ≡ is_marked now d) ⊎ ((is_marked new d ≡ true) × (knows_device known id d ≡ true))
        → (is_marked new d ≡ is_marked marks d) ⊎ ((is_marked new d ≡ true) × (knows_device known id d ≡ true))
    both d a (inr b) = inr b
    both d (inl a) (inl b) = inl (b ∙ a)
    both d (inr a) (inl b) = inr (b ∙ a.0, a.1)

    others : (d : ℕ) → d < length marks → knows_device known id d ≡ true
        → (is_marked new d ≡ is_marked now d) ⊎ ((is_marked new d ≡ true) × (knows_device known id d ≡ true))
        → (t : Bool) → eq_by_cmp path_cmp (device_row id d) row ≡ t
        → (is_marked now d || (eq_by_cmp path_cmp (device_row id d) row || list_any (eq_by_cmp path_cmp (device_row id d)) rest)) ≡ true
        → (is_marked new d || list_any (eq_by_cmp path_cmp (device_row id d)) rest) ≡ true
    others d lt knows (inr b) t e h = ap (λ m. m || list_any (eq_by_cmp path_cmp (device_row id d)) rest) b.0
    others d lt knows (inl b) true e h =
        ap (λ m. m || list_any (eq_by_cmp path_cmp (device_row id d)) rest)
        (turn.own d (omega (arith, lt, so.len)) (omega (arith, lt, few)) (sym (same_path (device_row id d) row e)) knows)
    others d lt knows (inl b) false e h =
        ap (λ m. m || list_any (eq_by_cmp path_cmp (device_row id d)) rest) b
        ∙ sym (ap (λ m. is_marked now d || (m || list_any (eq_by_cmp path_cmp (device_row id d)) rest)) e) ∙ h

pub rows_end : (known : Config) (id : List ℕ) (left : List (List PathStep)) (marks new : List Bool) → left ≡ [] → MarkedRows known id left marks new
    → AddsMarks (λ d. knows_device known id d) marks new
rows_end known id left marks new is so = record {
  len = so.len;
  each = λ d lt. on d (so.each d lt) (knows_device known id d) refl (λ knows.
      sym (ap (λ l. is_marked new d || list_any (eq_by_cmp path_cmp (device_row id d)) l) is ∙ or-false (is_marked new d)) ∙ so.rest d lt knows);
}
  where
    on : (d : ℕ) → (is_marked new d ≡ is_marked marks d) ⊎ ((is_marked new d ≡ true) × (knows_device known id d ≡ true))
        → (t : Bool) → knows_device known id d ≡ t → (knows_device known id d ≡ true → is_marked new d ≡ true)
        → is_marked new d ≡ (is_marked marks d || knows_device known id d)
    on d a true knows there =
        there knows ∙ sym (ap (λ t. is_marked marks d || t) knows ∙ or-true (is_marked marks d))
    on d (inl a) false knows there = a ∙ sym (ap (λ t. is_marked marks d || t) knows ∙ or-false (is_marked marks d))
    on d (inr a) false knows there = absurd (false≢true (sym knows ∙ a.1))

-- the entries of devices are all among those of the list

any_kept : {X : Type 0} (p q : X → Bool) (xs : List X) → ((x : X) → p x ≡ true → q x ≡ true) → list_any p xs ≡ true → list_any p (filter q xs) ≡ true
any_kept p q [] h is = is
any_kept p q (x ∷ xs) h is = on (p x) (q x) refl refl (λ i. any_kept p q xs h i)
  where
    on : (s t : Bool) → p x ≡ s → q x ≡ t → (list_any p xs ≡ true → list_any p (filter q xs) ≡ true)
        → list_any p (cond (q x) (x ∷ filter q xs) (filter q xs)) ≡ true
    on true true e f later = ap (λ t. list_any p (cond t (x ∷ filter q xs) (filter q xs))) f ∙ ap (λ t. t || list_any p (filter q xs)) e
    on true false e f later = absurd (false≢true (sym f ∙ h x e))
    on false true e f later =
        ap (λ t. list_any p (cond t (x ∷ filter q xs) (filter q xs))) f ∙ ap (λ t. t || list_any p (filter q xs)) e
        ∙ later (sym (ap (λ t. t || list_any p xs) e) ∙ is)
    on false false e f later =
        ap (λ t. list_any p (cond t (x ∷ filter q xs) (filter q xs))) f ∙ later (sym (ap (λ t. t || list_any p xs) e) ∙ is)

pub rows_there : (known : Config) (id : List ℕ) (rows : List (List PathStep)) → rows ≡ filter (is_entry_of (device_list id)) (keys known)
    → (d : ℕ) → knows_device known id d ≡ true → list_any (eq_by_cmp path_cmp (device_row id d)) rows ≡ true
rows_there known id rows is d knows =
    let path = device_row id d in
    ap (list_any (eq_by_cmp path_cmp path)) is
    ∙ any_kept (eq_by_cmp path_cmp path) (is_entry_of (device_list id)) (keys known)
    (λ other e. subst (λ p. is_entry_of (device_list id) p ≡ true) (same_path path other e) (path_ties (list_of path) (device_list id) refl))
    (sym (contains_key-keys known path) ∙ knows)
