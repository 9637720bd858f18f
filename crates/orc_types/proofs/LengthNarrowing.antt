-- A restricted string type has no length that its base lacks.
use Rattle.std.proofs.Common.{◌≡◌, ℕ, ℤ, pos, negsuc, Bool, true, false, cond, List, [], ◌∷◌, Option, Some, None, refl, sym, ap, ◌∙◌, subst, ⊎_elim}
use Rattle.std.specs.Prelude.{◌&&◌, ◌||◌, int_le, nat_le, map, unsigned_abs, option_map, option_and_then}
use Rattle.std.specs.List.{list_any}
use Rattle.std.proofs.lemmas.Bool.{false≢true, or_cases}
use Rattle.orc_value.specs.Canon.{in_lengths}
use Rattle.orc_value.specs.Integers.{in_ranges}
use Rattle.orc_types.specs.Ranges.{Range, is_minus, is_length, length_range, as_range, all_of, narrowed}
use Rattle.orc_types.specs.Laws.{LengthsNarrow}
use Rattle.orc_types.proofs.Narrowing.{none_some, or_left, or_right, ranges_narrow}

-- a base type's lengths as ranges
as_range-same : (base : List (ℕ × ℕ)) (n : ℕ) → in_ranges (map as_range base) (pos n) ≡ in_lengths base n
as_range-same [] n = refl
as_range-same (l ∷ base) n = ap (λ (b : Bool). (nat_le l.0 n && nat_le n l.1) || b) (as_range-same base n)

-- a range of lengths has the lengths that the range of numbers has
same_length : (low high : ℤ) (n : ℕ) → (is_length low && is_length high) ≡ true → (nat_le (unsigned_abs low) n && nat_le n (unsigned_abs high)) ≡ true → (int_le low (pos n) && int_le (pos n) high) ≡ true
same_length (pos a) (pos b) n h has = has
same_length (pos a) (negsuc b) n h has = absurd (false≢true (sym (and_false (is_length (pos a))) ∙ h))
  where
    and_false : (x : Bool) → (x && false) ≡ false
    and_false true = refl
    and_false false = refl
same_length (negsuc a) high n h has = absurd (false≢true h)

length_range-has : (r : Range) (l : ℕ × ℕ) (n : ℕ) → length_range r ≡ Some l → (nat_le l.0 n && nat_le n l.1) ≡ true → (int_le r.0 (pos n) && int_le (pos n) r.1) ≡ true
length_range-has r l n h has = on (is_length r.0 && is_length r.1) refl h
  where
    on : (b : Bool) → (is_length r.0 && is_length r.1) ≡ b → cond b (Some (unsigned_abs r.0, unsigned_abs r.1)) None ≡ Some l → (int_le r.0 (pos n) && int_le (pos n) r.1) ≡ true
    on true e same =
        let pair : ℕ × ℕ = (unsigned_abs r.0, unsigned_abs r.1) in
        let is : pair ≡ l = cc in
        same_length r.0 r.1 n e (subst (λ (x : ℕ × ℕ). (nat_le x.0 n && nat_le n x.1) ≡ true) (sym is) has)
    on false e same = none_some same

abbrev Has : List Range → List (ℕ × ℕ) → ℕ → Type 0
Has rs ls n = in_lengths ls n ≡ true → in_ranges rs (pos n) ≡ true

joined : (r : Range) (rs : List Range) (l : ℕ × ℕ) (more : List (ℕ × ℕ)) (n : ℕ) → length_range r ≡ Some l → Has rs more n → Has (r ∷ rs) (l ∷ more) n
joined r rs l more n e further has =
    ⊎_elim (λ w. or_left (int_le r.0 (pos n) && int_le (pos n) r.1) (in_ranges rs (pos n)) (length_range-has r l n e w))
    (λ w. or_right (int_le r.0 (pos n) && int_le (pos n) r.1) (in_ranges rs (pos n)) (further w))
    (or_cases (nat_le l.0 n && nat_le n l.1) (in_lengths more n) has)

first_has : (r : Range) (rs : List Range) (o : Option (ℕ × ℕ)) (os : List (Option (ℕ × ℕ))) (ls : List (ℕ × ℕ)) (n : ℕ) → length_range r ≡ o → ((more : List (ℕ × ℕ)) → all_of os ≡ Some more → Has rs more n) → all_of (o ∷ os) ≡ Some ls → Has (r ∷ rs) ls n
first_has r rs None os ls n e further h = none_some h
first_has r rs (Some l) os ls n e further h = on (all_of os) refl h
  where
    on : (rest : Option (List (ℕ × ℕ))) → all_of os ≡ rest → option_map (λ xs. l ∷ xs) rest ≡ Some ls → Has (r ∷ rs) ls n
    on None is same = none_some same
    on (Some more) is same =
        let whole : l ∷ more ≡ ls = cc in
        subst (λ (xs : List (ℕ × ℕ)). Has (r ∷ rs) xs n) whole (joined r rs l more n e (further more is))

all_have : (rs : List Range) (ls : List (ℕ × ℕ)) (n : ℕ) → all_of (map length_range rs) ≡ Some ls → Has rs ls n
all_have [] ls n h has =
    let none : [] ≡ ls = cc in
    absurd (false≢true (subst (λ (xs : List (ℕ × ℕ)). in_lengths xs n ≡ true) (sym none) has))
all_have (r ∷ rs) ls n h has = first_has r rs (length_range r) (map length_range rs) ls n refl (λ more e. all_have rs more n e) h has

unsigned : {X : Type 0} (b : Bool) (o : Option X) (x : X) → cond b None o ≡ Some x → o ≡ Some x
unsigned true o x h = none_some h
unsigned false o x h = h

pub lengths_narrow : LengthsNarrow
lengths_narrow base ls text n h has = on (narrowed (map as_range base) text) refl (unsigned (list_any is_minus text) (option_and_then (λ rs. all_of (map length_range rs)) (narrowed (map as_range base) text)) ls h)
  where
    on : (o : Option (List Range)) → narrowed (map as_range base) text ≡ o → option_and_then (λ rs. all_of (map length_range rs)) o ≡ Some ls → in_lengths base n ≡ true
    on None e same = none_some same
    on (Some rs) e same =
        sym (as_range-same base n) ∙ ranges_narrow (map as_range base) rs text (pos n) e (all_have rs ls n same has)
