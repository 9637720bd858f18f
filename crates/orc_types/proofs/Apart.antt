-- The ranges and lengths that an argument leaves stand apart.
use Rattle.std.proofs.Common.{◌≡◌, ℕ, ℤ, pos, negsuc, Bool, true, false, cond, List, [], ◌∷◌, Option, Some, None, refl, sym, ap, ◌∙◌, subst, arith}
use Rattle.std.specs.Prelude.{◌&&◌, not, int_le, int_lt, nat_le, map, unsigned_abs, option_map, option_and_then}
use Rattle.std.specs.List.{list_any, list_all, slice_split, before_first, after_first}
use Rattle.std.specs.Str.{trim}
use Rattle.std.proofs.lemmas.Int.{ints}
use Rattle.std.proofs.lemmas.Bool.{false≢true}
use Rattle.orc_value.specs.Ranges.{stand_apart}
use Rattle.orc_value.proofs.IntegerLaws.{and_left, and_right}
use Rattle.orc_types.specs.Numbers.{only_if}
use Rattle.orc_types.specs.Ranges.{Range, is_bar, is_dot, is_minus, is_plain, is_trimmed, has_dot, behind_dot, bound_of, range_between, range_up_to, part_of, parts_of, all_of, ascend, ascend_behind, lies_within, narrows, narrowed, ends_of, is_length, length_range, as_range, narrowed_lengths}
use Rattle.orc_types.proofs.Narrowing.{none_some, kept, narrowed-narrows}

and_both : (a b : Bool) → a ≡ true → b ≡ true → (a && b) ≡ true
and_both true b h k = k
and_both false b h k = absurd (false≢true h)

-- ---- no part is empty

abbrev Proper : Range → Type 0
Proper r = int_le r.0 r.1 ≡ true

abbrev is_proper : Range → Bool
is_proper r = int_le r.0 r.1

between : (low high : Option ℤ) (r : Range) → range_between low high ≡ Some r → Proper r
between None high r h = none_some h
between (Some low) None r h = none_some h
between (Some low) (Some high) r h = on (int_le low high) refl h
  where
    on : (b : Bool) → int_le low high ≡ b → cond b (Some (low, high)) None ≡ Some r → Proper r
    on true e same =
        let pair : Range = (low, high) in
        let is : pair ≡ r = cc in
        subst Proper is e
    on false e same = none_some same

behind : (f : List ℕ → Option Range) (o : Option (List ℕ)) (r : Range) → ((text : List ℕ) → f text ≡ Some r → Proper r) → option_and_then f o ≡ Some r → Proper r
behind f None r each h = none_some h
behind f (Some text) r each h = each text h

part : (ends : Range) (text : List ℕ) (r : Range) → part_of ends text ≡ Some r → Proper r
part ends text r h = on (has_dot text) h
  where
    up_to : (low high : List ℕ) → range_up_to ends low high ≡ Some r → Proper r
    up_to low high e = between (bound_of ends (trim low)) (bound_of ends (trim high)) r e

    on : (b : Bool) → cond b (option_and_then (range_up_to ends (before_first is_dot text)) (behind_dot (after_first is_dot text))) (range_up_to ends text text) ≡ Some r → Proper r
    on true e = behind (range_up_to ends (before_first is_dot text)) (behind_dot (after_first is_dot text)) r (λ high same. up_to (before_first is_dot text) high same) e
    on false e = up_to text text e

first_proper : (o : Option Range) (os : List (Option Range)) (rs : List Range) → ((r : Range) → o ≡ Some r → Proper r) → ((more : List Range) → all_of os ≡ Some more → list_all is_proper more ≡ true) → all_of (o ∷ os) ≡ Some rs → list_all is_proper rs ≡ true
first_proper None os rs own further h = none_some h
first_proper (Some r) os rs own further h = on (all_of os) refl h
  where
    on : (rest : Option (List Range)) → all_of os ≡ rest → option_map (λ xs. r ∷ xs) rest ≡ Some rs → list_all is_proper rs ≡ true
    on None is same = none_some same
    on (Some more) is same =
        let whole : r ∷ more ≡ rs = cc in
        subst (λ (xs : List Range). list_all is_proper xs ≡ true) whole (and_both (is_proper r) (list_all is_proper more) (own r refl) (further more is))

all_proper : (ends : Range) (ps : List (List ℕ)) (rs : List Range) → all_of (map (part_of ends) ps) ≡ Some rs → list_all is_proper rs ≡ true
all_proper ends [] rs h =
    let none : [] ≡ rs = cc in
    subst (λ (xs : List Range). list_all is_proper xs ≡ true) none refl
all_proper ends (p ∷ ps) rs h = first_proper (part_of ends p) (map (part_of ends) ps) rs (λ r e. part ends p r e) (λ more e. all_proper ends ps more e) h

-- ---- parts that ascend stand apart

beyond : (k h z : ℤ) → int_le k h ≡ true → int_lt h z ≡ true → not (int_le z k) ≡ true
beyond k h z up over = grind (arith, ints)

further_up : (k h low high : ℤ) → int_le k h ≡ true → int_lt h low ≡ true → int_le low high ≡ true → int_le k high ≡ true
further_up k h low high up over proper = grind (arith, ints)

itself : (z : ℤ) → int_le z z ≡ true
itself z = grind (arith, ints)

all_beyond : (k h : ℤ) (rs : List Range) → int_le k h ≡ true → ascend_behind h rs ≡ true → list_all is_proper rs ≡ true → list_all (λ s. not (int_le s.0 k)) rs ≡ true
all_beyond k h [] up climbs proper = refl
all_beyond k h (r ∷ rs) up climbs proper =
    let over = and_left (int_lt h r.0) (ascend_behind r.1 rs) climbs in
    let own = and_left (is_proper r) (list_all is_proper rs) proper in
    let rest = all_beyond k r.1 rs (further_up k h r.0 r.1 up over own) (and_right (int_lt h r.0) (ascend_behind r.1 rs) climbs) (and_right (is_proper r) (list_all is_proper rs) proper) in
    and_both (not (int_le r.0 k)) (list_all (λ s. not (int_le s.0 k)) rs) (beyond k h r.0 up over) rest

one_apart : (r : Range) (rs : List Range) → ascend_behind r.1 rs ≡ true → Proper r → list_all is_proper rs ≡ true → stand_apart int_le rs ≡ true → stand_apart int_le (r ∷ rs) ≡ true
one_apart r rs climbs own proper apart =
    and_both (is_proper r) (list_all (λ s. not (int_le s.0 r.1)) rs && stand_apart int_le rs) own
    (and_both (list_all (λ s. not (int_le s.0 r.1)) rs) (stand_apart int_le rs) (all_beyond r.1 r.1 rs (itself r.1) climbs proper) apart)

apart_behind : (h : ℤ) (rs : List Range) → ascend_behind h rs ≡ true → list_all is_proper rs ≡ true → stand_apart int_le rs ≡ true
apart_behind h [] climbs proper = refl
apart_behind h (r ∷ rs) climbs proper =
    let on = and_right (int_lt h r.0) (ascend_behind r.1 rs) climbs in
    let more = and_right (is_proper r) (list_all is_proper rs) proper in
    one_apart r rs on (and_left (is_proper r) (list_all is_proper rs) proper) more (apart_behind r.1 rs on more)

apart : (rs : List Range) → ascend rs ≡ true → list_all is_proper rs ≡ true → stand_apart int_le rs ≡ true
apart [] climbs proper = refl
apart (r ∷ rs) climbs proper =
    let more = and_right (is_proper r) (list_all is_proper rs) proper in
    one_apart r rs climbs (and_left (is_proper r) (list_all is_proper rs) proper) more (apart_behind r.1 rs climbs more)

chosen : {X : Type 0} (test : X → Bool) (o : Option X) (y : X) → option_and_then (only_if test) o ≡ Some y → o ≡ Some y
chosen test None y h = none_some h
chosen test (Some x) y h = on (test x) h
  where
    on : (b : Bool) → cond b (Some x) None ≡ Some y → Some x ≡ Some y
    on true same = same
    on false same = none_some same

pub ranges_apart : (base rs : List Range) (text : List ℕ) → Some rs ≡ narrowed base text → stand_apart int_le rs ≡ true
ranges_apart base rs text h =
    let left = kept (list_all is_plain text && is_trimmed text) (option_and_then (only_if (narrows base)) (parts_of (ends_of base) text)) rs (sym h) in
    let proper = all_proper (ends_of base) (slice_split is_bar text) rs (chosen (narrows base) (parts_of (ends_of base) text) rs left) in
    apart rs (and_left (ascend rs) (list_all (lies_within base) rs) (narrowed-narrows base rs text (sym h))) proper

-- ---- the same of lengths

same_all : (n : ℕ) (ls : List (ℕ × ℕ)) → list_all (λ (s : Range). not (int_le s.0 (pos n))) (map as_range ls) ≡ list_all (λ (l : ℕ × ℕ). not (nat_le l.0 n)) ls
same_all n [] = refl
same_all n (l ∷ ls) = ap (λ (b : Bool). not (nat_le l.0 n) && b) (same_all n ls)

same_apart : (ls : List (ℕ × ℕ)) → stand_apart int_le (map as_range ls) ≡ stand_apart nat_le ls
same_apart [] = refl
same_apart (l ∷ ls) =
    ap (λ (b : Bool). nat_le l.0 l.1 && (b && stand_apart int_le (map as_range ls))) (same_all l.1 ls)
    ∙ ap (λ (b : Bool). nat_le l.0 l.1 && (list_all (λ (s : ℕ × ℕ). not (nat_le s.0 l.1)) ls && b)) (same_apart ls)

read_back : (low high : ℤ) (l : ℕ × ℕ) → length_range (low, high) ≡ Some l → as_range l ≡ (low, high)
read_back (pos a) (pos b) l h = on (is_length (pos a) && is_length (pos b)) h
  where
    on : (t : Bool) → cond t (Some (a, b)) None ≡ Some l → as_range l ≡ (pos a, pos b)
    on true same =
        let pair : ℕ × ℕ = (a, b) in
        let is : pair ≡ l = cc in
        ap as_range (sym is)
    on false same = none_some same
read_back (pos a) (negsuc b) l h = on (is_length (pos a)) h
  where
    on : (t : Bool) → cond (t && false) (Some (a, unsigned_abs (negsuc b))) None ≡ Some l → as_range l ≡ (pos a, negsuc b)
    on true same = none_some same
    on false same = none_some same
read_back (negsuc a) high l h = none_some h

first_back : (r : Range) (rs : List Range) (o : Option (ℕ × ℕ)) (os : List (Option (ℕ × ℕ))) (ls : List (ℕ × ℕ)) → length_range r ≡ o → ((more : List (ℕ × ℕ)) → all_of os ≡ Some more → map as_range more ≡ rs) → all_of (o ∷ os) ≡ Some ls → map as_range ls ≡ r ∷ rs
first_back r rs None os ls e further h = none_some h
first_back r rs (Some l) os ls e further h = on (all_of os) refl h
  where
    on : (rest : Option (List (ℕ × ℕ))) → all_of os ≡ rest → option_map (λ xs. l ∷ xs) rest ≡ Some ls → map as_range ls ≡ r ∷ rs
    on None is same = none_some same
    on (Some more) is same =
        let whole : l ∷ more ≡ ls = cc in
        ap (map as_range) (sym whole) ∙ ap (λ (x : Range). x ∷ map as_range more) (read_back r.0 r.1 l e) ∙ ap (λ (xs : List Range). r ∷ xs) (further more is)

all_back : (rs : List Range) (ls : List (ℕ × ℕ)) → all_of (map length_range rs) ≡ Some ls → map as_range ls ≡ rs
all_back [] ls h = let none : [] ≡ ls = cc in ap (map as_range) (sym none)
all_back (r ∷ rs) ls h = first_back r rs (length_range r) (map length_range rs) ls refl (λ more e. all_back rs more e) h

unsigned : {X : Type 0} (b : Bool) (o : Option X) (x : X) → cond b None o ≡ Some x → o ≡ Some x
unsigned true o x h = none_some h
unsigned false o x h = h

pub lengths_apart : (base ls : List (ℕ × ℕ)) (text : List ℕ) → Some ls ≡ narrowed_lengths base text → stand_apart nat_le ls ≡ true
lengths_apart base ls text h = on (narrowed (map as_range base) text) refl (unsigned (list_any is_minus text) (option_and_then (λ rs. all_of (map length_range rs)) (narrowed (map as_range base) text)) ls (sym h))
  where
    on : (o : Option (List Range)) → narrowed (map as_range base) text ≡ o → option_and_then (λ rs. all_of (map length_range rs)) o ≡ Some ls → stand_apart nat_le ls ≡ true
    on None e same = none_some same
    on (Some rs) e same =
        sym (same_apart ls) ∙ (ap (stand_apart int_le) (all_back rs ls same) ∙ ranges_apart (map as_range base) rs text (sym e))
