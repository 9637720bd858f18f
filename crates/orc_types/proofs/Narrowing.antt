-- A restricted type has no number that its base lacks.
use Rattle.std.proofs.Common.{◌≡◌, ℕ, ℤ, Bool, true, false, cond, List, [], ◌∷◌, Option, Some, None, refl, arith, subst, ⊎_elim}
use Rattle.std.specs.Prelude.{◌&&◌, ◌||◌, int_le, option_and_then}
use Rattle.std.specs.List.{list_all}
use Rattle.std.proofs.lemmas.Int.{ints}
use Rattle.std.proofs.lemmas.Bool.{false≢true, or_cases}
use Rattle.orc_value.specs.Integers.{in_ranges}
use Rattle.orc_value.proofs.IntegerLaws.{and_left, and_right}
use Rattle.orc_types.specs.Numbers.{only_if}
use Rattle.orc_types.specs.Ranges.{Range, is_plain, is_trimmed, ascend, lies_within, ends_of, narrows, parts_of, narrowed}
use Rattle.orc_types.specs.Laws.{RangesNarrow}

pub le_trans : (a b c : ℤ) → int_le a b ≡ true → int_le b c ≡ true → int_le a c ≡ true
le_trans a b c h k = grind (arith, ints)

and_both : (a b : Bool) → a ≡ true → b ≡ true → (a && b) ≡ true
and_both true b h k = k
and_both false b h k = absurd (false≢true h)

pub or_left : (a b : Bool) → a ≡ true → (a || b) ≡ true
or_left true b h = refl
or_left false b h = absurd (false≢true h)

pub or_right : (a b : Bool) → b ≡ true → (a || b) ≡ true
or_right true b h = refl
or_right false b h = h

-- the range has the number
abbrev holds : ℤ → Range → Bool
holds z r = int_le r.0 z && int_le z r.1

abbrev covers : Range → Range → Bool
covers r b = int_le b.0 r.0 && int_le r.1 b.1

outer : (r b : Range) (z : ℤ) → covers r b ≡ true → holds z r ≡ true → holds z b ≡ true
outer r b z c h =
    and_both (int_le b.0 z) (int_le z b.1)
    (le_trans b.0 r.0 z (and_left (int_le b.0 r.0) (int_le r.1 b.1) c) (and_left (int_le r.0 z) (int_le z r.1) h))
    (le_trans z r.1 b.1 (and_right (int_le r.0 z) (int_le z r.1) h) (and_right (int_le b.0 r.0) (int_le r.1 b.1) c))

in_base : (base : List Range) (r : Range) (z : ℤ) → lies_within base r ≡ true → holds z r ≡ true → in_ranges base z ≡ true
in_base [] r z c h = absurd (false≢true c)
in_base (b ∷ base) r z c h =
    let rest = λ (w : lies_within base r ≡ true). or_right (holds z b) (in_ranges base z) (in_base base r z w h) in
    ⊎_elim (λ w. or_left (holds z b) (in_ranges base z) (outer r b z w h)) rest (or_cases (covers r b) (lies_within base r) c)

in_one : (rs base : List Range) (z : ℤ) → list_all (lies_within base) rs ≡ true → in_ranges rs z ≡ true → in_ranges base z ≡ true
in_one [] base z c h = absurd (false≢true h)
in_one (r ∷ rs) base z c h =
    let first = and_left (lies_within base r) (list_all (lies_within base) rs) c in
    let more = and_right (lies_within base r) (list_all (lies_within base) rs) c in
    let rest = λ (w : in_ranges rs z ≡ true). in_one rs base z more w in
    ⊎_elim (λ w. in_base base r z first w) rest (or_cases (holds z r) (in_ranges rs z) h)

pub none_some : {X : Type 0} {x : X} {A : Type 0} → None ≡ Some x → A
none_some h = absurd cc

passed : {X : Type 0} (test : X → Bool) (x y : X) → only_if test x ≡ Some y → test y ≡ true
passed test x y h = on (test x) refl h
  where
    on : (b : Bool) → test x ≡ b → cond b (Some x) None ≡ Some y → test y ≡ true
    on true e same = let is : x ≡ y = cc in subst (λ t. test t ≡ true) is e
    on false e same = none_some same

passed_option : {X : Type 0} (test : X → Bool) (o : Option X) (y : X) → option_and_then (only_if test) o ≡ Some y → test y ≡ true
passed_option test None y h = none_some h
passed_option test (Some x) y h = passed test x y h

pub kept : {X : Type 0} (b : Bool) (o : Option X) (y : X) → cond b o None ≡ Some y → o ≡ Some y
kept true o y h = h
kept false o y h = none_some h

pub narrowed-narrows : (base rs : List Range) (text : List ℕ) → narrowed base text ≡ Some rs → narrows base rs ≡ true
narrowed-narrows base rs text h =
    passed_option (narrows base) (parts_of (ends_of base) text) rs (kept (list_all is_plain text && is_trimmed text) (option_and_then (only_if (narrows base)) (parts_of (ends_of base) text)) rs h)

pub ranges_narrow : RangesNarrow
ranges_narrow base rs text z h has =
    in_one rs base z (and_right (ascend rs) (list_all (lies_within base) rs) (narrowed-narrows base rs text h)) has
