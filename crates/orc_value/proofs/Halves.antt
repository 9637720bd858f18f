-- A search by halves among ranges that stand apart.
use Rattle.std.proofs.Common.{◌≡◌, ℕ, ℤ, Bool, true, false, List, [], ◌∷◌, ◌++◌, refl, sym, ap, ◌∙◌, arith}
use Rattle.std.specs.Prelude.{◌&&◌, ◌||◌, not, int_le, nat_le}
use Rattle.std.specs.List.{list_any, list_all}
use Rattle.std.proofs.lemmas.Bool.{false≢true}
use Rattle.std.proofs.lemmas.Bool.Decides.{nat_tests}
use Rattle.std.proofs.lemmas.Int.{ints}
use Rattle.std.proofs.lemmas.List.Folds.{list_any-append, list_all-append}
use Rattle.orc_value.specs.Ranges.{stand_apart}
use Rattle.orc_value.proofs.IntegerLaws.{and_left, and_right}

not_false : (b : Bool) → not b ≡ true → b ≡ false
not_false true h = absurd (false≢true h)
not_false false h = refl

and_no : (a b : Bool) → a ≡ false → (a && b) ≡ false
and_no false b h = refl
and_no true b h = absurd (false≢true (sym h))

and_not : (a b : Bool) → b ≡ false → (a && b) ≡ false
and_not true b h = h
and_not false b h = refl

or_none : (a b : Bool) → a ≡ false → b ≡ false → (a || b) ≡ false
or_none false b h k = k
or_none true b h k = absurd (false≢true (sym h))

or_nothing : (a b : Bool) → b ≡ false → (a || b) ≡ a
or_nothing true b h = refl
or_nothing false b h = h

or_more : (a b : Bool) → a ≡ false → (a || b) ≡ b
or_more false b h = refl
or_more true b h = absurd (false≢true (sym h))

or_here : (a b c : Bool) → b ≡ true → (a || (b || c)) ≡ true
or_here true b c h = refl
or_here false true c h = refl
or_here false false c h = absurd (false≢true h)

and_both : (a b : Bool) → a ≡ true → b ≡ true → (a && b) ≡ true
and_both true b h k = k
and_both false b h k = absurd (false≢true h)

module _ {X : Type 0} (le : X → X → Bool) (trans : (a b c : X) → le a b ≡ true → le b c ≡ true → le a c ≡ true) (total : (a b : X) → le a b ≡ false → le b a ≡ true) where
  -- the range has the value
  abbrev holds : X → X × X → Bool
  holds z r = le r.0 z && le z r.1

  -- a is above c, and so above b
  above : (a b c : X) → le b c ≡ true → le a c ≡ false → le a b ≡ false
  above a b c below wrong = on (le a b) refl
    where
      on : (t : Bool) → le a b ≡ t → t ≡ false
      on true e = absurd (false≢true (sym wrong ∙ trans a b c e below))
      on false e = refl

  -- c is below a, and so is b
  below : (a b c : X) → le a b ≡ true → le a c ≡ false → le b c ≡ false
  below a b c up wrong = on (le b c) refl
    where
      on : (t : Bool) → le b c ≡ t → t ≡ false
      on true e = absurd (false≢true (sym wrong ∙ trans a b c up e))
      on false e = refl

  none_behind : (h z : X) (rs : List (X × X)) → le z h ≡ true → list_all (λ s. not (le s.0 h)) rs ≡ true → list_any (λ r. le r.0 z && le z r.1) rs ≡ false
  none_behind h z [] up all = refl
  none_behind h z (r ∷ rs) up all =
      let first = and_left (not (le r.0 h)) (list_all (λ s. not (le s.0 h)) rs) all in
      let later = and_right (not (le r.0 h)) (list_all (λ s. not (le s.0 h)) rs) all in
      or_none (holds z r) (list_any (λ r. le r.0 z && le z r.1) rs) (and_no (le r.0 z) (le z r.1) (above r.0 z h up (not_false (le r.0 h) first))) (none_behind h z rs up later)

  none_before : (l z : X) (rs : List (X × X)) → le l z ≡ true → list_all (λ r. not (le l r.1)) rs ≡ true → list_any (λ r. le r.0 z && le z r.1) rs ≡ false
  none_before l z [] up all = refl
  none_before l z (r ∷ rs) up all =
      let first = and_left (not (le l r.1)) (list_all (λ r. not (le l r.1)) rs) all in
      let later = and_right (not (le l r.1)) (list_all (λ r. not (le l r.1)) rs) all in
      or_none (holds z r) (list_any (λ r. le r.0 z && le z r.1) rs) (and_not (le r.0 z) (le z r.1) (below l z r.1 up (not_false (le l r.1) first))) (none_before l z rs up later)

  -- what stands before a range and after it
  pub record AreApart (front : List (X × X)) (middle : X × X) (back : List (X × X)) : Type 0 where
    pub front_apart : stand_apart le front ≡ true
    pub before : list_all (λ r. not (le middle.0 r.1)) front ≡ true
    pub proper : le middle.0 middle.1 ≡ true
    pub behind : list_all (λ s. not (le s.0 middle.1)) back ≡ true
    pub back_apart : stand_apart le back ≡ true

  pub parted : (front : List (X × X)) (middle : X × X) (back : List (X × X)) → stand_apart le (front ++ middle ∷ back) ≡ true → AreApart front middle back
  parted [] middle back h =
      let others = and_right (le middle.0 middle.1) (list_all (λ s. not (le s.0 middle.1)) back && stand_apart le back) h in
      record {
        front_apart = refl;
        before = refl;
        proper = and_left (le middle.0 middle.1) (list_all (λ s. not (le s.0 middle.1)) back && stand_apart le back) h;
        behind = and_left (list_all (λ s. not (le s.0 middle.1)) back) (stand_apart le back) others;
        back_apart = and_right (list_all (λ s. not (le s.0 middle.1)) back) (stand_apart le back) others;
      }
  parted (r ∷ rs) middle back h =
      let up : X × X → Bool = λ s. not (le s.0 r.1) in
      let own = and_left (le r.0 r.1) (list_all up (rs ++ middle ∷ back) && stand_apart le (rs ++ middle ∷ back)) h in
      let others = and_right (le r.0 r.1) (list_all up (rs ++ middle ∷ back) && stand_apart le (rs ++ middle ∷ back)) h in
      let all = sym (list_all-append up rs (middle ∷ back)) ∙ and_left (list_all up (rs ++ middle ∷ back)) (stand_apart le (rs ++ middle ∷ back)) others in
      let more = parted rs middle back (and_right (list_all up (rs ++ middle ∷ back)) (stand_apart le (rs ++ middle ∷ back)) others) in
      let near = and_left (list_all up rs) (up middle && list_all up back) all in
      let at = and_left (up middle) (list_all up back) (and_right (list_all up rs) (up middle && list_all up back) all) in
      record {
        front_apart = and_both (le r.0 r.1) (list_all up rs && stand_apart le rs) own (and_both (list_all up rs) (stand_apart le rs) near more.front_apart);
        before = and_both (not (le middle.0 r.1)) (list_all (λ r. not (le middle.0 r.1)) rs) at more.before;
        proper = more.proper;
        behind = more.behind;
        back_apart = more.back_apart;
      }

  module _ (ranges front : List (X × X)) (middle : X × X) (back : List (X × X)) (z : X) (is : ranges ≡ front ++ middle ∷ back) (apart : stand_apart le ranges ≡ true) where
    abbrev has : List (X × X) → Bool
    has rs = list_any (λ r. le r.0 z && le z r.1) rs

    parts : AreApart front middle back
    parts = parted front middle back (sym (ap (stand_apart le) is) ∙ apart)

    whole : has ranges ≡ (has front || (holds z middle || has back))
    whole = ap has is ∙ list_any-append (λ r. le r.0 z && le z r.1) front (middle ∷ back)

    pub front_apart : stand_apart le front ≡ true
    front_apart = parts.front_apart

    pub back_apart : stand_apart le back ≡ true
    back_apart = parts.back_apart

    -- the value is below the middle
    pub in_front : le middle.0 z ≡ false → has front ≡ has ranges
    in_front wrong =
        let low = total middle.0 z wrong in
        let high = trans z middle.0 middle.1 low parts.proper in
        let none = or_none (holds z middle) (has back) (and_no (le middle.0 z) (le z middle.1) wrong) (none_behind middle.1 z back high parts.behind) in
        sym (whole ∙ or_nothing (has front) (holds z middle || has back) none)

    -- it is above the middle
    pub in_back : le z middle.1 ≡ false → has back ≡ has ranges
    in_back wrong =
        let high = total z middle.1 wrong in
        let low = trans middle.0 middle.1 z parts.proper high in
        let none = none_before middle.0 z front low parts.before in
        sym (whole ∙ or_more (has front) (holds z middle || has back) none ∙ or_more (holds z middle) (has back) (and_not (le middle.0 z) (le z middle.1) wrong))

    -- the middle has it
    pub in_middle : le middle.0 z ≡ true → le z middle.1 ≡ true → true ≡ has ranges
    in_middle low high = sym (whole ∙ or_here (has front) (holds z middle) (has back) (and_both (le middle.0 z) (le z middle.1) low high))

pub int_trans : (a b c : ℤ) → int_le a b ≡ true → int_le b c ≡ true → int_le a c ≡ true
int_trans a b c h k = grind (arith, ints)

pub int_total : (a b : ℤ) → int_le a b ≡ false → int_le b a ≡ true
int_total a b h = grind (arith, ints)

pub nat_trans : (a b c : ℕ) → nat_le a b ≡ true → nat_le b c ≡ true → nat_le a c ≡ true
nat_trans a b c h k = grind (arith, nat_tests)

pub nat_total : (a b : ℕ) → nat_le a b ≡ false → nat_le b a ≡ true
nat_total a b h = grind (arith, nat_tests)
