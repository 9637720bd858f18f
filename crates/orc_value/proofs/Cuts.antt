-- What a text that is cut at its point denotes.
use Rattle.std.proofs.Common.{◌≡◌, nat_eq, ℕ, ◌+◌, ◌<◌, ◌^◌, ◌≤◌, ℤ, pos, negsuc, Bool, true, false, cond, ltb, List, [], length, take, drop, Option, Some, None, refl, sym, ap, ◌∙◌, arith, subst, zero, suc}
use Rattle.std.specs.Prelude.{is_some, not, ◌&&◌, ◌||◌}
use Rattle.std.specs.List.{position, position_or_len, before_first, after_first}
use Rattle.std.proofs.lemmas.List.{drop_all}
use Rattle.std.proofs.lemmas.Bool.{false≢true}
use Rattle.std.proofs.lemmas.Bool.Decides.{nat_tests}
use Rattle.std.specs.Str.Parse.{starts_with_minus, without_leading_sign}
use Rattle.orc_value.specs.Numerals.{all_digits, is_numeral, signed}
use Rattle.orc_value.specs.Decimals.{is_point, whole_of, fraction_of, has_point, is_decimal, is_fraction_digits, scaled, is_scalable, decimal_value, is_decimal_value}
use Rattle.orc_value.specs.inside.Scaled.{are_zeros, units}
use Rattle.orc_value.proofs.IntegerLaws.{and_right}
use Rattle.orc_value.proofs.Scales.{scaled-is, is_scalable-yes, is_scalable-no}

-- the text is cut into these digits before and after its point
pub record IsCut (n : ℕ) (text whole fraction : List ℕ) : Type 0 where
  pub least : 1 ≤ n
  pub most : n ≤ 18
  pub form : is_decimal text ≡ true
  pub whole_is : whole ≡ whole_of text
  pub fraction_is : fraction ≡ fraction_of text

pub is_cut : (n : ℕ) (text bytes unsigned whole fraction : List ℕ) → 1 ≤ n → n ≤ 18
    → bytes ≡ text → unsigned ≡ without_leading_sign bytes
    → whole ≡ before_first is_point unsigned → fraction ≡ after_first is_point unsigned
    → true ≡ (is_numeral (before_first is_point unsigned) && (is_numeral (after_first is_point unsigned) || not (is_some (position is_point unsigned))))
    → IsCut n text whole fraction
is_cut n text bytes unsigned whole fraction least most same unsigned_is whole_is fraction_is form =
    let cut : unsigned ≡ without_leading_sign text = unsigned_is ∙ ap (λ (t : List ℕ). without_leading_sign t) same in
    record {
      least = least;
      most = most;
      form = ap (λ (u : List ℕ). is_numeral (before_first is_point u) && (is_numeral (after_first is_point u) || not (is_some (position is_point u)))) (sym cut) ∙ sym form;
      whole_is = whole_is ∙ ap (λ (u : List ℕ). before_first is_point u) cut;
      fraction_is = fraction_is ∙ ap (λ (u : List ℕ). after_first is_point u) cut;
    }

no_test : (b : Bool) (k : ℕ) → is_some (cond b (Some k) None) ≡ false → b ≡ false
no_test true k h = absurd (false≢true (sym h))
no_test false k h = refl

-- without a point nothing stands after it
pub after_first-none : (xs : List ℕ) → is_some (position is_point xs) ≡ false → after_first is_point xs ≡ []
after_first-none xs h =
    let k = position_or_len is_point xs in
    let past : ltb k (length xs) ≡ false = no_test (ltb k (length xs)) k h in
    drop_all (k + 1) xs (past_end k (length xs) past)
  where
    past_end : (k n : ℕ) → ltb k n ≡ false → n ≤ k + 1
    past_end k n h = grind (arith, nat_tests)

or_cases : (a p : Bool) (ds : List ℕ) → (is_numeral ds || not p) ≡ true → (p ≡ false → ds ≡ []) → all_digits ds ≡ true
or_cases a true ds h none = or_left (is_numeral ds) ds refl h
  where
    or_left : (b : Bool) (ds : List ℕ) → is_numeral ds ≡ b → (b || false) ≡ true → all_digits ds ≡ true
    or_left true ds e h = and_right (not (nat_eq (length ds) 0)) (all_digits ds) e
    or_left false ds e h = absurd (false≢true h)
or_cases a false ds h none = ap all_digits (none refl)

pub fraction-digits : (text : List ℕ) → is_decimal text ≡ true → all_digits (fraction_of text) ≡ true
fraction-digits text form =
    or_cases true (has_point text) (fraction_of text) (and_right (is_numeral (whole_of text)) (is_numeral (fraction_of text) || not (has_point text)) form)
    (after_first-none (without_leading_sign text))

is_fraction_digits-yes : (n : ℕ) → 1 ≤ n → n ≤ 18 → is_fraction_digits n ≡ true
is_fraction_digits-yes n least most = grind (arith, nat_tests)

both_true : (a b c : Bool) → a ≡ true → b ≡ true → (a && b && c) ≡ c
both_true true true c p q = refl
both_true true false c p q = absurd (false≢true q)
both_true false b c p q = absurd (false≢true p)

-- the value, where the digits past the n-th place are zeros, and else none
test_is : (n : ℕ) (text whole fraction : List ℕ) → IsCut n text whole fraction
    → (is_fraction_digits n && is_decimal text && is_scalable n (whole_of text) (fraction_of text)) ≡ is_scalable n (whole_of text) (fraction_of text)
test_is n text whole fraction cut =
    both_true (is_fraction_digits n) (is_decimal text) (is_scalable n (whole_of text) (fraction_of text)) (is_fraction_digits-yes n cut.least cut.most) cut.form

pub decimal_value-some : (n : ℕ) (text whole fraction : List ℕ) → IsCut n text whole fraction → are_zeros (drop n fraction) ≡ true
    → decimal_value n text ≡ Some (signed (starts_with_minus text) (units n whole (take n fraction)))
decimal_value-some n text whole fraction cut zeros =
    let w = whole_of text in
    let f = fraction_of text in
    let digits = fraction-digits text cut.form in
    let zeros_f : are_zeros (drop n f) ≡ true = subst (λ (xs : List ℕ). are_zeros (drop n xs) ≡ true) cut.fraction_is zeros in
    let yes = test_is n text whole fraction cut ∙ is_scalable-yes n w f digits zeros_f in
    let pick : Bool → Option ℤ = λ b. cond b (Some (signed (starts_with_minus text) (scaled n w f))) None in
    let number : scaled n w f ≡ units n whole (take n fraction) = scaled-is n w f digits
    ∙ (ap (λ (xs : List ℕ). units n xs (take n f)) (sym cut.whole_is) ∙ ap (λ (xs : List ℕ). units n whole (take n xs)) (sym cut.fraction_is)) in
    ap pick yes ∙ ap (λ (m : ℕ). Some (signed (starts_with_minus text) m)) number

pub decimal_value-none : (n : ℕ) (text whole fraction : List ℕ) → IsCut n text whole fraction → are_zeros (drop n fraction) ≡ false
    → decimal_value n text ≡ None
decimal_value-none n text whole fraction cut others =
    let w = whole_of text in
    let f = fraction_of text in
    let others_f : are_zeros (drop n f) ≡ false = subst (λ (xs : List ℕ). are_zeros (drop n xs) ≡ false) cut.fraction_is others in
    let no_scale = test_is n text whole fraction cut ∙ is_scalable-no n w f (fraction-digits text cut.form) others_f in
    let pick : Bool → Option ℤ = λ b. cond b (Some (signed (starts_with_minus text) (scaled n w f))) None in
    ap pick no_scale

-- a magnitude of more than 64 bits is no value
pub is_decimal_value-large : (b : Bool) (m : ℕ) → 2 ^ 64 ≤ m → is_decimal_value (signed b m) ≡ false
is_decimal_value-large false m large = large_pos m large
  where
    large_pos : (m : ℕ) → 2 ^ 64 ≤ m → is_decimal_value (pos m) ≡ false
    large_pos m large = grind (arith, nat_tests)
is_decimal_value-large true zero large = absurd (omega arith)
is_decimal_value-large true (suc m) large = large_neg m large
  where
    large_neg : (m : ℕ) → 2 ^ 64 ≤ suc m → is_decimal_value (negsuc m) ≡ false
    large_neg m large = grind (arith, nat_tests)

pub not_below : (m n : ℕ) → ¬ (m < n) → n ≤ m
not_below m n h = omega arith
