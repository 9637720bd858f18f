-- Digits round a point as one number, at so many places.
use Rattle.std.proofs.Common.{◌≡◌, ◌&&◌, ℕ, ◌+◌, ◌-◌, ◌*◌, ◌/◌, ◌%◌, ◌<◌, ◌^◌, ◌≤◌, min, Bool, true, false, eqb, List, [], ◌∷◌, ◌++◌, length, take, drop, refl, sym, ap, ◌∙◌, arith, ⊎_elim, subst, length-drop}
use Rattle.std.proofs.lemmas.List.{take-append-drop, append_assoc, length-take}
use Rattle.std.proofs.lemmas.List.Elements.{All-drop, All-take}
use Rattle.std.proofs.lemmas.List.Sums.{AllPass-from_list_all, list_all-from_AllPass}
use Rattle.std.proofs.Math.Nat.{pow-suc, le-mul_of_pos_right, mul-lt-mul_of_pos_right}
use Rattle.std.proofs.lemmas.Nat.{pow-add, div-mul-add, mod-mul-add}
use Rattle.std.proofs.lemmas.Bool.{cases_lt, false≢true}
use Rattle.std.proofs.lemmas.Bool.Decides.{nat_tests, Decides-eqb}
use Rattle.std.proofs.lemmas.Int.Digits.{digits_value-lt}
use Rattle.std.specs.Char.{digit_value, is_ascii_digit}
use Rattle.std.specs.Str.Parse.{digits_value, digits_value_after}
use Rattle.orc_value.specs.Numerals.{all_digits}
use Rattle.orc_value.specs.Decimals.{scaled, is_scalable}
use Rattle.orc_value.specs.inside.Scaled.{are_zeros, units}
use Rattle.orc_value.proofs.Digits.{digits_value_after-le, digit_value-is}
use Rattle.orc_value.proofs.DecimalLaws.{ten_pow_pos}
use Rattle.orc_value.proofs.IntegerLaws.{numerals, and_left, and_right, not_true}

pub digits_value_after-append : (n : ℕ) (xs ys : List ℕ) → digits_value_after 10 n (xs ++ ys) ≡ digits_value_after 10 (digits_value_after 10 n xs) ys
digits_value_after-append n [] ys = refl
digits_value_after-append n (x ∷ xs) ys = digits_value_after-append (n * 10 + digit_value x) xs ys

split_step : (n v p b x y : ℕ) → x ≡ (n * 10 + v) * p + b → y ≡ (0 * 10 + v) * p + b → x ≡ n * (p * 10) + y
split_step n v p b x y here alone = omega arith

-- what stands before digits counts by their place
pub digits_value_after-split : (n : ℕ) (ds : List ℕ) → digits_value_after 10 n ds ≡ n * 10 ^ length ds + digits_value_after 10 0 ds
digits_value_after-split n [] = omega arith
digits_value_after-split n (d ∷ ds) =
    let p = 10 ^ length ds in
    let v = digit_value d in
    split_step n v p (digits_value_after 10 0 ds) (digits_value_after 10 (n * 10 + v) ds) (digits_value_after 10 (0 * 10 + v) ds)
    (digits_value_after-split (n * 10 + v) ds) (digits_value_after-split (0 * 10 + v) ds)
    ∙ ap (λ (q : ℕ). n * q + digits_value_after 10 (0 * 10 + v) ds) (sym (pow-suc 10 (length ds)))

-- the number before further digits, and before the places, is not more
pub units-is : (n : ℕ) (w f : List ℕ) → units n w f ≡ digits_value_after 10 (digits_value_after 10 0 w) f * 10 ^ (n - length f)
units-is n w f = ap (λ (v : ℕ). v * 10 ^ (n - length f)) (digits_value_after-append 0 w f)

pub units-large : (n : ℕ) (w f : List ℕ) → ¬ (digits_value_after 10 (digits_value_after 10 0 w) f < 2 ^ 64) → ¬ (units n w f < 2 ^ 64)
units-large n w f large small =
    let v = digits_value_after 10 (digits_value_after 10 0 w) f in
    let more : v ≤ v * 10 ^ (n - length f) = le-mul_of_pos_right v (ten_pow_pos (n - length f)) in
    let same = units-is n w f in
    large (omega arith)

pub units-large_whole : (n : ℕ) (w f : List ℕ) → ¬ (digits_value_after 10 0 w < 2 ^ 64) → ¬ (units n w f < 2 ^ 64)
units-large_whole n w f large = units-large n w f (λ small. large (omega (arith, digits_value_after-le (digits_value_after 10 0 w) f)))

-- zeros count nothing, and other digits something
pub are_zeros-value : (ds : List ℕ) → are_zeros ds ≡ true → digits_value_after 10 0 ds ≡ 0
are_zeros-value [] h = refl
are_zeros-value (d ∷ ds) h =
    let is_zero : d ≡ 48 = (Decides-eqb d 48).0 (and_left (eqb d 48) (are_zeros ds) h) in
    let count : 0 * 10 + digit_value d ≡ 0 = ap (λ (c : ℕ). 0 * 10 + digit_value c) is_zero in
    ap (λ (n : ℕ). digits_value_after 10 n ds) count ∙ are_zeros-value ds (and_right (eqb d 48) (are_zeros ds) h)

digit_some : (d : ℕ) → is_ascii_digit d ≡ true → eqb d 48 ≡ false → 0 < d - 48
digit_some d digit other = grind (arith, nat_tests)

not_zeros_step : (n d : ℕ) (ds : List ℕ) (b : Bool) → eqb d 48 ≡ b → is_ascii_digit d ≡ true → (b && are_zeros ds) ≡ false
    → (are_zeros ds ≡ false → 0 < digits_value_after 10 (n * 10 + digit_value d) ds) → 0 < digits_value_after 10 (n * 10 + digit_value d) ds
not_zeros_step n d ds true e digit h rest = rest h
not_zeros_step n d ds false e digit h rest =
    let value = digit_value-is d digit in
    let some = digit_some d digit e in
    let more = digits_value_after-le (n * 10 + digit_value d) ds in
    omega arith

pub not_zeros-value : (n : ℕ) (ds : List ℕ) → all_digits ds ≡ true → are_zeros ds ≡ false → 0 < digits_value_after 10 n ds
not_zeros-value n [] digits h = absurd (false≢true (sym h))
not_zeros-value n (d ∷ ds) digits h =
    let rest = and_right (is_ascii_digit d) (all_digits ds) digits in
    not_zeros_step n d ds (eqb d 48) refl (and_left (is_ascii_digit d) (all_digits ds) digits) h (not_zeros-value (n * 10 + digit_value d) ds rest)

pub all_digits-take : (n : ℕ) (ds : List ℕ) → all_digits ds ≡ true → all_digits (take n ds) ≡ true
all_digits-take n ds h =
    list_all-from_AllPass is_ascii_digit (take n ds) (All-take (λ (d : ℕ). is_ascii_digit d ≡ true) n ds (AllPass-from_list_all is_ascii_digit ds h))

pub all_digits-drop : (n : ℕ) (ds : List ℕ) → all_digits ds ≡ true → all_digits (drop n ds) ≡ true
all_digits-drop n ds h =
    list_all-from_AllPass is_ascii_digit (drop n ds) (All-drop (λ (d : ℕ). is_ascii_digit d ≡ true) n ds (AllPass-from_list_all is_ascii_digit ds h))

regroup : (a b p q r s : ℕ) → a * (p * q) ≡ a * (r * s) → (a * p + b) * q ≡ a * r * s + b * q
regroup a b p q r s e = omega arith

nothing : (q s : ℕ) → 0 < s → 0 * q < s
nothing q s some = omega arith

nothing_times : (q : ℕ) → 0 * q ≡ 0
nothing_times q = omega arith

-- what the digits past the n-th place count
far : ℕ → List ℕ → ℕ
far n f = digits_value_after 10 0 (drop n f) * 10 ^ n

scale_product : (n : ℕ) (w f : List ℕ) → digits_value 10 (w ++ f) * 10 ^ n ≡ units n w (take n f) * 10 ^ length f + far n f
unfolding far
scale_product n w f =
    let k = length f in
    let front = w ++ take n f in
    let a = digits_value 10 front in
    let b = digits_value_after 10 0 (drop n f) in
    let whole : front ++ drop n f ≡ w ++ f = append_assoc w (take n f) (drop n f) ∙ ap (λ (xs : List ℕ). w ++ xs) (take-append-drop n f) in
    let value : digits_value 10 (w ++ f) ≡ a * 10 ^ length (drop n f) + b = ap (λ (xs : List ℕ). digits_value 10 xs) (sym whole) ∙ (digits_value_after-append 0 front (drop n f) ∙ digits_value_after-split a (drop n f)) in
    let rest : length (drop n f) ≡ k - n = length-drop n f in
    let near : length (take n f) ≡ min n k = length-take n f in
    let value' : digits_value 10 (w ++ f) ≡ a * 10 ^ (k - n) + b = value ∙ ap (λ (e : ℕ). a * 10 ^ e + b) rest in
    let exponents : k - n + n ≡ n - min n k + k = omega arith in
    let powers : 10 ^ (k - n) * 10 ^ n ≡ 10 ^ (n - min n k) * 10 ^ k = sym (pow-add 10 (k - n) n) ∙ (ap (λ (e : ℕ). 10 ^ e) exponents ∙ pow-add 10 (n - min n k) k) in
    let scaled_by_a : a * (10 ^ (k - n) * 10 ^ n) ≡ a * (10 ^ (n - min n k) * 10 ^ k) = ap (λ (x : ℕ). a * x) powers in
    let left : digits_value 10 (w ++ f) * 10 ^ n ≡ (a * 10 ^ (k - n) + b) * 10 ^ n = ap (λ (x : ℕ). x * 10 ^ n) value' in
    let right : a * 10 ^ (n - length (take n f)) * 10 ^ k ≡ a * 10 ^ (n - min n k) * 10 ^ k = ap (λ (e : ℕ). a * 10 ^ (n - e) * 10 ^ k) near in
    left ∙ (regroup a b (10 ^ (k - n)) (10 ^ n) (10 ^ (n - min n k)) (10 ^ k) scaled_by_a ∙ ap (λ (x : ℕ). x + b * 10 ^ n) (sym right))

scale_below : (n : ℕ) (f : List ℕ) → all_digits f ≡ true → far n f < 10 ^ length f
unfolding far
scale_below n f digits =
    let k = length f in
    let b = digits_value_after 10 0 (drop n f) in
    let small : b < 10 ^ length (drop n f) = digits_value-lt 10 (drop n f) (numerals.to (drop n f) (all_digits-drop n f digits)) in
    let rest : length (drop n f) ≡ k - n = length-drop n f in
    let small' : b < 10 ^ (k - n) = subst (λ (e : ℕ). b < 10 ^ e) rest small in
    ⊎_elim (λ (short : k < n).
    let none : k - n ≡ 0 = omega arith in
    let one : b < 1 = subst (λ (e : ℕ). b < 10 ^ e) none small' in
    let zero_b : b ≡ 0 = omega arith in
    subst (λ (x : ℕ). x * 10 ^ n < 10 ^ k) (sym zero_b) (nothing (10 ^ n) (10 ^ k) (ten_pow_pos k)))
    (λ (long : n ≤ k).
    let exponents : k - n + n ≡ k = omega arith in
    let powers : 10 ^ (k - n) * 10 ^ n ≡ 10 ^ k = sym (pow-add 10 (k - n) n) ∙ ap (λ (e : ℕ). 10 ^ e) exponents in
    subst (λ (x : ℕ). b * 10 ^ n < x) powers (mul-lt-mul_of_pos_right small' (ten_pow_pos n))) (cases_lt k n)

-- digits past the n-th place are zeros just where the number is whole at n places
pub scaled-is : (n : ℕ) (w f : List ℕ) → all_digits f ≡ true → scaled n w f ≡ units n w (take n f)
scaled-is n w f digits =
    ap (λ (x : ℕ). x / 10 ^ length f) (scale_product n w f) ∙ div-mul-add (units n w (take n f)) (10 ^ length f) (far n f) (scale_below n f digits)

remainder : (n : ℕ) (w f : List ℕ) → all_digits f ≡ true → digits_value 10 (w ++ f) * 10 ^ n % 10 ^ length f ≡ far n f
remainder n w f digits =
    ap (λ (x : ℕ). x % 10 ^ length f) (scale_product n w f) ∙ mod-mul-add (units n w (take n f)) (10 ^ length f) (far n f) (scale_below n f digits)

pub is_scalable-yes : (n : ℕ) (w f : List ℕ) → all_digits f ≡ true → are_zeros (drop n f) ≡ true → is_scalable n w f ≡ true
unfolding far
is_scalable-yes n w f digits zeros =
    let none : far n f ≡ 0 = ap (λ (x : ℕ). x * 10 ^ n) (are_zeros-value (drop n f) zeros) ∙ nothing_times (10 ^ n) in
    (Decides-eqb (digits_value 10 (w ++ f) * 10 ^ n % 10 ^ length f) 0).1 (remainder n w f digits ∙ none)

pub is_scalable-no : (n : ℕ) (w f : List ℕ) → all_digits f ≡ true → are_zeros (drop n f) ≡ false → is_scalable n w f ≡ false
unfolding far
is_scalable-no n w f digits others =
    let b = digits_value_after 10 0 (drop n f) in
    let some : 0 < b = not_zeros-value 0 (drop n f) (all_digits-drop n f digits) others in
    let more : b ≤ b * 10 ^ n = le-mul_of_pos_right b (ten_pow_pos n) in
    let far_is = remainder n w f digits in
    not_true (is_scalable n w f) (λ whole. let none = (Decides-eqb (digits_value 10 (w ++ f) * 10 ^ n % 10 ^ length f) 0).0 whole in omega arith)
