-- The canonical text of a number denotes that number.
use Rattle.std.proofs.Common.{◌≡◌, ℕ, ◌+◌, ◌-◌, ◌*◌, ◌/◌, ◌%◌, ◌<◌, ◌^◌, ◌≤◌, ℤ, pos, negsuc, Bool, true, false, cond, eqb, nat_eq, List, [], ◌∷◌, ◌++◌, length, take, drop, Option, Some, None, refl, sym, ap, ◌∙◌, arith, subst, zero, suc}
use Rattle.std.specs.Prelude.{is_some, not, ◌&&◌, ◌||◌, int_lt, unsigned_abs}
use Rattle.std.specs.List.{position, before_first, after_first}
use Rattle.std.proofs.lemmas.List.{drop_all, take_all}
use Rattle.std.proofs.lemmas.Bool.{false≢true}
use Rattle.std.proofs.lemmas.Bool.Decides.{nat_tests, Decides-eqb}
use Rattle.std.proofs.lemmas.Nat.{pow-add, div-add-mod', mod_below}
use Rattle.std.proofs.lemmas.Fmt.{decimal_is_IsNumeral}
use Rattle.std.proofs.Math.Nat.{div-le_self}
use Rattle.std.specs.Char.{digit_value, is_ascii_digit}
use Rattle.std.specs.Fmt.{decimal}
use Rattle.std.specs.Str.Parse.{digits_value, digits_value_after, starts_with_minus, without_leading_sign}
use Rattle.orc_value.specs.Numerals.{all_digits, is_numeral, signed, sign_text}
use Rattle.orc_value.specs.Integers.{int_value, int_text}
use Rattle.orc_value.specs.Decimals.{is_point, is_decimal, decimal_value, fraction_digits, fraction_text, places_text, decimal_text}
use Rattle.orc_value.specs.inside.Scaled.{are_zeros, units}
use Rattle.orc_value.proofs.IntegerLaws.{is_numeral-from, and_left, and_right}
use Rattle.orc_value.proofs.Digits.{digit_value-is}
use Rattle.orc_value.proofs.DecimalLaws.{ten_pow_pos, fraction-below_ten, fraction_digits-step}
use Rattle.orc_value.proofs.Points.{decimal-digits, before_first-digits, after_first-digits}
use Rattle.orc_value.proofs.Scales.{digits_value_after-append, digits_value_after-split}
use Rattle.orc_value.proofs.Cuts.{IsCut, decimal_value-some}

-- ---- signs

plain_digit : (d : ℕ) → is_ascii_digit d ≡ true → (eqb d 45 ≡ false) × (eqb d 43 ≡ false)
plain_digit d h = (minus d h, plus d h)
  where
    minus : (d : ℕ) → is_ascii_digit d ≡ true → eqb d 45 ≡ false
    minus d h = grind (arith, nat_tests)

    plus : (d : ℕ) → is_ascii_digit d ≡ true → eqb d 43 ≡ false
    plus d h = grind (arith, nat_tests)

not_negative : (n : ℕ) → int_lt (pos n) (pos 0) ≡ false
not_negative n = grind (arith, nat_tests)

sign_text-pos : (n : ℕ) → sign_text (pos n) ≡ []
sign_text-pos n = let pick : Bool → List ℕ = λ b. cond b (45 ∷ []) [] in ap pick (not_negative n)

without_leading_sign-digit : (d : ℕ) (ds : List ℕ) → is_ascii_digit d ≡ true → without_leading_sign (d ∷ ds) ≡ d ∷ ds
without_leading_sign-digit d ds h =
    let plain = plain_digit d h in
    let pick : Bool → Bool → List ℕ = λ m p. cond m ds (drop (cond p 1 0) (d ∷ ds)) in
    ap (λ (m : Bool). pick m (eqb d 43)) plain.0 ∙ ap (λ (p : Bool). pick false p) plain.1

-- after the sign of a number stands what begins with a digit
pub without_leading_sign-sign_text : (z : ℤ) (d : ℕ) (ds : List ℕ) → is_ascii_digit d ≡ true → without_leading_sign (sign_text z ++ d ∷ ds) ≡ d ∷ ds
without_leading_sign-sign_text (pos n) d ds h =
    ap (λ (sign : List ℕ). without_leading_sign (sign ++ d ∷ ds)) (sign_text-pos n) ∙ without_leading_sign-digit d ds h
without_leading_sign-sign_text (negsuc n) d ds h = refl

pub starts_with_minus-sign_text : (z : ℤ) (d : ℕ) (ds : List ℕ) → is_ascii_digit d ≡ true → starts_with_minus (sign_text z ++ d ∷ ds) ≡ int_lt z (pos 0)
starts_with_minus-sign_text (pos n) d ds h =
    ap (λ (sign : List ℕ). starts_with_minus (sign ++ d ∷ ds)) (sign_text-pos n) ∙ ((plain_digit d h).0 ∙ sym (not_negative n))
starts_with_minus-sign_text (negsuc n) d ds h = refl

pub signed-unsigned_abs : (z : ℤ) → signed (int_lt z (pos 0)) (unsigned_abs z) ≡ z
signed-unsigned_abs (pos n) = ap (λ (b : Bool). signed b n) (not_negative n)
signed-unsigned_abs (negsuc n) = refl

-- ---- integers

first_digit : (ds : List ℕ) → is_numeral ds ≡ true → (d : ℕ) × (rest : List ℕ) × (ds ≡ d ∷ rest) × (is_ascii_digit d ≡ true)
first_digit [] h = absurd (false≢true h)
first_digit (d ∷ ds) h =
    let digits = and_right (not (nat_eq (length (d ∷ ds)) 0)) (all_digits (d ∷ ds)) h in
    (d, ds, refl, and_left (is_ascii_digit d) (all_digits ds) digits)

pub decimal-is_numeral : (n : ℕ) → n < 2 ^ 64 → is_numeral (decimal n) ≡ true
decimal-is_numeral n small = is_numeral-from (decimal n) (decimal_is_IsNumeral n small).0

-- the sign and the digits of a number denote it
pub int_value-int_text : (z : ℤ) → unsigned_abs z < 2 ^ 64 → int_value (int_text z) ≡ Some z
int_value-int_text z small =
    let m = unsigned_abs z in
    let ds = decimal m in
    let numeral = decimal-is_numeral m small in
    let first = first_digit ds numeral in
    let digit = first.3 in
    let text : int_text z ≡ sign_text z ++ first.0 ∷ first.1 = ap (λ (xs : List ℕ). sign_text z ++ xs) first.2 in
    let body : without_leading_sign (int_text z) ≡ ds = ap without_leading_sign text ∙ (without_leading_sign-sign_text z first.0 first.1 digit ∙ sym first.2) in
    let minus : starts_with_minus (int_text z) ≡ int_lt z (pos 0) = ap starts_with_minus text ∙ starts_with_minus-sign_text z first.0 first.1 digit in
    let read : List ℕ → Bool → Option ℤ = λ xs b. cond (is_numeral xs) (Some (signed b (digits_value 10 xs))) None in
    let pick : Bool → Option ℤ = λ b. cond b (Some (signed (int_lt z (pos 0)) (digits_value 10 ds))) None in
    ap (λ (xs : List ℕ). read xs (starts_with_minus (int_text z))) body
    ∙ (ap (λ (b : Bool). read ds b) minus
    ∙ (ap pick numeral
    ∙ (ap (λ (v : ℕ). Some (signed (int_lt z (pos 0)) v)) (decimal_is_IsNumeral m small).1
    ∙ ap Some (signed-unsigned_abs z))))

-- ---- the digits after the point

-- the digits write r over ten to the power of n
pub record IsFraction (n r : ℕ) (ds : List ℕ) : Type 0 where
  pub digits : all_digits ds ≡ true
  pub short : length ds ≤ n
  pub value : digits_value 10 ds * 10 ^ (n - length ds) ≡ r

zero_times : (q r : ℕ) → r ≡ 0 → 0 * q ≡ r
zero_times q r none = omega arith

no_digits : (n r : ℕ) → r ≡ 0 → IsFraction n r []
no_digits n r none = record { digits = refl; short = omega arith; value = zero_times (10 ^ (n - 0)) r none }

digit_of : (q : ℕ) → q < 10 → is_ascii_digit (48 + q) ≡ true
digit_of q small = grind (arith, nat_tests)

join : (q a v b p s r t : ℕ) → a * b ≡ p → v * b ≡ s → q ≡ t → t * p + s ≡ r → (q * a + v) * b ≡ r
join q a v b p s r t ab vb qt whole =
    let q_ab : q * (a * b) ≡ q * p = ap (λ (x : ℕ). q * x) ab in
    let tp : t * p ≡ q * p = ap (λ (x : ℕ). x * p) (sym qt) in
    omega arith

one_more : (k r q : ℕ) (ds : List ℕ) → q < 10 → IsFraction k (r % 10 ^ k) ds → q ≡ r / 10 ^ k → IsFraction (suc k) r ((48 + q) ∷ ds)
one_more k r q ds small rest quotient =
    let digit = digit_of q small in
    let count : digit_value (48 + q) ≡ q = digit_value-is (48 + q) digit ∙ omega arith in
    let l = length ds in
    let v = digits_value 10 ds in
    let short = rest.short in
    let split : digits_value_after 10 (0 * 10 + digit_value (48 + q)) ds ≡ (0 * 10 + digit_value (48 + q)) * 10 ^ l + v = digits_value_after-split (0 * 10 + digit_value (48 + q)) ds in
    let counted : digits_value_after 10 (0 * 10 + digit_value (48 + q)) ds ≡ q * 10 ^ l + v = split ∙ ap (λ (d : ℕ). d * 10 ^ l + v) (ap (λ (d : ℕ). 0 * 10 + d) count ∙ omega arith) in
    let places : suc k - suc l ≡ k - l = omega arith in
    let exponents : l + (k - l) ≡ k = omega arith in
    let powers : 10 ^ l * 10 ^ (k - l) ≡ 10 ^ k = sym (pow-add 10 l (k - l)) ∙ ap (λ (e : ℕ). 10 ^ e) exponents in
    let whole : r / 10 ^ k * 10 ^ k + r % 10 ^ k ≡ r = div-add-mod' r (10 ^ k) in
    record {
      digits = both (is_ascii_digit (48 + q)) (all_digits ds) digit rest.digits;
      short = omega arith;
      value = ap (λ (x : ℕ). x * 10 ^ (suc k - suc l)) counted ∙ (ap (λ (e : ℕ). (q * 10 ^ l + v) * 10 ^ e) places
          ∙ join q (10 ^ l) v (10 ^ (k - l)) (10 ^ k) (r % 10 ^ k) r (r / 10 ^ k) powers rest.value quotient whole);
    }
  where
    both : (a b : Bool) → a ≡ true → b ≡ true → (a && b) ≡ true
    both true b p h = h
    both false b p h = absurd (false≢true p)

not_zero : (r : ℕ) → eqb r 0 ≡ false → 0 < r
not_zero r h = grind (arith, nat_tests)

fraction_step : (k r : ℕ) → r < 10 ^ suc k → (b : Bool) → eqb r 0 ≡ b → IsFraction k (r % 10 ^ k) (fraction_digits k (r % 10 ^ k))
    → IsFraction (suc k) r (cond b [] ((48 + r / 10 ^ k) ∷ fraction_digits k (r % 10 ^ k)))
fraction_step k r below true none rest = no_digits (suc k) r ((Decides-eqb r 0).0 none)
fraction_step k r below false some rest =
    let e : suc k - 1 ≡ k = omega arith in
    let small : r / 10 ^ (suc k - 1) < 10 = fraction-below_ten (suc k) r below (not_zero r some) in
    one_more k r (r / 10 ^ k) (fraction_digits k (r % 10 ^ k)) (subst (λ (i : ℕ). r / 10 ^ i < 10) e small) rest refl

pub fraction_digits-IsFraction : (n r : ℕ) → r < 10 ^ n → IsFraction n r (fraction_digits n r)
fraction_digits-IsFraction zero r below = no_digits 0 r (omega arith)
fraction_digits-IsFraction (suc k) r below =
    fraction_step k r below (eqb r 0) refl (fraction_digits-IsFraction k (r % 10 ^ k) (mod_below r (10 ^ k) (ten_pow_pos k)))

pub fraction_text-IsFraction : (n r : ℕ) → 1 ≤ n → r < 10 ^ n → IsFraction n r (fraction_text n r)
fraction_text-IsFraction n r least below = text_step n r least below (eqb r 0) refl
  where
    text_step : (n r : ℕ) → 1 ≤ n → r < 10 ^ n → (b : Bool) → eqb r 0 ≡ b → IsFraction n r (cond b (48 ∷ []) (fraction_digits n r))
    text_step n r least below true none = record { digits = refl; short = omega arith; value = zero_times (10 ^ (n - 1)) r ((Decides-eqb r 0).0 none) }
    text_step n r least below false some = fraction_digits-IsFraction n r below

some_digits : (ds : List ℕ) → 0 < length ds → all_digits ds ≡ true → is_numeral ds ≡ true
some_digits ds some digits = grind (arith, nat_tests)

pub fraction_text-is_numeral : (n r : ℕ) → 1 ≤ n → r < 10 ^ n → is_numeral (fraction_text n r) ≡ true
fraction_text-is_numeral n r least below = numeral_step n r below (eqb r 0) refl (fraction_text-IsFraction n r least below).digits
  where
    numeral_step : (n r : ℕ) → r < 10 ^ n → (b : Bool) → eqb r 0 ≡ b → all_digits (fraction_text n r) ≡ true → is_numeral (cond b (48 ∷ []) (fraction_digits n r)) ≡ true
    numeral_step n r below true none digits = refl
    numeral_step n r below false some digits =
        let step = fraction_digits-step n r below (not_zero r some) in
        let pick : Bool → List ℕ = λ b. cond b (48 ∷ []) (fraction_digits n r) in
        let same : fraction_text n r ≡ fraction_digits n r = ap pick some in
        let long : 0 < length (fraction_digits n r) = omega (arith, ap length step) in
        some_digits (fraction_digits n r) long (ap all_digits (sym same) ∙ digits)

-- the whole digits and those after the point write the number
units-places : (n m : ℕ) (f : List ℕ) → m < 2 ^ 64 → IsFraction n (m % 10 ^ n) f → units n (decimal (m / 10 ^ n)) f ≡ m
units-places n m f small fraction =
    let w = decimal (m / 10 ^ n) in
    let q = m / 10 ^ n in
    let l = length f in
    let less = div-le_self m (10 ^ n) in
    let count : digits_value 10 w ≡ q = (decimal_is_IsNumeral q (omega arith)).1 in
    let all : digits_value 10 (w ++ f) ≡ q * 10 ^ l + digits_value 10 f = digits_value_after-append 0 w f
    ∙ (digits_value_after-split (digits_value 10 w) f ∙ ap (λ (x : ℕ). x * 10 ^ l + digits_value 10 f) count) in
    let short = fraction.short in
    let exponents : l + (n - l) ≡ n = omega arith in
    let powers : 10 ^ l * 10 ^ (n - l) ≡ 10 ^ n = sym (pow-add 10 l (n - l)) ∙ ap (λ (e : ℕ). 10 ^ e) exponents in
    ap (λ (x : ℕ). x * 10 ^ (n - l)) all ∙ join q (10 ^ l) (digits_value 10 f) (10 ^ (n - l)) (10 ^ n) (m % 10 ^ n) m q powers fraction.value refl (div-add-mod' m (10 ^ n))

-- the canonical text of a value denotes it
pub decimal_value-decimal_text : (n : ℕ) (z : ℤ) → 1 ≤ n → n ≤ 18 → unsigned_abs z < 2 ^ 64 → decimal_value n (decimal_text n z) ≡ Some z
decimal_value-decimal_text n z least most small =
    let m = unsigned_abs z in
    let w = decimal (m / 10 ^ n) in
    let r = m % 10 ^ n in
    let f = fraction_text n r in
    let text = decimal_text n z in
    let less = div-le_self m (10 ^ n) in
    let below : r < 10 ^ n = mod_below m (10 ^ n) (ten_pow_pos n) in
    let numeral = decimal-is_numeral (m / 10 ^ n) (omega arith) in
    let digits = decimal-digits (m / 10 ^ n) (omega arith) in
    let fraction = fraction_text-IsFraction n r least below in
    let numeral_f = fraction_text-is_numeral n r least below in
    let first = first_digit w numeral in
    let body : places_text n m ≡ first.0 ∷ (first.1 ++ 46 ∷ f) = ap (λ (xs : List ℕ). xs ++ 46 ∷ f) first.2 in
    let whole_text : text ≡ sign_text z ++ first.0 ∷ (first.1 ++ 46 ∷ f) = ap (λ (xs : List ℕ). sign_text z ++ xs) body in
    let unsigned : without_leading_sign text ≡ w ++ 46 ∷ f = ap without_leading_sign whole_text ∙ (without_leading_sign-sign_text z first.0 (first.1 ++ 46 ∷ f) first.3 ∙ sym body) in
    let minus : starts_with_minus text ≡ int_lt z (pos 0) = ap starts_with_minus whole_text ∙ starts_with_minus-sign_text z first.0 (first.1 ++ 46 ∷ f) first.3 in
    let before : before_first is_point (without_leading_sign text) ≡ w = ap (λ (t : List ℕ). before_first is_point t) unsigned ∙ before_first-digits w f digits in
    let after : after_first is_point (without_leading_sign text) ≡ f = ap (λ (t : List ℕ). after_first is_point t) unsigned ∙ after_first-digits w f digits in
    let form : is_decimal text ≡ true = both_parts (is_numeral (before_first is_point (without_leading_sign text))) (is_numeral (after_first is_point (without_leading_sign text))) (not (is_some (position is_point (without_leading_sign text))))
    (ap is_numeral before ∙ numeral) (ap is_numeral after ∙ numeral_f) in
    let cut : IsCut n text w f = record { least = least; most = most; form = form; whole_is = sym before; fraction_is = sym after } in
    let none : drop n f ≡ [] = drop_all n f fraction.short in
    let zeros : are_zeros (drop n f) ≡ true = ap are_zeros none in
    let front : take n f ≡ f = take_all n f fraction.short in
    let number : units n w (take n f) ≡ m = ap (λ (xs : List ℕ). units n w xs) front ∙ units-places n m f small fraction in
    decimal_value-some n text w f cut zeros
    ∙ (ap (λ (b : Bool). Some (signed b (units n w (take n f)))) minus
    ∙ (ap (λ (v : ℕ). Some (signed (int_lt z (pos 0)) v)) number
    ∙ ap Some (signed-unsigned_abs z)))
  where
    both_parts : (a b c : Bool) → a ≡ true → b ≡ true → (a && (b || c)) ≡ true
    both_parts true true c p q = refl
    both_parts true false c p q = absurd (false≢true q)
    both_parts false b c p q = absurd (false≢true p)
