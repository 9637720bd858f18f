-- The canonical text of a number is read as a bound.
use Rattle.std.proofs.Common.{◌≡◌, ℕ, zero, suc, ◌+◌, ◌/◌, ◌%◌, ◌<◌, ◌≤◌, ◌^◌, ℤ, pos, negsuc, Bool, true, false, cond, eqb, List, [], ◌∷◌, ◌++◌, length, drop, Option, Some, None, refl, ap, ◌∙◌, arith, ⊎_elim}
use Rattle.std.specs.Prelude.{◌&&◌, ◌||◌, not, int_lt, unsigned_abs, option_and_then}
use Rattle.std.specs.Char.{is_ascii_digit}
use Rattle.std.specs.Fmt.{decimal}
use Rattle.std.specs.Str.Parse.{starts_with_minus}
use Rattle.std.proofs.lemmas.Bool.{false≢true, cases_lt}
use Rattle.std.proofs.lemmas.Bool.Decides.{nat_tests}
use Rattle.std.proofs.lemmas.Fmt.{decimal_digit, decimal_step, decimal_nonempty}
use Rattle.orc_value.specs.Numerals.{all_digits, is_numeral, sign_text}
use Rattle.orc_value.specs.Integers.{int_value, int_text, is_64_bit}
use Rattle.orc_value.proofs.IntegerLaws.{and_left, and_right, is_64_bit-abs}
use Rattle.orc_value.proofs.RoundTrips.{decimal-is_numeral, int_value-int_text}
use Rattle.orc_types.specs.Numbers.{only_if, starts_with_zero, is_count, is_whole}
use Rattle.orc_types.specs.Laws.{NumbersReadBack}

-- ---- no digits of a number begin with `0` but those of 0

starts_with_zero-append : (xs ys : List ℕ) → 0 < length xs → starts_with_zero (xs ++ ys) ≡ starts_with_zero xs
starts_with_zero-append [] ys some = absurd (omega arith)
starts_with_zero-append (x ∷ xs) ys some = refl

one_digit : (n : ℕ) → 0 < n → eqb (48 + n) 48 ≡ false
one_digit n some = grind (arith, nat_tests)

two_digits : (n : ℕ) → 10 ≤ n → n < 2 ^ 64 → starts_with_zero (decimal (n / 10)) ≡ false → starts_with_zero (decimal n) ≡ false
two_digits n large fits shorter =
    ap starts_with_zero (decimal_step n large fits) ∙ (starts_with_zero-append (decimal (n / 10)) ((48 + n % 10) ∷ []) (decimal_nonempty (n / 10) (omega arith)) ∙ shorter)

digits_pick : (n : ℕ) → n < 2 ^ 64 → 0 < n → (0 < n / 10 → starts_with_zero (decimal (n / 10)) ≡ false) → starts_with_zero (decimal n) ≡ false
digits_pick n fits some shorter =
    ⊎_elim (λ small. ap starts_with_zero (decimal_digit n small) ∙ one_digit n some) (λ large. two_digits n large fits (shorter (omega arith))) (cases_lt n 10)

no_zero : (most n : ℕ) → n < most → n < 2 ^ 64 → 0 < n → starts_with_zero (decimal n) ≡ false
no_zero zero n within fits some = absurd (omega arith)
no_zero (suc most) n within fits some = digits_pick n fits some (no_zero most (n / 10) (omega arith) (omega arith))

count_from : (text : List ℕ) → is_numeral text ≡ true → starts_with_zero text ≡ false → is_count text ≡ true
count_from text numeral none =
    ap (λ (b : Bool). b && (eqb (length text) 1 || not (starts_with_zero text))) numeral ∙ (ap (λ (b : Bool). eqb (length text) 1 || not b) none ∙ or_true (eqb (length text) 1))
  where
    or_true : (b : Bool) → (b || true) ≡ true
    or_true true = refl
    or_true false = refl

decimal-is_count : (n : ℕ) → n < 2 ^ 64 → is_count (decimal n) ≡ true
decimal-is_count zero fits = ap is_count (decimal_digit 0 (omega arith))
decimal-is_count (suc n) fits =
    count_from (decimal (suc n)) (decimal-is_numeral (suc n) fits) (no_zero (suc n + 1) (suc n) (omega arith) fits (omega arith))

-- ---- signs

not_negative : (n : ℕ) → int_lt (pos n) (pos 0) ≡ false
not_negative n = grind (arith, nat_tests)

sign_text-pos : (n : ℕ) → sign_text (pos n) ≡ []
sign_text-pos n = let pick : Bool → List ℕ = λ b. cond b (45 ∷ []) [] in ap pick (not_negative n)

digit_not_minus : (d : ℕ) → is_ascii_digit d ≡ true → eqb d 45 ≡ false
digit_not_minus d h = grind (arith, nat_tests)

numeral_not_minus : (text : List ℕ) → is_numeral text ≡ true → starts_with_minus text ≡ false
numeral_not_minus [] h = absurd (false≢true h)
numeral_not_minus (d ∷ ds) h =
    digit_not_minus d (and_left (is_ascii_digit d) (all_digits ds) (and_right (not (eqb (length (d ∷ ds)) 0)) (all_digits (d ∷ ds)) h))

whole_without : (text : List ℕ) → starts_with_minus text ≡ false → is_count text ≡ true → is_whole text ≡ true
whole_without text plain count = ap (λ (b : Bool). is_count (cond b (drop 1 text) text)) plain ∙ count

int_text-is_whole : (z : ℤ) → unsigned_abs z < 2 ^ 64 → is_whole (int_text z) ≡ true
int_text-is_whole (pos n) small =
    ap (λ (sign : List ℕ). is_whole (sign ++ decimal n)) (sign_text-pos n) ∙ whole_without (decimal n) (numeral_not_minus (decimal n) (decimal-is_numeral n small)) (decimal-is_count n small)
int_text-is_whole (negsuc n) small = decimal-is_count (suc n) small

passes : (z : ℤ) → is_64_bit z ≡ true → only_if is_64_bit z ≡ Some z
passes z h = let pick : Bool → Option ℤ = λ b. cond b (Some z) None in ap pick h

pub numbers_read_back : NumbersReadBack
numbers_read_back z h =
    let small = is_64_bit-abs z h in
    let text = int_text z in
    let pick : Bool → Option ℤ = λ b. cond b (option_and_then (only_if is_64_bit) (int_value text)) None in
    ap pick (int_text-is_whole z small) ∙ (ap (option_and_then (only_if is_64_bit)) (int_value-int_text z small) ∙ passes z h)
