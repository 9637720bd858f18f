-- The digits of a number: the last one, and the value of a text of digits.
use Rattle.std.proofs.Common.{◌≡◌, ◌≢◌, ℕ, ◌+◌, ◌-◌, ◌*◌, ◌/◌, ◌%◌, ◌^◌, ◌<◌, ◌≤◌, Bool, true, false, List, [], ◌∷◌, ◌++◌, length, get_or, take, refl, sym, ap, ◌∙◌, arith, ◌↔◌, length-append, drop, IsTrue, eqb, ⊎_elim}
use Rattle.std.proofs.lemmas.List.{take_more, append_assoc, nil_from_length}
use Rattle.std.proofs.Math.Seq.{take-length}
use Rattle.std.proofs.lemmas.Fmt.{decimal_digit, decimal_step}
use Rattle.std.proofs.lemmas.Bool.{false≢true, cases_lt}
use Rattle.std.proofs.lemmas.Bool.Decides.{Decides-eqb}
use Rattle.std.proofs.lemmas.List.{at_drop_more}
use Rattle.std.proofs.lemmas.List.Sums.{AllPass-from_list_all}
use Rattle.std.proofs.lemmas.Bool.Decides.{nat_tests}
use Rattle.std.specs.Char.{digit_value, is_ascii_digit}
use Rattle.orc_value.specs.Numerals.{all_digits}
use Rattle.std.specs.Fmt.{decimal}
use Rattle.std.specs.Str.Parse.{digits_value_after}

-- a list and a last element
pub snoc_same : (xs ys : List ℕ) (a b : ℕ) → xs ++ a ∷ [] ≡ ys ++ b ∷ [] → (xs ≡ ys) × (a ≡ b)
snoc_same [] [] a b e = (refl, cc)
snoc_same [] (y ∷ ys) a b e = absurd (omega (arith, simp length-append at (ap length e)))
snoc_same (x ∷ xs) [] a b e = absurd (omega (arith, simp length-append at (ap length e)))
snoc_same (x ∷ xs) (y ∷ ys) a b e =
    let tails : xs ++ a ∷ [] ≡ ys ++ b ∷ [] = cc in
    let both = snoc_same xs ys a b tails in
    let heads : x ≡ y = cc in
    let front : xs ≡ ys = both.0 in
    (cc, both.1)

pub snoc_of : (text : List ℕ) → 0 < length text → text ≡ take (length text - 1) text ++ get_or text (length text - 1) 0 ∷ []
snoc_of text some =
    let more = take_more text (length text - 1) 0 (omega arith) in
    let all : length text - 1 + 1 ≡ length text = omega arith in
    sym (take-length text) ∙ (ap (λ (k : ℕ). take k text) (sym all) ∙ more)

-- the digits of a number end in its last digit
pub decimal-one : (n : ℕ) → n < 10 → decimal n ≡ [] ++ (48 + n % 10) ∷ []
decimal-one n small = let e : n % 10 ≡ n = omega arith in rw e (decimal_digit n small)

pub decimal-push : (n : ℕ) (old : List ℕ) → 10 ≤ n → n < 2 ^ 64 → (old ++ decimal (n / 10)) ++ (48 + n % 10) ∷ [] ≡ old ++ decimal n
decimal-push n old large fits =
    append_assoc old (decimal (n / 10)) ((48 + n % 10) ∷ []) ∙ ap (λ (ds : List ℕ). old ++ ds) (sym (decimal_step n large fits))

-- a text is the digits of a number just where its last byte and those before it are
pub by_last : (n : ℕ) (text front : List ℕ) → 0 < length text → decimal n ≡ front ++ (48 + n % 10) ∷ []
    → get_or text (length text - 1) 0 ≡ 48 + n % 10
    → (take (length text - 1) text ≡ front) ↔ (text ≡ decimal n)
by_last n text front some digits last =
    let whole = snoc_of text some in (
      λ same. whole ∙ (ap (λ (ds : List ℕ). ds ++ get_or text (length text - 1) 0 ∷ []) same ∙ (ap (λ (d : ℕ). front ++ d ∷ []) last ∙ sym digits)),
      λ e. (snoc_same (take (length text - 1) text) front (get_or text (length text - 1) 0) (48 + n % 10) (sym whole ∙ (e ∙ digits))).0,
    )

pub wrong_last : (n : ℕ) (text front : List ℕ) → 0 < length text → decimal n ≡ front ++ (48 + n % 10) ∷ []
    → get_or text (length text - 1) 0 ≢ 48 + n % 10 → text ≢ decimal n
wrong_last n text front some digits last e =
    last (snoc_same (take (length text - 1) text) front (get_or text (length text - 1) 0) (48 + n % 10) (sym (snoc_of text some) ∙ (e ∙ digits))).1

-- the digits of each number: a prefix, and then its last digit
pub decimal-ends : (n : ℕ) → n < 2 ^ 64 → (front : List ℕ) × (decimal n ≡ front ++ (48 + n % 10) ∷ [])
decimal-ends n fits = ⊎_elim (λ small. ([], decimal-one n small)) (λ large. (decimal (n / 10), decimal_step n large fits)) (cases_lt n 10)

-- further digits make no number less
pub digits_value_after-le : (n : ℕ) (ds : List ℕ) → n ≤ digits_value_after 10 n ds
digits_value_after-le n [] = omega arith
digits_value_after-le n (d ∷ ds) = omega (arith, digits_value_after-le (n * 10 + digit_value d) ds)

-- a test that fails where the fact can't hold
pub never : {P : Type 0} → (P → ⊥) → IsTrue false ↔ P
never denied = (λ wrong. absurd (false≢true wrong), λ p. absurd (denied p))

pub iff_trans : {P Q R : Type 0} → P ↔ Q → Q ↔ R → P ↔ R
iff_trans f g = (λ p. g.0 (f.0 p), λ r. f.1 (g.1 r))

pub empty_test : (r : Bool) (xs : List ℕ) → r ≡ eqb (length xs) 0 → IsTrue r ↔ (xs ≡ [])
empty_test r xs e =
    let test = Decides-eqb (length xs) 0 in
    (λ yes. nil_from_length xs (test.0 (sym e ∙ yes)), λ nil. e ∙ test.1 (ap length nil))

-- what a digit counts
pub digit_value-is : (d : ℕ) → is_ascii_digit d ≡ true → digit_value d ≡ d - 48
digit_value-is d h = grind (arith, nat_tests)

-- where the digits read so far and one more are too large, so are all digits
pub too_large : (start n i : ℕ) (ds : List ℕ) → i < length ds → all_digits ds ≡ true
    → digits_value_after 10 n (drop i ds) ≡ digits_value_after 10 start ds
    → ¬ (n * 10 + (get_or ds i 0 - 48) < 2 ^ 64) → ¬ (digits_value_after 10 start ds < 2 ^ 64)
too_large start n i ds below digits reads large small =
    let digit : digit_value (get_or ds i 0) ≡ get_or ds i 0 - 48 = digit_value-is (get_or ds i 0) (AllPass-from_list_all is_ascii_digit ds digits i 0 below) in
    let step : digits_value_after 10 n (drop i ds) ≡ digits_value_after 10 (n * 10 + digit_value (get_or ds i 0)) (drop (i + 1) ds) = at_drop_more (digits_value_after 10 n) ds i 0 below in
    let more = digits_value_after-le (n * 10 + digit_value (get_or ds i 0)) (drop (i + 1) ds) in
    large (omega arith)
