-- A text that is cut at its first point.
use Rattle.std.proofs.Common.{◌≡◌, ◌≢◌, ℕ, ◌+◌, ◌<◌, Bool, true, false, cond, ltb, List, [], ◌∷◌, ◌++◌, length, get_or, take, drop, Some, None, refl, sym, ap, ◌∙◌, arith, ◌↔◌, IsTrue, ◌^◌, ◌/◌, suc, length-append}
use Rattle.std.specs.Prelude.{is_some, not}
use Rattle.std.specs.List.{position, position_or_len, before_first, after_first}
use Rattle.std.specs.Char.{is_ascii_digit}
use Rattle.std.proofs.lemmas.Bool.{false≢true}
use Rattle.std.proofs.lemmas.Bool.Decides.{nat_tests, Decides-eqb, Decides-ltb}
use Rattle.std.proofs.lemmas.List.Sums.{split_at_first, passes_at_first}
use Rattle.std.proofs.lemmas.Fmt.{decimal_is_IsNumeral}
use Rattle.std.specs.Fmt.{decimal}
use Rattle.std.proofs.Math.Nat.{div-le_self}
use Rattle.std.proofs.Math.Seq.{take-append_seam}
use Rattle.orc_value.specs.Numerals.{all_digits}
use Rattle.orc_value.specs.Decimals.{is_point}
use Rattle.orc_value.proofs.IntegerLaws.{numerals, and_left, and_right}

-- a digit is no point
pub digit_no_point : (d : ℕ) → is_ascii_digit d ≡ true → is_point d ≡ false
digit_no_point d h = grind (arith, nat_tests)

-- the first point stands after the digits
pub position_or_len-digits : (ds f : List ℕ) → all_digits ds ≡ true → position_or_len is_point (ds ++ 46 ∷ f) ≡ length ds
position_or_len-digits [] f h = refl
position_or_len-digits (d ∷ ds) f h =
    let first : is_point d ≡ false = digit_no_point d (and_left (is_ascii_digit d) (all_digits ds) h) in
    let rest = position_or_len-digits ds f (and_right (is_ascii_digit d) (all_digits ds) h) in
    let pick : Bool → ℕ = λ b. cond (not b) (1 + position_or_len is_point (ds ++ 46 ∷ f)) 0 in
    ap pick first ∙ omega (arith, rest)

pub before_first-digits : (ds f : List ℕ) → all_digits ds ≡ true → before_first is_point (ds ++ 46 ∷ f) ≡ ds
before_first-digits ds f h = ap (λ (k : ℕ). take k (ds ++ 46 ∷ f)) (position_or_len-digits ds f h) ∙ take-append_seam ds (46 ∷ f)

drop_past : (ds f : List ℕ) → drop (length ds + 1) (ds ++ 46 ∷ f) ≡ f
drop_past [] f = refl
drop_past (d ∷ ds) f =
    let e : suc (length ds) + 1 ≡ suc (length ds + 1) = omega arith in
    rw e (drop_past ds f)

pub after_first-digits : (ds f : List ℕ) → all_digits ds ≡ true → after_first is_point (ds ++ 46 ∷ f) ≡ f
after_first-digits ds f h = ap (λ (k : ℕ). drop (k + 1) (ds ++ 46 ∷ f)) (position_or_len-digits ds f h) ∙ drop_past ds f

-- the text has a point there
pub position-digits : (ds f : List ℕ) → all_digits ds ≡ true → is_some (position is_point (ds ++ 46 ∷ f)) ≡ true
position-digits ds f h =
    let text = ds ++ 46 ∷ f in
    let place = position_or_len-digits ds f h in
    let long = length-append ds (46 ∷ f) in
    let below : ltb (position_or_len is_point text) (length text) ≡ true = (Decides-ltb (position_or_len is_point text) (length text)).1 (omega arith) in
    let pick : Bool → Bool = λ b. is_some (cond b (Some (position_or_len is_point text)) None) in
    ap pick below

some_test : (b : Bool) (k : ℕ) → is_some (cond b (Some k) None) ≡ true → b ≡ true
some_test true k h = refl
some_test false k h = h

-- the first point, between what stands before it and after it
pub cut_at_point : (text : List ℕ) → is_some (position is_point text) ≡ true → text ≡ before_first is_point text ++ 46 ∷ after_first is_point text
cut_at_point text h =
    let k = position_or_len is_point text in
    let below : k < length text = (Decides-ltb k (length text)).0 (some_test (ltb k (length text)) k h) in
    let point : get_or text k 0 ≡ 46 = (Decides-eqb (get_or text k 0) 46).0 (passes_at_first is_point text 0 below) in
    split_at_first is_point text 0 below ∙ ap (λ (c : ℕ). before_first is_point text ++ c ∷ after_first is_point text) point

-- a text is digits, a point and the rest just where it is cut so
pub cut_is : (text ds f : List ℕ) → all_digits ds ≡ true → is_some (position is_point text) ≡ true → before_first is_point text ≡ ds
    → (after_first is_point text ≡ f) ↔ (text ≡ ds ++ 46 ∷ f)
cut_is text ds f digits has before = (
  λ after. cut_at_point text has ∙ (ap (λ (xs : List ℕ). xs ++ 46 ∷ after_first is_point text) before ∙ ap (λ (ys : List ℕ). ds ++ 46 ∷ ys) after),
  λ e. ap (λ (t : List ℕ). after_first is_point t) e ∙ after_first-digits ds f digits,
)

pub cut_wrong : (text ds f : List ℕ) → all_digits ds ≡ true → before_first is_point text ≢ ds → text ≢ ds ++ 46 ∷ f
cut_wrong text ds f digits wrong e = wrong (ap (λ (t : List ℕ). before_first is_point t) e ∙ before_first-digits ds f digits)

pub cut_none : (text ds f : List ℕ) → all_digits ds ≡ true → is_some (position is_point text) ≡ false → text ≢ ds ++ 46 ∷ f
cut_none text ds f digits none e =
    false≢true (sym none ∙ (ap (λ (t : List ℕ). is_some (position is_point t)) e ∙ position-digits ds f digits))

-- once these digits stand before the point, a test of what stands after it decides whether the text is made of both
pub cut_test : (text before after ds f : List ℕ) (r : Bool) → all_digits ds ≡ true → is_some (position is_point text) ≡ true
    → before ≡ before_first is_point text → after ≡ after_first is_point text → before ≡ ds → IsTrue r ↔ (after ≡ f)
    → IsTrue r ↔ (text ≡ ds ++ 46 ∷ f)
cut_test text before after ds f r digits has before_is after_is same test =
    let cut = cut_is text ds f digits has (sym before_is ∙ same) in
    (λ yes. cut.0 (sym after_is ∙ test.0 yes), λ e. test.1 (after_is ∙ cut.1 e))

pub decimal-digits : (n : ℕ) → n < 2 ^ 64 → all_digits (decimal n) ≡ true
decimal-digits n small = numerals.from (decimal n) ((decimal_is_IsNumeral n small).0.1)

pub quotient-digits : (n k : ℕ) → n < 2 ^ 64 → all_digits (decimal (n / k)) ≡ true
quotient-digits n k small = decimal-digits (n / k) (omega (arith, div-le_self n k))
