-- Numbers among the words.
use Rattle.std.proofs.Common.{◌≡◌, ℕ, ◌<◌, ◌^◌, ◌≢◌, Bool, true, false, not, cond, ◌&&◌, List, [], ◌∷◌, length, get_or, refl, ap, sym, ◌∙◌, eqb, nat_lt, Result, Ok, Err, Some, None, eq-eqb, lt-ltb, ltb-true}
use Rattle.std.specs.Str.{all_ascii_digits}
use Rattle.std.specs.Str.Parse.{ParsesUnsigned, digits_value}
use Rattle.std.specs.Cmp.{first_so, second_so}
use Rattle.std.proofs.lemmas.Str.Parse.{IsNumeralModel, numerals_by_value, tells_all_ascii_digits, parse_plain}
use Rattle.std.proofs.lemmas.Result.{OkIff-at_ok, OkIff-at_err}
use Rattle.orc_words.specs.Numbers.{has_sign, is_long_number, is_word_number, word_number}

own : IsNumeralModel (λ ds. all_ascii_digits ds ≡ true) (digits_value 10)
own = numerals_by_value (λ ds. all_ascii_digits ds ≡ true) tells_all_ascii_digits

not_plus : (w : List ℕ) → has_sign w ≡ false → get_or w 0 0 ≢ 43
not_plus [] e h = cc
not_plus (d ∷ ds) e h = let plus : eqb d 43 ≡ true = eq-eqb d 43 h in cc

-- what is left to look at, in a word without a sign that isn't too long
left : List ℕ → Bool
left w = nat_lt 0 (length w) && all_ascii_digits w && nat_lt (digits_value 10 w) (2 ^ 64)

short_so : (w : List ℕ) → has_sign w ≡ false → is_long_number w ≡ false → is_word_number w ≡ left w
unfolding left
short_so w plain short =
    ap (λ (b : Bool). not b && not (has_sign w) && nat_lt 0 (length w) && all_ascii_digits w && nat_lt (digits_value 10 w) (2 ^ 64)) short
    ∙ ap (λ (b : Bool). not b && nat_lt 0 (length w) && all_ascii_digits w && nat_lt (digits_value 10 w) (2 ^ 64)) plain

none_where : (w : List ℕ) → is_word_number w ≡ false → None ≡ word_number w
none_where w is = ap (λ (b : Bool). cond b (Some (digits_value 10 w)) None) (sym is)

pub long_none : (w : List ℕ) → is_long_number w ≡ true → None ≡ word_number w
long_none w long = none_where w
    (ap (λ (b : Bool). not b && not (has_sign w) && nat_lt 0 (length w) && all_ascii_digits w && nat_lt (digits_value 10 w) (2 ^ 64)) long)

pub signed_none : (w : List ℕ) → is_long_number w ≡ false → has_sign w ≡ true → None ≡ word_number w
signed_none w short signed = none_where w
    (ap (λ (b : Bool). not b && not (has_sign w) && nat_lt 0 (length w) && all_ascii_digits w && nat_lt (digits_value 10 w) (2 ^ 64)) short
    ∙ ap (λ (b : Bool). not b && nat_lt 0 (length w) && all_ascii_digits w && nat_lt (digits_value 10 w) (2 ^ 64)) signed)

both : (a b : Bool) → a ≡ true → b ≡ true → (a && b) ≡ true
both true b p q = q
both false b p q = p

is_so : (w : List ℕ) → (all_ascii_digits w ≡ true) × (0 < length w) × (digits_value 10 w < 2 ^ 64) → left w ≡ true
unfolding left
is_so w h =
    both (nat_lt 0 (length w) && all_ascii_digits w) (nat_lt (digits_value 10 w) (2 ^ 64))
    (both (nat_lt 0 (length w)) (all_ascii_digits w) (lt-ltb 0 (length w) h.1) h.0) (lt-ltb (digits_value 10 w) (2 ^ 64) h.2)

so_is : (w : List ℕ) → left w ≡ true → (all_ascii_digits w ≡ true) × (0 < length w) × (digits_value 10 w < 2 ^ 64)
unfolding left
so_is w h =
    let two = first_so (nat_lt 0 (length w) && all_ascii_digits w) (nat_lt (digits_value 10 w) (2 ^ 64)) h in (
      second_so (nat_lt 0 (length w)) (all_ascii_digits w) two,
      ltb-true 0 (length w) (first_so (nat_lt 0 (length w)) (all_ascii_digits w) two),
      ltb-true (digits_value 10 w) (2 ^ 64) (second_so (nat_lt 0 (length w) && all_ascii_digits w) (nat_lt (digits_value 10 w) (2 ^ 64)) h),
    )

pub number_some : {E : Type 0} (w : List ℕ) (r : Result ℕ E) (n : ℕ) → has_sign w ≡ false → is_long_number w ≡ false → ParsesUnsigned 64 10 w r → r ≡ Ok n
    → Some n ≡ word_number w
number_some w r n e short h is =
    let plain = OkIff-at_ok r _ _ n (parse_plain own 64 w r h (not_plus w e)) is in
    ap Some plain.1 ∙ ap (λ (b : Bool). cond b (Some (digits_value 10 w)) None) (sym (short_so w e short ∙ is_so w plain.0))

pub number_none : {E : Type 0} (w : List ℕ) (r : Result ℕ E) (f : E) → has_sign w ≡ false → is_long_number w ≡ false → ParsesUnsigned 64 10 w r → r ≡ Err f
    → None ≡ word_number w
number_none w r f e short h is =
    let bad = OkIff-at_err r _ _ f (parse_plain own 64 w r h (not_plus w e)) is in
    on bad (left w) refl
  where
    on : ((all_ascii_digits w ≡ true) × (0 < length w) × (digits_value 10 w < 2 ^ 64) → ⊥) → (t : Bool) → left w ≡ t → None ≡ word_number w
    on bad false is = ap (λ (b : Bool). cond b (Some (digits_value 10 w)) None) (sym (short_so w e short ∙ is))
    on bad true is = absurd (bad (so_is w is))
