-- Numbers in decimal.
use Rattle.std.proofs.Common.{◌≡◌, ℕ, ◌<◌, ◌^◌, ◌≢◌, Bool, true, false, not, cond, ◌&&◌, List, [], ◌∷◌, length, get_or, refl, ap, sym, ◌∙◌, eqb, nat_lt, Result, Ok, Err, Some, None, eq-eqb, lt-ltb, ltb-true}
use Rattle.std.specs.Str.{all_ascii_digits}
use Rattle.std.specs.Str.Parse.{ParsesUnsigned, digits_value}
use Rattle.std.specs.Cmp.{first_so, second_so}
use Rattle.std.proofs.lemmas.Str.Parse.{IsNumeralModel, numerals_by_value, tells_all_ascii_digits, parse_plain}
use Rattle.std.proofs.lemmas.Result.{OkIff-at_ok, OkIff-at_err}
use Rattle.orc_lines.specs.Words.{is_padded, is_number, number_in}

pub own : IsNumeralModel (λ ds. all_ascii_digits ds ≡ true) (digits_value 10)
own = numerals_by_value (λ ds. all_ascii_digits ds ≡ true) tells_all_ascii_digits

both : (a b : Bool) → a ≡ true → b ≡ true → (a && b) ≡ true
both true b p q = q
both false b p q = p

not_plus : (w : List ℕ) → is_padded w ≡ false → get_or w 0 0 ≢ 43
not_plus [] e h = cc
not_plus (d ∷ ds) e h = let plus : eqb d 43 ≡ true = eq-eqb d 43 h in cc

pub padded_none : (w : List ℕ) → is_padded w ≡ true → None ≡ number_in w
padded_none w e = ap (λ (p : Bool). cond (not p && nat_lt 0 (length w) && all_ascii_digits w && nat_lt (digits_value 10 w) (2 ^ 64)) (Some (digits_value 10 w)) None) (sym e)

is_so : (w : List ℕ) → is_padded w ≡ false → (all_ascii_digits w ≡ true) × (0 < length w) × (digits_value 10 w < 2 ^ 64) → is_number w ≡ true
is_so w e h =
    let plain : not (is_padded w) ≡ true = ap not e in
    both (not (is_padded w) && nat_lt 0 (length w) && all_ascii_digits w) (nat_lt (digits_value 10 w) (2 ^ 64))
    (both (not (is_padded w) && nat_lt 0 (length w)) (all_ascii_digits w)
    (both (not (is_padded w)) (nat_lt 0 (length w)) plain (lt-ltb 0 (length w) h.1)) h.0) (lt-ltb (digits_value 10 w) (2 ^ 64) h.2)

so_is : (w : List ℕ) → is_number w ≡ true → (all_ascii_digits w ≡ true) × (0 < length w) × (digits_value 10 w < 2 ^ 64)
so_is w h =
    let three = first_so (not (is_padded w) && nat_lt 0 (length w) && all_ascii_digits w) (nat_lt (digits_value 10 w) (2 ^ 64)) h in
    let two = first_so (not (is_padded w) && nat_lt 0 (length w)) (all_ascii_digits w) three in (
      second_so (not (is_padded w) && nat_lt 0 (length w)) (all_ascii_digits w) three,
      ltb-true 0 (length w) (second_so (not (is_padded w)) (nat_lt 0 (length w)) two),
      ltb-true (digits_value 10 w) (2 ^ 64) (second_so (not (is_padded w) && nat_lt 0 (length w) && all_ascii_digits w) (nat_lt (digits_value 10 w) (2 ^ 64)) h),
    )

pub number_some : {E : Type 0} (w : List ℕ) (r : Result ℕ E) (n : ℕ) → is_padded w ≡ false → ParsesUnsigned 64 10 w r → r ≡ Ok n → Some n ≡ number_in w
number_some w r n e h is =
    let plain = OkIff-at_ok r _ _ n (parse_plain own 64 w r h (not_plus w e)) is in
    ap Some plain.1 ∙ ap (λ (b : Bool). cond b (Some (digits_value 10 w)) None) (sym (is_so w e plain.0))

pub number_none : {E : Type 0} (w : List ℕ) (r : Result ℕ E) (f : E) → is_padded w ≡ false → ParsesUnsigned 64 10 w r → r ≡ Err f → None ≡ number_in w
number_none w r f e h is =
    let bad = OkIff-at_err r _ _ f (parse_plain own 64 w r h (not_plus w e)) is in
    on bad (is_number w) refl where
      on : ((all_ascii_digits w ≡ true) × (0 < length w) × (digits_value 10 w < 2 ^ 64) → ⊥) → (t : Bool) → is_number w ≡ t → None ≡ number_in w
      on bad false is = ap (λ (b : Bool). cond b (Some (digits_value 10 w)) None) (sym is)
      on bad true is = absurd (bad (so_is w is))
