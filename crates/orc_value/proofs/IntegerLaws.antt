-- Integers: what `parse` reads, and their bounds.
use Rattle.std.proofs.Common.{◌≡◌, ℕ, ◌<◌, ◌^◌, ℤ, pos, negsuc, Bool, true, false, List, length, Option, Some, None, Result, Ok, Err, refl, sym, ap, ◌∙◌, arith, rules, cond, subst}
use Rattle.std.specs.Prelude.{unsigned_abs, ◌&&◌}
use Rattle.std.specs.Int.RustNames.{FitsSigned}
use Rattle.std.specs.Int.{w128}
use Rattle.std.specs.Str.Parse.{IsNumeral, without_leading_sign, signed_digits_value, digits_value}
use Rattle.std.proofs.lemmas.Str.Parse.{IsNumeralModel, numerals_by_value}
use Rattle.std.proofs.lemmas.Bool.Decides.{nat_tests}
use Rattle.std.proofs.lemmas.Bool.{false≢true}
use Rattle.std.proofs.lemmas.Int.{fits_signed_from_abs, to_z-of_z}
use mir.Val.{to_z, of_z}
use Rattle.orc_value.specs.declared.kind.IntKind.{IntKind}
use Rattle.orc_value.specs.Numerals.{all_digits, is_numeral, admitted}
use Rattle.orc_value.specs.Integers.{int_value, is_64_bit, in_ranges, has_integer}

-- the digits of `parse`
pub numerals : IsNumeralModel (λ ds. all_digits ds ≡ true) (digits_value 10)
numerals = numerals_by_value _ (search rules)

pub is_numeral-from : (ds : List ℕ) → IsNumeral 10 ds → is_numeral ds ≡ true
is_numeral-from ds h =
    let digits : all_digits ds ≡ true = numerals.from ds h.1 in
    let some : 0 < length ds = h.0 in
    grind (arith, nat_tests)

pub IsNumeral-from : (ds : List ℕ) → is_numeral ds ≡ true → IsNumeral 10 ds
IsNumeral-from ds h =
    (grind (arith, nat_tests), numerals.to ds (grind (arith, nat_tests)))

pub not_true : (b : Bool) → (b ≡ true → ⊥) → b ≡ false
not_true true h = absurd (h refl)
not_true false h = refl

within : (n : ℕ) → n < 2 ^ 64 → n < 2 ^ 127
within n h = omega arith

pub is_64_bit-abs : (z : ℤ) → is_64_bit z ≡ true → unsigned_abs z < 2 ^ 64
is_64_bit-abs (pos n) h = grind (arith, nat_tests)
is_64_bit-abs (negsuc n) h = grind (arith, nat_tests)

pub and_left : (a b : Bool) → (a && b) ≡ true → a ≡ true
and_left true b h = refl
and_left false b h = h

pub and_right : (a b : Bool) → (a && b) ≡ true → b ≡ true
and_right true b h = h
and_right false b h = absurd (false≢true h)

pub has_integer-abs : (kind : IntKind) (z : ℤ) → has_integer kind z ≡ true → unsigned_abs z < 2 ^ 64
has_integer-abs kind z h = is_64_bit-abs z (and_left (is_64_bit z) (in_ranges kind.ranges z) h)

pub admitted-yes : (has : ℤ → Bool) (o : Option ℤ) (z : ℤ) → o ≡ Some z → has z ≡ true → admitted has o ≡ Ok z
admitted-yes has o z e h = rw e ((let pick : Bool → Result ℤ ℕ = λ b. cond b (Ok z) (Err 2) in ap pick h))

pub admitted-no : (has : ℤ → Bool) (o : Option ℤ) (z : ℤ) → o ≡ Some z → has z ≡ false → admitted has o ≡ Err 2
admitted-no has o z e h = rw e ((let pick : Bool → Result ℤ ℕ = λ b. cond b (Ok z) (Err 2) in ap pick h))

pub int_value-numeral : (bs : List ℕ) → is_numeral (without_leading_sign bs) ≡ true → int_value bs ≡ Some (signed_digits_value 10 bs)
int_value-numeral bs h = ap (λ (b : Bool). cond b (Some (signed_digits_value 10 bs)) None) h

abbrev Reads : List ℕ → ℤ → Type 0
Reads bs z = (IsNumeral 10 (without_leading_sign bs) × FitsSigned w128 (signed_digits_value 10 bs)) × (z ≡ signed_digits_value 10 bs)

pub int_value-read : (bs : List ℕ) (z : ℤ) → Reads bs z → int_value bs ≡ Some z
int_value-read bs z reads = int_value-numeral bs (is_numeral-from (without_leading_sign bs) reads.0.0) ∙ ap Some (sym reads.1)

kept_bits : (bs : List ℕ) (z : ℤ) → Reads bs z → to_z w128 (of_z w128 z) ≡ z
kept_bits bs z reads = to_z-of_z w128 z (subst (λ (y : ℤ). FitsSigned w128 y) (sym reads.1) reads.0.1)

-- what `parse` read, and what it refused
pub read_ok : (kind : IntKind) (bs : List ℕ) (z : ℤ) → Reads bs z → has_integer kind (to_z w128 (of_z w128 z)) ≡ true
    → Ok (to_z w128 (of_z w128 z)) ≡ admitted (has_integer kind) (int_value bs)
read_ok kind bs z reads has =
    let same = kept_bits bs z reads in
    let has_z : has_integer kind z ≡ true = subst (λ (y : ℤ). has_integer kind y ≡ true) same has in
    ap Ok same ∙ sym (admitted-yes (has_integer kind) (int_value bs) z (int_value-read bs z reads) has_z)

pub read_out : (kind : IntKind) (bs : List ℕ) (z : ℤ) → Reads bs z → has_integer kind (to_z w128 (of_z w128 z)) ≡ false
    → Err 2 ≡ admitted (has_integer kind) (int_value bs)
read_out kind bs z reads has =
    let has_not : has_integer kind z ≡ false = subst (λ (y : ℤ). has_integer kind y ≡ false) (kept_bits bs z reads) has in
    sym (admitted-no (has_integer kind) (int_value bs) z (int_value-read bs z reads) has_not)

pub read_large : (kind : IntKind) (bs : List ℕ) → ¬ (IsNumeral 10 (without_leading_sign bs) × FitsSigned w128 (signed_digits_value 10 bs))
    → is_numeral (without_leading_sign bs) ≡ true → Err 2 ≡ admitted (has_integer kind) (int_value bs)
read_large kind bs refused numeral =
    let v = signed_digits_value 10 bs in
    let has_not : has_integer kind v ≡ false = not_true (has_integer kind v) (λ has. refused (IsNumeral-from (without_leading_sign bs) numeral, fits_signed_from_abs w128 v (within (unsigned_abs v) (has_integer-abs kind v has)))) in
    sym (admitted-no (has_integer kind) (int_value bs) v (int_value-numeral bs numeral) has_not)

-- what `parse` refused breaks RANGE where it is digits, after a sign or without one, and else LEXICAL
pub read_none : (kind : IntKind) (bs : List ℕ) (rule : ℕ) → ¬ (IsNumeral 10 (without_leading_sign bs) × FitsSigned w128 (signed_digits_value 10 bs))
    → rule ≡ cond (is_numeral (without_leading_sign bs)) 2 1 → Err rule ≡ admitted (has_integer kind) (int_value bs)
read_none kind bs rule refused is = by (is_numeral (without_leading_sign bs)) refl
  where
    by : (b : Bool) → is_numeral (without_leading_sign bs) ≡ b → Err rule ≡ admitted (has_integer kind) (int_value bs)
    by true h = ap Err (is ∙ ap (λ (t : Bool). cond t 2 1) h) ∙ read_large kind bs refused h
    by false h =
        let none : int_value bs ≡ None = ap (λ (t : Bool). cond t (Some (signed_digits_value 10 bs)) None) h in
        ap Err (is ∙ ap (λ (t : Bool). cond t 2 1) h) ∙ sym (ap (admitted (has_integer kind)) none)
