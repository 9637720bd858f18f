-- Decimal numbers: RFC 7950 section 9.3. A value is the number times ten to the power of the fraction digits.
use Rattle.std.specs.Prelude.{ℕ, zero, suc, ◌+◌, ◌*◌, ◌/◌, ◌%◌, ◌^◌, ◌==◌, ℤ, pos, negsuc, Bool, ◌&&◌, ◌||◌, not, List, [], ◌∷◌, ◌++◌, length, Option, Some, None, int_le, nat_le, unsigned_abs, is_some, if◌then◌else◌}
use Rattle.std.specs.List.{position, before_first, after_first}
use Rattle.std.specs.Str.Parse.{starts_with_minus, without_leading_sign, digits_value}
use Rattle.std.specs.Fmt.{decimal}
use Rattle.orc_value.specs.Numerals.{is_numeral, signed, sign_text}

-- the character `.`
abbrev pub is_point : ℕ → Bool
is_point c = c == 46

-- the digits before the point
abbrev pub whole_of : List ℕ → List ℕ
whole_of text = before_first is_point (without_leading_sign text)

-- the digits after the point, none where there is no point
abbrev pub fraction_of : List ℕ → List ℕ
fraction_of text = after_first is_point (without_leading_sign text)

abbrev pub has_point : List ℕ → Bool
has_point text = is_some (position is_point (without_leading_sign text))

-- a sign or none, digits, and a point with digits or none
abbrev pub is_decimal : List ℕ → Bool
is_decimal text = is_numeral (whole_of text) && (is_numeral (fraction_of text) || not (has_point text))

-- a decimal type has 1 to 18 fraction digits
abbrev pub is_fraction_digits : ℕ → Bool
is_fraction_digits n = nat_le 1 n && nat_le n 18

-- Digits before a point and after it write the number of all these digits over ten to the power of how many stand after
-- it. It has n fraction digits where it is whole, once it is multiplied by ten to the power of n.
abbrev pub is_scalable : ℕ → List ℕ → List ℕ → Bool
is_scalable n whole fraction = digits_value 10 (whole ++ fraction) * 10 ^ n % 10 ^ length fraction == 0

abbrev pub scaled : ℕ → List ℕ → List ℕ → ℕ
scaled n whole fraction = digits_value 10 (whole ++ fraction) * 10 ^ n / 10 ^ length fraction

-- the value that a text denotes at n fraction digits
abbrev pub decimal_value : ℕ → List ℕ → Option ℤ
decimal_value n text = if is_fraction_digits n && is_decimal text && is_scalable n (whole_of text) (fraction_of text)
    then Some (signed (starts_with_minus text) (scaled n (whole_of text) (fraction_of text))) else None

-- a value is a signed integer of 64 bits
abbrev pub is_decimal_value : ℤ → Bool
is_decimal_value z = int_le (negsuc 0x7FFF_FFFF_FFFF_FFFF) z && int_le z (pos 0x7FFF_FFFF_FFFF_FFFF)

-- the digits of r over ten to the power of n, up to the last that isn't 0
abbrev pub fraction_digits : ℕ → ℕ → List ℕ
fraction_digits zero r = []
fraction_digits (suc n) r = if r == 0 then [] else (48 + r / 10 ^ n) ∷ fraction_digits n (r % 10 ^ n)

-- one digit at least
abbrev pub fraction_text : ℕ → ℕ → List ℕ
fraction_text n r = if r == 0 then 48 ∷ [] else fraction_digits n r

-- the digits of m over ten to the power of n, at least one on each side of the point
abbrev pub places_text : ℕ → ℕ → List ℕ
places_text n m = decimal (m / 10 ^ n) ++ 46 ∷ fraction_text n (m % 10 ^ n)

-- the canonical text of a value at n fraction digits
abbrev pub decimal_text : ℕ → ℤ → List ℕ
decimal_text n z = sign_text z ++ places_text n (unsigned_abs z)
