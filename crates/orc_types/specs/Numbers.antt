-- Numbers in the arguments of restrictions, by the grammar of RFC 7950 section 14: decimal digits without a leading
-- zero, without `+`, and neither octal nor hexadecimal.
use Rattle.std.specs.Prelude.{ℕ, ◌==◌, ℤ, pos, negsuc, Bool, false, ◌&&◌, ◌||◌, not, List, [], ◌∷◌, length, drop, Option, Some, None, int_le, unsigned_abs, option_and_then, if◌then◌else◌}
use Rattle.std.specs.Str.Parse.{starts_with_minus}
use Rattle.orc_value.specs.Numerals.{is_numeral}
use Rattle.orc_value.specs.Integers.{int_value, is_64_bit}

-- the value, where it passes the test
abbrev pub only_if : {X : Type 0} → (X → Bool) → X → Option X
only_if test value = if test value then Some value else None

abbrev pub starts_with_zero : List ℕ → Bool
starts_with_zero [] = false
starts_with_zero (byte ∷ later) = byte == 48

-- non-negative-integer-value: `0`, or digits of which the first isn't 0
abbrev pub is_count : List ℕ → Bool
is_count text = is_numeral text && (length text == 1 || not (starts_with_zero text))

-- integer-value: such digits, alone or after `-`
abbrev pub is_whole : List ℕ → Bool
is_whole text = is_count (if starts_with_minus text then drop 1 text else text)

-- the number that an integer-value writes, where it has 64 bits, signed or unsigned, as each base type's have
abbrev pub written_number : List ℕ → Option ℤ
written_number text = if is_whole text then option_and_then (only_if is_64_bit) (int_value text) else None

-- fraction-digits: 1 to 18 (RFC 7950 section 9.3.4)
abbrev pub digits_number : ℤ → Option ℕ
digits_number number = if int_le (pos 1) number && int_le number (pos 18) then Some (unsigned_abs number) else None

abbrev pub fraction_digits_of : List ℕ → Option ℕ
fraction_digits_of text = option_and_then digits_number (written_number text)

-- the value of an enum, a signed integer of 32 bits (RFC 7950 section 9.6.4.2)
abbrev pub is_int32 : ℤ → Bool
is_int32 number = int_le (negsuc 0x7FFF_FFFF) number && int_le number (pos 0x7FFF_FFFF)

abbrev pub int32_of : List ℕ → Option ℤ
int32_of text = option_and_then (only_if is_int32) (written_number text)
