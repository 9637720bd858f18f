-- Integers: RFC 7950 section 9.2.
use Rattle.std.specs.Prelude.{ℕ, ℤ, pos, negsuc, Bool, ◌&&◌, List, ◌++◌, unsigned_abs, Option, Some, None, int_le, if◌then◌else◌}
use Rattle.std.specs.List.{list_any}
use Rattle.std.specs.Str.Parse.{without_leading_sign, signed_digits_value}
use Rattle.std.specs.Fmt.{decimal}
use Rattle.orc_value.specs.declared.kind.IntKind.{IntKind}
use Rattle.orc_value.specs.Numerals.{is_numeral, sign_text}

-- the integer that a text denotes: a sign or none, and digits
abbrev pub int_value : List ℕ → Option ℤ
int_value text = if is_numeral (without_leading_sign text) then Some (signed_digits_value 10 text) else None

-- one of the ranges, each a least and a greatest number, has z
abbrev pub in_ranges : List (ℤ × ℤ) → ℤ → Bool
in_ranges ranges z = list_any (λ r. int_le r.0 z && int_le z r.1) ranges

-- an integer of 64 bits, signed or unsigned
abbrev pub is_64_bit : ℤ → Bool
is_64_bit z = int_le (negsuc 0x7FFF_FFFF_FFFF_FFFF) z && int_le z (pos 0xFFFF_FFFF_FFFF_FFFF)

-- the type has z
abbrev pub has_integer : IntKind → ℤ → Bool
has_integer kind z = is_64_bit z && in_ranges kind.ranges z

-- the canonical text of an integer: its decimal digits, after `-` where it is below 0
abbrev pub int_text : ℤ → List ℕ
int_text z = sign_text z ++ decimal (unsigned_abs z)
