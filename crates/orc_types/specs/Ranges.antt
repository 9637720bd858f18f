-- The arguments of `range` and `length`: RFC 7950 sections 9.2.4 and 9.4.4.
use Rattle.std.specs.Prelude.{ℕ, ◌==◌, ◌-◌, ℤ, pos, Bool, true, ◌&&◌, ◌||◌, List, [], ◌∷◌, length, map, Option, Some, None, codes, int_le, int_lt, nat_le, unsigned_abs, is_some, option_map, option_and_then, slice_index_or, if◌then◌else◌}
use Rattle.std.specs.List.{list_all, list_any, slice_split, position, before_first, after_first}
use Rattle.std.specs.Str.{trim}
use Rattle.orc_value.specs.Canon.{same_text}
use Rattle.orc_types.specs.Texts.{is_char}
use Rattle.orc_types.specs.Numbers.{only_if, written_number}

-- the least and the greatest number of a range
abbrev pub Range : Type 0
Range = ℤ × ℤ

abbrev pub is_bar : ℕ → Bool
is_bar = is_char 124

abbrev pub is_dot : ℕ → Bool
is_dot = is_char 46

abbrev pub is_minus : ℕ → Bool
is_minus = is_char 45

-- a bound: a number, or `min` or `max`, the ends of the base type
abbrev pub bound_of : Range → List ℕ → Option ℤ
bound_of ends text = if same_text text (codes "min") then Some ends.0
    else (if same_text text (codes "max") then Some ends.1 else written_number text)

-- from one bound to another that isn't less
abbrev pub range_between : Option ℤ → Option ℤ → Option Range
range_between None high = None
range_between (Some low) None = None
range_between (Some low) (Some high) = if int_le low high then Some (low, high) else None

-- from one bound to another, each between white space
abbrev pub range_up_to : Range → List ℕ → List ℕ → Option Range
range_up_to ends low high = range_between (bound_of ends (trim low)) (bound_of ends (trim high))

-- what stands after a dot that is first
abbrev pub behind_dot : List ℕ → Option (List ℕ)
behind_dot [] = None
behind_dot (byte ∷ later) = if is_dot byte then Some later else None

abbrev pub has_dot : List ℕ → Bool
has_dot text = is_some (position is_dot text)

-- a part: a bound, or two bounds with two dots between
abbrev pub part_of : Range → List ℕ → Option Range
part_of ends text = if has_dot text
    then option_and_then (range_up_to ends (before_first is_dot text)) (behind_dot (after_first is_dot text))
    else range_up_to ends text text

-- the values of options, where each has one
abbrev pub all_of : {X : Type 0} → List (Option X) → Option (List X)
all_of [] = Some []
all_of (None ∷ later) = None
all_of (Some value ∷ later) = option_map (λ values. value ∷ values) (all_of later)

-- the parts, with bars between
abbrev pub parts_of : Range → List ℕ → Option (List Range)
parts_of ends text = all_of (map (part_of ends) (slice_split is_bar text))

-- printable ASCII, space, tab, line feed and carriage return: so no other white space stands round a part
abbrev pub is_plain : ℕ → Bool
is_plain byte = byte == 9 || byte == 10 || byte == 13 || nat_le 32 byte && nat_le byte 126

-- no white space stands at an end of the argument
abbrev pub is_trimmed : List ℕ → Bool
is_trimmed text = length (trim text) == length text

-- each part begins after the end of the one before
abbrev pub ascend_behind : ℤ → List Range → Bool
ascend_behind high [] = true
ascend_behind high (range ∷ later) = int_lt high range.0 && ascend_behind range.1 later

abbrev pub ascend : List Range → Bool
ascend [] = true
ascend (range ∷ later) = ascend_behind range.1 later

-- the range lies within a part of the base type
abbrev pub lies_within : List Range → Range → Bool
lies_within base range = list_any (λ part. int_le part.0 range.0 && int_le range.1 part.1) base

-- the least and the greatest number of the base type
abbrev pub ends_of : List Range → Range
ends_of base = ((slice_index_or base 0 (pos 0, pos 0)).0, (slice_index_or base (length base - 1) (pos 0, pos 0)).1)

-- ranges that may restrict the base type
abbrev pub narrows : List Range → List Range → Bool
narrows base ranges = ascend ranges && list_all (lies_within base) ranges

-- the ranges that the argument of `range` leaves of the base type's
abbrev pub narrowed : List Range → List ℕ → Option (List Range)
narrowed base text = if list_all is_plain text && is_trimmed text
    then option_and_then (only_if (narrows base)) (parts_of (ends_of base) text) else None

-- a length is an unsigned integer of 64 bits
abbrev pub is_length : ℤ → Bool
is_length number = int_le (pos 0) number && int_le number (pos 0xFFFF_FFFF_FFFF_FFFF)

abbrev pub length_range : Range → Option (ℕ × ℕ)
length_range range = if is_length range.0 && is_length range.1
    then Some (unsigned_abs range.0, unsigned_abs range.1) else None

abbrev pub as_range : ℕ × ℕ → Range
as_range ends = (pos ends.0, pos ends.1)

-- the lengths that the argument of `length`, in which no `-` stands, leaves of the base type's
abbrev pub narrowed_lengths : List (ℕ × ℕ) → List ℕ → Option (List (ℕ × ℕ))
narrowed_lengths base text = if list_any is_minus text then None
    else option_and_then (λ ranges. all_of (map length_range ranges)) (narrowed (map as_range base) text)
