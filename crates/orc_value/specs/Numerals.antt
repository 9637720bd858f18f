-- Digits, and what stays of a number's text where its value may not be had.
use Rattle.std.specs.Prelude.{ℕ, ℤ, pos, neg_ℤ, Bool, ◌&&◌, ◌==◌, not, List, [], length, codes, int_lt, Option, Some, None, Result, Ok, Err, if◌then◌else◌}
use Rattle.std.specs.Char.{is_ascii_digit}
use Rattle.std.specs.List.{list_all}
use Rattle.orc_value.specs.declared.fault.TheConstants.{LEXICAL, RANGE}

-- nothing but digits
abbrev pub all_digits : List ℕ → Bool
all_digits text = list_all is_ascii_digit text

-- one digit or more, and nothing else
abbrev pub is_numeral : List ℕ → Bool
is_numeral text = not (length text == 0) && all_digits text

-- the number of this magnitude
abbrev pub signed : Bool → ℕ → ℤ
signed negative magnitude = if negative then neg_ℤ (pos magnitude) else pos magnitude

-- `-` where the number is below 0
abbrev pub sign_text : ℤ → List ℕ
sign_text number = if int_lt number (pos 0) then codes "-" else []

-- the number that a text denotes, where it denotes one and the type has it: else the rule that is broken
abbrev pub admitted : (ℤ → Bool) → Option ℤ → Result ℤ ℕ
admitted has None = Err LEXICAL
admitted has (Some number) = if has number then Ok number else Err RANGE

-- the text of the number, by what spells a number
abbrev pub number_text : (ℤ → List ℕ) → Result ℤ ℕ → Result (List ℕ) ℕ
number_text text_of (Ok number) = Ok (text_of number)
number_text text_of (Err rule) = Err rule
