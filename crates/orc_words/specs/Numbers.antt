-- The numbers among the words.
use Rattle.std.specs.Prelude.{ℕ, Bool, false, not, ◌==◌, ◌&&◌, ◌^◌, nat_le, nat_lt, List, [], ◌∷◌, length, Option, option_and_then, if◌then◌else◌}
use Rattle.std.specs.Str.{all_ascii_digits}
use Rattle.std.specs.Str.Parse.{digits_value}
use Rattle.std.specs.declared.option.Option.TheVariants.{None, Some}

-- the word begins with a plus
abbrev pub has_sign : List ℕ → Bool
has_sign [] = false
has_sign (first ∷ rest) = first == 43

-- the word has more than 20 bytes
abbrev pub is_long_number : List ℕ → Bool
is_long_number word = nat_lt 20 (length word)

-- 1 to 20 decimal digits, of 64 bits
abbrev pub is_word_number : List ℕ → Bool
is_word_number word =
    not (is_long_number word) && not (has_sign word) && nat_lt 0 (length word) && all_ascii_digits word
    && nat_lt (digits_value 10 word) (2 ^ 64)

-- the number of a word
abbrev pub word_number : List ℕ → Option ℕ
word_number word = if is_word_number word then Some (digits_value 10 word) else None

-- the number of a word that is there, where it is in this range
abbrev pub number_within : ℕ → ℕ → Option (List ℕ) → Option ℕ
number_within least most word =
    option_and_then (λ number. if nat_le least number && nat_le number most then Some number else None)
    (option_and_then word_number word)
