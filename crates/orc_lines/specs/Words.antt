-- The words of a line.
use Rattle.std.specs.Prelude.{ℕ, Bool, false, not, ◌==◌, ◌&&◌, ◌||◌, ◌^◌, nat_eq, nat_lt, List, [], ◌∷◌, length, Option, if◌then◌else◌}
use Rattle.std.specs.List.{slice_split}
use Rattle.std.specs.Str.{all_ascii_digits}
use Rattle.std.specs.Str.Parse.{digits_value}
use Rattle.std.specs.declared.option.Option.TheVariants.{None, Some}
use Rattle.std.specs.Option.{option_map}
use Rattle.std.specs.Cmp.Lexicographic.{pointwise}

-- the text before the first such byte, and the text after it; words are parted by one space, the byte 32
abbrev pub cut_at : ℕ → List ℕ → Option (List ℕ × List ℕ)
cut_at byte [] = None
cut_at byte (b ∷ bs) =
    if b == byte then Some ([], bs) else option_map (λ parts. (b ∷ parts.0, parts.1)) (cut_at byte bs)

-- the first word of a text
abbrev pub word_before : List ℕ → Option (List ℕ × List ℕ) → List ℕ
word_before text None = text
word_before text (Some words) = words.0

abbrev pub first_word : List ℕ → List ℕ
first_word text = word_before text (cut_at 32 text)

-- the words of a text, one at least
abbrev pub words_of : List ℕ → List (List ℕ)
words_of text = slice_split (λ byte. byte == 32) text

-- a text is this one
abbrev pub is_text : List ℕ → List ℕ → Bool
is_text = pointwise nat_eq

-- the word begins with a sign or a needless zero
abbrev pub is_padded : List ℕ → Bool
is_padded [] = false
is_padded (first ∷ rest) = (first == 43) || ((first == 48) && nat_lt 0 (length rest))

-- decimal digits without a leading zero, of 64 bits
abbrev pub is_number : List ℕ → Bool
is_number word =
    not (is_padded word) && nat_lt 0 (length word) && all_ascii_digits word && nat_lt (digits_value 10 word) (2 ^ 64)

abbrev pub number_in : List ℕ → Option ℕ
number_in word = if is_number word then Some (digits_value 10 word) else None
