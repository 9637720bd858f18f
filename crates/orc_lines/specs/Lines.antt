-- The lines of bytes.
use Rattle.std.specs.Prelude.{ℕ, zero, suc, Bool, true, false, ◌+◌, ◌==◌, ◌||◌, nat_lt, List, [], ◌∷◌, ◌++◌, codes, length, reverse, take, Option, if◌then◌else◌}
use Rattle.std.specs.declared.option.Option.TheVariants.{None, Some}
use Rattle.std.specs.Option.{option_map, option_map_or, is_none}
use Rattle.orc_lines.specs.Words.{is_text}
use Rattle.orc_lines.specs.declared.lines.TheConstants.{LARGEST_BUNDLE, LONGEST_LINE}

-- what is seen of bytes: as many as a bundle can have, and one more
abbrev pub seen : List ℕ → List ℕ
seen bytes = take (LARGEST_BUNDLE + 1) bytes

-- a byte put at the head of the first line
abbrev pub led_by : ℕ → List (List ℕ) → List (List ℕ)
led_by byte [] = (byte ∷ []) ∷ []
led_by byte (line ∷ lines) = (byte ∷ line) ∷ lines

-- each line ends with its line feed, which the last may lack
abbrev pub lines_of : List ℕ → List (List ℕ)
lines_of [] = []
lines_of (b ∷ bs) = if b == 10 then (10 ∷ []) ∷ lines_of bs else led_by b (lines_of bs)

-- of a line from its end: its line feed, and one carriage return before that, are no part of its text
abbrev pub without_return : List ℕ → List ℕ
without_return [] = []
without_return (b ∷ bs) = if b == 13 then bs else b ∷ bs

abbrev pub without_end : List ℕ → List ℕ
without_end [] = []
without_end (b ∷ bs) = if b == 10 then without_return bs else b ∷ bs

-- the text of a line
abbrev pub text_of : List ℕ → List ℕ
text_of line = reverse (without_end (reverse line))

-- an empty line or a comment
abbrev pub is_skipped : List ℕ → Bool
is_skipped [] = true
is_skipped (b ∷ bs) = b == 35

-- the bundle passes its limit in this line, before which stand so many bytes, or the line passes its own
abbrev pub is_large : ℕ → List ℕ → Bool
is_large at line = nat_lt LARGEST_BUNDLE (at + length line) || nat_lt LONGEST_LINE (length (text_of line))

-- what a line looks for in the lines after it

-- a text and a line feed
abbrev pub as_line : List ℕ → List ℕ
as_line text = text ++ 10 ∷ []

-- the texts of the first lines, each ended by a line feed, where there are so many lines
abbrev pub block_of : ℕ → List (List ℕ) → Option (List ℕ)
block_of zero later = Some []
block_of (suc count) [] = None
block_of (suc count) (line ∷ later) = option_map (λ block. as_line (text_of line) ++ block) (block_of count later)

-- the line is `end`
abbrev pub is_end : List ℕ → Bool
is_end line = is_text (text_of line) (codes "end")

-- the text of the first line that is not skipped
abbrev pub first_kept : List (List ℕ) → Option (List ℕ)
first_kept [] = None
first_kept (line ∷ later) = if is_skipped (text_of line) then first_kept later else Some (text_of line)

-- that is `settle`
abbrev pub is_settled : List (List ℕ) → Bool
is_settled lines = option_map_or (λ text. is_text text (codes "settle")) (first_kept lines) false

-- no line is the header: each is empty or a comment, or there is none
abbrev pub lacks_header : List (List ℕ) → Bool
lacks_header lines = is_none (first_kept lines)
