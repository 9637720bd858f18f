-- The value of a text.
use Rattle.std.specs.Prelude.{ℕ, Bool, true, false, ◌==◌, ◌&&◌, nat_eq, List, [], ◌∷◌, Option, if◌then◌else◌}
use Rattle.std.specs.declared.option.Option.TheVariants.{None, Some}
use Rattle.std.specs.Cmp.Lexicographic.{pointwise}
use Rattle.orc_path.specs.Alphabet.{is_value}
use Rattle.orc_path.specs.Texts.{value_text}

-- what a byte means after a backslash: s a space, t a tab, n a line feed, r a carriage return, and another one itself
abbrev pub meant : ℕ → ℕ
meant byte =
    if byte == 115 then 32 else
    if byte == 116 then 9 else
    if byte == 110 then 10 else
    if byte == 114 then 13 else byte

-- the bytes that a text means, whether or not a backslash stands before it
abbrev pub value_bytes : Bool → List ℕ → List ℕ
value_bytes is_escaped [] = []
value_bytes true (byte ∷ rest) = meant byte ∷ value_bytes false rest
value_bytes false (byte ∷ rest) =
    if byte == 92 then value_bytes true rest else byte ∷ value_bytes false rest

-- the value, where it is one and this is its text
abbrev pub value_with : List ℕ → List ℕ → Option (List ℕ)
value_with text value = if is_value value && pointwise nat_eq (value_text value) text then Some value else None

-- the value of a text, where it is the text of one
unfoldable pub value_of : List ℕ → Option (List ℕ)
value_of text = value_with text (value_bytes false text)
