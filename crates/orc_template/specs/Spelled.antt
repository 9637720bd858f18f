-- How the strings of a template are written, and that they are cut back into what was written.
use Rattle.std.specs.Prelude.{◌≡◌, ℕ, ◌==◌, Bool, false, not, ◌&&◌, List, [], ◌∷◌, ◌++◌, Some, IsTrue, IsUtf8, codes, if◌then◌else◌}
use Rattle.std.specs.List.{list_all, flat_map}
use Rattle.std.specs.Str.{chars}
use Rattle.orc_expr.specs.Expressions.{Expression, is_expression, expression_text}
use Rattle.orc_template.specs.Strings.{cut_parts}
use Rattle.orc_template.specs.declared.strings.Part.{Part}
use Rattle.orc_template.specs.declared.strings.Part.TheVariants.{Written, Braced}

-- A plain text is written with each of its braces twice, and an expression between braces.
abbrev pub brace_doubled : ℕ → List ℕ
brace_doubled byte =
    if byte == 123 then codes "{{" else if byte == 125 then codes "}}" else byte ∷ []

abbrev pub part_written : Part → List ℕ
part_written (Written text) = flat_map brace_doubled text
part_written (Braced text) = codes "{" ++ (text ++ codes "}")

-- a string is written part by part
abbrev pub string_written : List Part → List ℕ
string_written parts = flat_map part_written parts

-- What can stand between braces: a text that has no closing brace and doesn't begin with an opening one.
abbrev pub begins_with_brace : List ℕ → Bool
begins_with_brace [] = false
begins_with_brace (character ∷ later) = character == 123

abbrev pub fits_in_braces : List ℕ → Bool
fits_in_braces characters =
    not (begins_with_brace characters) && list_all (λ character. not (character == 125)) characters

-- parts that a string may have
abbrev pub IsPart : Part → Type 0
IsPart (Written text) = IsUtf8 text
IsPart (Braced text) = IsUtf8 text × IsTrue (fits_in_braces (chars text))

abbrev pub AreParts : List Part → Type 0
AreParts [] = Unit {0}
AreParts (part ∷ later) = IsPart part × AreParts later

-- Plain texts beside one another are one. So one plain text, which may be empty, stands before each expression,
-- and one after the last: here with a plain text before all parts.
abbrev pub joined_behind : List ℕ → List Part → List Part
joined_behind front [] = Written front ∷ []
joined_behind front (Written text ∷ later) = joined_behind (front ++ text) later
joined_behind front (Braced text ∷ later) = Written front ∷ Braced text ∷ joined_behind [] later

abbrev pub joined_parts : List Part → List Part
joined_parts parts = joined_behind [] parts

-- The string that parts are written as is cut into these parts again, plain texts beside one another as one.
abbrev pub StringsAreCut : Type 0
StringsAreCut = (parts : List Part) → AreParts parts → cut_parts (string_written parts) ≡ Some (joined_parts parts)

-- A string that is cut without fault is the one that its parts are written as. So no other string is cut into them.
abbrev pub CutStringsAreWritten : Type 0
CutStringsAreWritten =
    (text : List ℕ) (parts : List Part) → IsUtf8 text → cut_parts text ≡ Some parts
    → AreParts parts × (string_written parts ≡ text)

-- The text of an expression can stand between braces.
abbrev pub ExpressionsFitInBraces : Type 0
ExpressionsFitInBraces =
    (expression : Expression) → IsTrue (is_expression expression) → IsUtf8 (expression_text expression)
    → IsTrue (fits_in_braces (chars (expression_text expression)))
