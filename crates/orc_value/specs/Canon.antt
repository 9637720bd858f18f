-- The canonical text of a value: RFC 7950 section 9. A text can break the rules LEXICAL, RANGE, LENGTH, ENUM and
-- KIND, 1 to 5; where it breaks several, the least one counts.
use Rattle.std.specs.Prelude.{ℕ, ◌≡◌, Bool, false, ◌&&◌, ◌||◌, List, [], length, Option, Some, None, Result, Ok, Err, nat_le, if◌then◌else◌, IsOk, nat_eq}
use Rattle.std.specs.List.{list_any}
use Rattle.std.specs.Str.{chars}
use Rattle.std.specs.Str.Parse.{true_text, false_text}
use Rattle.std.specs.Cmp.Lexicographic.{pointwise}
use Rattle.orc_value.specs.declared.kind.Kind.{Kind}
use Rattle.orc_value.specs.declared.kind.Kind.TheVariants.{Int, Decimal, Str, Bool as Boolean, Enum, Empty}
use Rattle.orc_value.specs.declared.fault.ValueFault.{ValueFault}
use Rattle.orc_value.specs.declared.fault.ValueFault.TheVariants.{BadValue, Memory as NoMemory}
use Rattle.orc_value.specs.declared.fault.TheConstants.{LEXICAL, LENGTH, ENUM}
use Rattle.orc_text.specs.Characters.{is_plain_text}
use Rattle.orc_value.specs.Numerals.{admitted, number_text}
use Rattle.orc_value.specs.Integers.{int_value, has_integer, int_text}
use Rattle.orc_value.specs.Decimals.{decimal_value, is_decimal_value, decimal_text}

-- two texts are one
abbrev pub same_text : List ℕ → List ℕ → Bool
same_text = pointwise nat_eq

-- one of the ranges, each a least and a greatest length, has n
abbrev pub in_lengths : List (ℕ × ℕ) → ℕ → Bool
in_lengths lengths n = list_any (λ r. nat_le r.0 n && nat_le n r.1) lengths

-- the rule that a text breaks, for the types whose values are their own canonical texts
abbrev pub string_rule : List (ℕ × ℕ) → List ℕ → Option ℕ
string_rule lengths text = if is_plain_text text
    then (if in_lengths lengths (length (chars text)) then None else Some LENGTH)
    else Some LEXICAL

abbrev pub bool_rule : List ℕ → Option ℕ
bool_rule text = if same_text text true_text || same_text text false_text then None else Some LEXICAL

abbrev pub enum_rule : List (List ℕ) → List ℕ → Option ℕ
enum_rule names text = if is_plain_text text
    then (if list_any (same_text text) names then None else Some ENUM)
    else Some LEXICAL

abbrev pub empty_rule : List ℕ → Option ℕ
empty_rule text = if same_text text [] then None else Some LEXICAL

-- the text itself, or the rule that it breaks
abbrev pub kept : Option ℕ → List ℕ → Result (List ℕ) ℕ
kept None text = Ok text
kept (Some rule) text = Err rule

-- the canonical text, or the rule that is broken
abbrev pub canon_of : Kind → List ℕ → Result (List ℕ) ℕ
canon_of (Int kind) text = number_text int_text (admitted (has_integer kind) (int_value text))
canon_of (Decimal n) text = number_text (decimal_text n) (admitted is_decimal_value (decimal_value n text))
canon_of (Str lengths) text = kept (string_rule lengths text) text
canon_of Boolean text = kept (bool_rule text) text
canon_of (Enum names) text = kept (enum_rule names text) text
canon_of Empty text = kept (empty_rule text) text

-- the text is this one
abbrev pub gives_text : List ℕ → Result (List ℕ) ℕ → Bool
gives_text text (Ok canonical) = same_text canonical text
gives_text text (Err rule) = false

-- the text is its own canonical text
abbrev pub is_canonical : Kind → List ℕ → Bool
is_canonical kind text = gives_text text (canon_of kind text)

-- two texts denote one value
abbrev pub SameValue : Kind → List ℕ → List ℕ → Type 0
SameValue (Int kind) a b = int_value a ≡ int_value b
SameValue (Decimal n) a b = decimal_value n a ≡ decimal_value n b
SameValue (Str lengths) a b = a ≡ b
SameValue Boolean a b = a ≡ b
SameValue (Enum names) a b = a ≡ b
SameValue Empty a b = a ≡ b

-- the answer is this text or this rule; memory runs out only where there is a text
abbrev pub Answers : Result (List ℕ) ℕ → Result (List ℕ) ValueFault → Type 0
Answers verdict (Ok text) = verdict ≡ Ok text
Answers verdict (Err (BadValue rule)) = verdict ≡ Err rule
Answers verdict (Err NoMemory) = IsOk verdict
