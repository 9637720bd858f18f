-- The JSON of one value: RFC 7951 section 6.
use Rattle.std.specs.Prelude.{ℕ, ℤ, pos, Bool, List, [], Option, Some, None, Result, Ok, Err, unwrap_or, if◌then◌else◌, option_and_then}
use Rattle.std.specs.Str.Parse.{true_text, false_text}
use Rattle.serde_json.specs.Data.{Data, null, boolean, number, string, array, item, no_items}
use Rattle.serde_json.specs.Find.{as_str, as_bool, as_number, as_array, as_integer, of_integer}
use Rattle.serde_json.specs.Data.{Items}
use Rattle.orc_value.specs.declared.kind.Kind.{Kind}
use Rattle.orc_value.specs.declared.kind.Kind.TheVariants.{Int, Decimal, Str, Bool as Boolean, Enum, Empty}
use Rattle.orc_value.specs.declared.kind.IntKind.{IntKind}
use Rattle.orc_value.specs.declared.fault.TheConstants.{KIND}
use Rattle.orc_value.specs.Numerals.{admitted, number_text}
use Rattle.orc_value.specs.Integers.{int_value, has_integer, int_text}
use Rattle.orc_value.specs.Canon.{canon_of, same_text}

-- the JSON of a canonical text
abbrev pub json_of : Kind → List ℕ → Data
json_of (Int kind) text = if kind.quoted then string text else number (of_integer (unwrap_or (int_value text) (pos 0)))
json_of (Decimal n) text = string text
json_of (Str lengths) text = string text
json_of Boolean text = boolean (same_text text true_text)
json_of (Enum names) text = string text
json_of Empty text = array (item null no_items)

-- a text where there is one, and else the rule KIND
abbrev pub canon_of_string : Kind → Option (List ℕ) → Result (List ℕ) ℕ
canon_of_string kind None = Err KIND
canon_of_string kind (Some text) = canon_of kind text

-- a whole number where there is one
abbrev pub canon_of_integer : IntKind → Option ℤ → Result (List ℕ) ℕ
canon_of_integer kind None = Err KIND
canon_of_integer kind (Some z) = number_text int_text (admitted (has_integer kind) (Some z))

abbrev pub canon_of_boolean : Option Bool → Result (List ℕ) ℕ
canon_of_boolean None = Err KIND
canon_of_boolean (Some b) = Ok (if b then true_text else false_text)

-- `[null]`
abbrev pub canon_of_items : Option Items → Result (List ℕ) ℕ
canon_of_items (Some (item null no_items)) = Ok []
canon_of_items _ = Err KIND

-- the canonical text of a JSON value, or the rule that is broken
abbrev pub canon_of_json : Kind → Data → Result (List ℕ) ℕ
canon_of_json (Int kind) json = if kind.quoted
    then canon_of_string (Int kind) (as_str json)
    else canon_of_integer kind (option_and_then as_integer (as_number json))
canon_of_json (Decimal n) json = canon_of_string (Decimal n) (as_str json)
canon_of_json (Str lengths) json = canon_of_string (Str lengths) (as_str json)
canon_of_json Boolean json = canon_of_boolean (as_bool json)
canon_of_json (Enum names) json = canon_of_string (Enum names) (as_str json)
canon_of_json Empty json = canon_of_items (as_array json)
