-- The JSON of a canonical text is read as that text.
use Rattle.std.proofs.Common.{◌≡◌, ℕ, ℤ, pos, negsuc, Bool, true, false, cond, List, [], Option, Some, None, Ok, refl, sym, ap, ◌∙◌}
use Rattle.std.specs.Prelude.{unwrap_or, ◌||◌, option_and_then}
use Rattle.std.specs.Str.Parse.{true_text, false_text}
use Rattle.std.proofs.lemmas.Slice.Eq.{bytes_eq-Decides}
use Rattle.serde_json.specs.Find.{as_integer, as_number, as_str, of_integer}
use Rattle.serde_json.specs.Data.{number, string}
use Rattle.orc_value.specs.declared.kind.Kind.{Kind}
use Rattle.orc_value.specs.declared.kind.IntKind.{IntKind}
use Rattle.orc_value.specs.declared.kind.Kind.TheVariants.{Int, Decimal, Str, Bool as Boolean, Enum, Empty}
use Rattle.orc_value.specs.Numerals.{admitted, number_text}
use Rattle.orc_value.specs.Integers.{int_value, has_integer, int_text}
use Rattle.orc_value.specs.Canon.{canon_of, kept, same_text}
use Rattle.orc_value.specs.Json.{json_of, canon_of_json, canon_of_integer, canon_of_string, canon_of_boolean}

integer_back : (z : ℤ) → as_integer (of_integer z) ≡ Some z
integer_back (pos n) = refl
integer_back (negsuc n) = refl

number_back : (kind : IntKind) (o : Option ℤ) (text : List ℕ) → number_text int_text (admitted (has_integer kind) o) ≡ Ok text
    → canon_of_integer kind (as_integer (of_integer (unwrap_or o (pos 0)))) ≡ Ok text
number_back kind None text h = cc
number_back kind (Some z) text h = ap (canon_of_integer kind) (integer_back z) ∙ h

quoted_or : (quoted : Bool) (kind : IntKind) (text : List ℕ) → kind.quoted ≡ quoted → canon_of (Int kind) text ≡ Ok text
    → canon_of_json (Int kind) (json_of (Int kind) text) ≡ Ok text
quoted_or true kind text e h =
    ap (λ q. cond q (canon_of_string (Int kind) (as_str (json_of (Int kind) text))) (canon_of_integer kind (option_and_then as_integer (as_number (json_of (Int kind) text))))) e
    ∙ ap (λ q. canon_of_string (Int kind) (as_str (cond q (string text) (number (of_integer (unwrap_or (int_value text) (pos 0))))))) e ∙ h
quoted_or false kind text e h =
    ap (λ q. cond q (canon_of_string (Int kind) (as_str (json_of (Int kind) text))) (canon_of_integer kind (option_and_then as_integer (as_number (json_of (Int kind) text))))) e
    ∙ ap (λ q. canon_of_integer kind (option_and_then as_integer (as_number (cond q (string text) (number (of_integer (unwrap_or (int_value text) (pos 0)))))))) e
    ∙ number_back kind (int_value text) text h

same : (a b : List ℕ) → same_text a b ≡ true → a ≡ b
same a b h = (bytes_eq-Decides a b).0 h

boolean_back : (yes other : Bool) (text : List ℕ) → same_text text true_text ≡ yes → same_text text false_text ≡ other
    → kept (cond (yes || other) None (Some 1)) text ≡ Ok text → canon_of_boolean (Some yes) ≡ Ok text
boolean_back true other text is_yes is_other h = ap Ok (sym (same text true_text is_yes))
boolean_back false true text is_yes is_other h = ap Ok (sym (same text false_text is_other))
boolean_back false false text is_yes is_other h = cc

empty_back : (t : Bool) (text : List ℕ) → same_text text [] ≡ t → kept (cond t None (Some 1)) text ≡ Ok text → [] ≡ text
empty_back true text e h = sym (same text [] e)
empty_back false text e h = cc

pub json_back : (kind : Kind) (text : List ℕ) → canon_of kind text ≡ Ok text → canon_of_json kind (json_of kind text) ≡ Ok text
json_back (Int kind) text h = quoted_or kind.quoted kind text refl h
json_back (Decimal n) text h = h
json_back (Str lengths) text h = h
json_back Boolean text h = boolean_back (same_text text true_text) (same_text text false_text) text refl refl h
json_back (Enum names) text h = h
json_back Empty text h = ap Ok (empty_back (same_text text []) text refl h)
