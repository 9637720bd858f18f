-- The text of a `default`: RFC 7950 sections 7.6.4 and 9.
use Rattle.std.specs.Prelude.{ℕ, Bool, true, false, List, Option, None, if◌then◌else◌}
use Rattle.std.specs.Result.{result_ok}
use Rattle.std.specs.Str.Parse.{without_leading_sign}
use Rattle.orc_value.specs.declared.kind.Kind.{Kind}
use Rattle.orc_value.specs.declared.kind.Kind.TheVariants.{Int, Decimal, Str, Bool as Boolean, Enum, Empty}
use Rattle.orc_value.specs.Canon.{canon_of}
use Rattle.orc_types.specs.Numbers.{is_count}

-- The form of a default. An integer has a sign or none, and digits without a leading zero, since that would be
-- octal; neither octal nor hexadecimal numbers are taken. A type empty has no default (section 9.11).
abbrev pub has_form : Kind → List ℕ → Bool
has_form (Int kind) text = is_count (without_leading_sign text)
has_form (Decimal digits) text = true
has_form (Str lengths) text = true
has_form Boolean text = true
has_form (Enum names) text = true
has_form Empty text = false

-- the canonical text of the value that a default gives, where it is one
abbrev pub default_of : Kind → List ℕ → Option (List ℕ)
default_of kind text = if has_form kind text then result_ok (canon_of kind text) else None
