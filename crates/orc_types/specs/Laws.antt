-- What the definitions make sure of.
use Rattle.std.specs.Prelude.{ℕ, ◌≡◌, ◌≢◌, ℤ, true, List, [], Some, None}
use Rattle.std.specs.List.{AllPairs}
use Rattle.orc_value.specs.Canon.{in_lengths}
use Rattle.orc_value.specs.Integers.{in_ranges, int_text, is_64_bit}
use Rattle.orc_yang.specs.declared.statement.Stmt.{Stmt}
use Rattle.orc_types.specs.declared.types.EnumName.{EnumName}
use Rattle.orc_types.specs.declared.types.Base.TheVariants.{Enumeration}
use Rattle.orc_types.specs.Numbers.{written_number}
use Rattle.orc_types.specs.Ranges.{Range, narrowed, narrowed_lengths}
use Rattle.orc_types.specs.Enums.{enums_of}
use Rattle.orc_types.specs.Types.{first_fault}

-- A number that a restricted integer type has is one of its base type.
abbrev pub RangesNarrow : Type 0
RangesNarrow = (base ranges : List Range) (text : List ℕ) (number : ℤ)
    → narrowed base text ≡ Some ranges → in_ranges ranges number ≡ true → in_ranges base number ≡ true

-- A length that a restricted string type has is one of its base type.
abbrev pub LengthsNarrow : Type 0
LengthsNarrow = (base lengths : List (ℕ × ℕ)) (text : List ℕ) (length : ℕ)
    → narrowed_lengths base text ≡ Some lengths → in_lengths lengths length ≡ true → in_lengths base length ≡ true

-- Each number of 64 bits has a bound that writes it: its canonical text.
abbrev pub NumbersReadBack : Type 0
NumbersReadBack = (number : ℤ) → is_64_bit number ≡ true → written_number (int_text number) ≡ Some number

-- Two enums have neither the same name nor the same value.
pub record Differ (one other : EnumName) : Type 0 where
  pub names : one.name ≢ other.name
  pub values : one.value ≢ other.value

-- No two enums of an enumeration without a fault have one name or one value, given or automatic.
abbrev pub EnumsDiffer : Type 0
EnumsDiffer = (statements : List Stmt) → first_fault Enumeration [] statements ≡ None
    → AllPairs Differ (enums_of None statements)
