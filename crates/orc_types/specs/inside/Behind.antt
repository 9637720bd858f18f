-- Ranges that may be passed over.
use Rattle.std.specs.Prelude.{ℤ, Bool, int_lt}
use Rattle.orc_types.specs.Ranges.{Range}

-- the range ends before the number
abbrev pub ends_before : ℤ → Range → Bool
ends_before low b = int_lt b.1 low
