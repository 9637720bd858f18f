-- Counts that stay at the largest 64-bit number.
use Rattle.std.specs.Prelude.{ℕ, ◌-◌, ◌^◌, min}

-- the count, or the largest 64-bit number where it is larger
abbrev pub capped : ℕ → ℕ
capped count = min count (2 ^ 64 - 1)
