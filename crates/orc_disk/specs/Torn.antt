-- A file after a write that a crash may have cut short.
use Rattle.std.specs.Prelude.{◌≡◌, ℕ, ◌+◌, ◌≤◌, List, length, take, drop}

-- After a write of so many bytes at an offset: any bytes in that range and any past the old end, the old ones
-- elsewhere.
pub record Torn (at count : ℕ) (old new : List ℕ) : Type 0 where
  pub no_shorter : length old ≤ length new
  pub front : take at (take (length old) new) ≡ take at old
  pub back : drop (at + count) (take (length old) new) ≡ drop (at + count) old
