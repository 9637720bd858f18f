-- How much a source gave and how much a sink took, where they report it.
use Rattle.std.specs.Prelude.{ℕ, ◌≤◌, List, length, take, Option}
use Rattle.std.specs.Io.KnownBytes.{Appends, Consumes}

-- the sink took a prefix of the bytes and nothing else
abbrev pub TakesFront : Option (List ℕ) → Option (List ℕ) → List ℕ → Type 0
TakesFront old new bytes = (count : ℕ) × Appends old new (take count bytes)

-- the source gave no more than so many bytes, which stood first, and lost no others
abbrev pub GivesUpTo : ℕ → Option (List ℕ) → Option (List ℕ) → Type 0
GivesUpTo most old new = (front : List ℕ) × (length front ≤ most) × Consumes old new front
