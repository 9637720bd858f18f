-- What a count of faults says of a call.
use Rattle.std.specs.Prelude.{ℕ, ◌+◌, ◌≤◌, Result, OnErr}
use Rattle.orc_text.specs.Counts.{capped}

-- one more, but the largest 64-bit number stays
abbrev pub next_count : ℕ → ℕ
next_count count = capped (count + 1)

-- a count of faults rose, or it stands at its last value
abbrev pub Rose : ℕ → ℕ → Type 0
Rose before now = next_count before ≤ now

-- the count of faults never falls, and where the call failed it rose
pub record HasCause {T E : Type 0} (before now : ℕ) (result : Result T E) : Type 0 where
  pub later : before ≤ now
  pub failed : OnErr result (Rose before now)
