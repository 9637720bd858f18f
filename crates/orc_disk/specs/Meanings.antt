-- What a disk reports about itself.
use Rattle.std.specs.Prelude.{ℕ, List, Option}
use Rattle.orc_disk.specs.Rows.{Course}

-- The words in which a disk reports about itself. Operations are its four kinds of calls.
pub record DiskMeaning (D : Type 0) : Type 1 where
  -- what a read gives, where the disk reports it
  pub content : D → Option (List ℕ)
  -- the images that a crash now may leave
  pub may_leave : D → List ℕ → Type 0
  -- the moment, a number that never falls
  pub moment : D → ℕ
  -- the images that a crash at some moment since that one may have left
  pub left_since : D → ℕ → List ℕ → Type 0
  -- how often the disk failed
  pub faults : D → ℕ
  -- how many writes and syncs it was asked for; at the largest 64-bit number the count stays
  pub ops : D → ℕ
  -- what its reads gave so far, in order: each offset with the bytes
  pub heard : D → List (ℕ × List ℕ)
  -- A row of operations leads from one state to another, and this is its course. Code that knows only the trait says by
  -- it what it did, and a disk round another one which of that reached the one inside.
  pub leads : Course → D → D → Type 0
  -- a write of these bytes at this offset failed between two states: what is known of the bytes that it put
  pub cut : ℕ → List ℕ → D → D → Type 0
  -- a sync failed between two states: what is known of it
  pub cut_sync : D → D → Type 0
