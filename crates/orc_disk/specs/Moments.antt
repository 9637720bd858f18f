-- What crashes at the moments of a row of operations may leave.
use Rattle.std.specs.Prelude.{◌≡◌, ◌↔◌, ℕ, ◌≤◌, ◌⊎◌, List}
use Rattle.orc_disk.specs.Crashes.{LeavesNoMore}
use Rattle.orc_disk.specs.Meanings.{DiskMeaning}

module _ {D : Type 0} (disk : DiskMeaning D) where
  -- What one operation adds to the images of earlier moments: a crash since such a moment may have left what it may
  -- have left before the operation, or what a crash may leave after it.
  pub record Elapses (old new : D) : Type 0 where
    pub later : disk.moment old ≤ disk.moment new
    pub nothing_else : (since : ℕ) (file : List ℕ) → since ≤ disk.moment old
        → disk.left_since new since file → disk.left_since old since file ⊎ disk.may_leave new file
    pub keeps : (since : ℕ) (file : List ℕ) → since ≤ disk.moment old
        → disk.left_since old since file → disk.left_since new since file

  -- No byte was changed between two states: a read gives the same, and a crash leaves no other file.
  pub record Unchanged (old new : D) : Type 0 where
    pub same : disk.content new ≡ disk.content old
    pub crash : LeavesNoMore (disk.may_leave old) (disk.may_leave new)
    pub time : Elapses old new

  -- A crash at each moment from the first state to the second leaves a file that has P.
  pub record LeavesOnly (old new : D) (P : List ℕ → Type 0) : Type 0 where
    pub later : disk.moment old ≤ disk.moment new
    pub each : (file : List ℕ) → disk.left_since new (disk.moment old) file → P file
    -- For rows that began before this one: a crash since an earlier moment leaves what it might have left before, or a
    -- file that has P. So rows can be put one after another.
    pub earlier_rows : (since : ℕ) (file : List ℕ) → since ≤ disk.moment old
        → disk.left_since new since file → disk.left_since old since file ⊎ P file

  -- What a crash since this moment may have left is just what a crash now may leave.
  abbrev pub OnlyNow : Type 0
  OnlyNow = (at : D) (file : List ℕ) → disk.left_since at (disk.moment at) file ↔ disk.may_leave at file
