-- What a row of operations of a disk adds up to, and at which of them it failed.
use Rattle.std.specs.Prelude.{◌≡◌, ℕ, ◌+◌, ◌<◌, ◌≤◌, Bool, true, false, List, ◌++◌, Result, is_err}
use Rattle.orc_text.specs.Counts.{capped}
use Rattle.orc_io.specs.Counts.{Rose, HasCause}
use Rattle.orc_disk.specs.Rows.{Course, row, read_row}
use Rattle.orc_disk.specs.Meanings.{DiskMeaning}

-- the count of faults never falls, and where an operation failed it rose
pub record Counted (failed : Bool) (before now : ℕ) : Type 0 where
  pub later : before ≤ now
  pub rose : failed ≡ true → Rose before now

-- the counts of faults, and of writes and syncs, before a row of operations and after it, and what reads gave so far
pub record Tallied (course : Course) (faults faults_now ops ops_now : ℕ) (heard heard_now : List (ℕ × List ℕ))
    : Type 0 where
  pub faulted : Counted course.failed faults faults_now
  pub asked : ops_now ≡ capped (ops + course.operations)
  pub gave : heard_now ≡ heard ++ course.gave

module _ {D : Type 0} (disk : DiskMeaning D) where
  -- One operation with this result led there, no read that gave anything, and counts as so many writes and syncs, 0 or
  -- 1. Where it failed the count of faults rose.
  pub record Performed {T E : Type 0} (operations : ℕ) (result : Result T E) (old new : D) : Type 0 where
    pub course : disk.leads (row operations (is_err result)) old new
    pub cause : HasCause (disk.faults old) (disk.faults new) result

  -- One read at this offset with this result led there, and gave what the buffer then holds of it. Where it failed the
  -- count of faults rose.
  pub record PerformedRead {E : Type 0} (at : ℕ) (buf : List ℕ) (result : Result ℕ E) (old new : D) : Type 0 where
    pub course : disk.leads (read_row at buf result) old new
    pub cause : HasCause (disk.faults old) (disk.faults new) result

  -- Operations led there, some number of them writes and syncs, and their reads gave this. Where the truth value is
  -- true one of them failed.
  abbrev pub Hears : Bool → List (ℕ × List ℕ) → D → D → Type 0
  Hears failed gave old new =
      (operations : ℕ) × disk.leads (record { operations = operations; failed = failed; gave = gave }) old new

  -- So many writes and syncs were done and no operation failed; up to the next write or sync, it included, one failed.
  -- No read gave anything.
  abbrev pub FailsBehind : ℕ → D → D → Type 0
  FailsBehind done old new = (last : D) × disk.leads (row done false) old last × disk.leads (row 1 true) last new

  -- Of a row of so many writes and syncs some were done, fewer than all; then an operation failed, and none came after
  -- it. P says what is known where so many were done.
  pub record FailsAmong (operations : ℕ) (old new : D) (P : ℕ → Type 0) : Type 0 where
    pub done : ℕ
    pub fewer : done < operations
    pub failed : FailsBehind done old new
    pub known : P done
