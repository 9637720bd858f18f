-- How many writes and syncs were done on the way.
use Rattle.std.specs.Prelude.{◌≡◌, ℕ, ◌<◌, ◌≤◌, true, false, List}
use Rattle.orc_disk.specs.Meanings.{DiskMeaning}
use Rattle.orc_disk.specs.Rows.{row}

module _ {D : Type 0} (disk : DiskMeaning D) where
  -- so many writes and syncs were done, with any reads among them, and no operation failed
  abbrev pub LedBy : ℕ → D → D → Type 0
  LedBy operations old new =
      (gave : List (ℕ × List ℕ))
      × disk.leads (record { operations = operations; failed = false; gave = gave }) old new

  -- Fewer writes and syncs than so many were done, and no operation failed. Then one failed, and none came after it:
  -- the next write or sync, or a read, which comes after fewer of them than `reads`.
  pub record FailsBefore (most reads : ℕ) (old new : D) : Type 0 where
    pub done : ℕ
    pub fewer : done < most
    pub last : D
    pub ran : LedBy done old last
    pub operations : ℕ
    pub one : operations ≤ 1
    pub read : operations ≡ 0 → done < reads
    pub failed : disk.leads (row operations true) last new
