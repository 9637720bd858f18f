-- An open journal.
use Rattle.std.specs.Prelude.{◌≡◌, ℕ, ◌<◌, ◌^◌, Bool, false, List, length, IfSome}
use Rattle.orc_disk.specs.Crashes.{LeavesAsRead}
use Rattle.orc_disk.specs.Meanings.{DiskMeaning}
use Rattle.orc_journal.specs.Journals.{header, journal_length, IsGated}
use Rattle.orc_journal.specs.declared.entry.Entry.{Entry}

-- the disk, the length of the header, the length of the journal up to and with its ending gate, the most bytes that it
-- may have, whether the disk was empty as the journal was opened and no entry came since, and whether an append met a
-- fault
pub record OpenJournal (D : Type 0) : Type 0 where
  pub disk : D
  pub start : ℕ
  pub len : ℕ
  pub limit : ℕ
  pub fresh : Bool
  pub spent : Bool

module _ {D : Type 0} (disk : DiskMeaning D) where
  -- The open journal is that of these declarations and entries: where the disk reports what it holds, it holds it
  -- with the ending gate, and a crash leaves what a read gives.
  pub record Holds (journal : OpenJournal D) (decls : List ℕ) (entries : List Entry) : Type 0 where
    pub unspent : journal.spent ≡ false
    pub start : journal.start ≡ length (header decls)
    pub len : journal.len ≡ journal_length decls entries
    pub limit : journal.limit < 2 ^ 32
    pub file : IfSome (disk.content journal.disk) (λ file. IsGated file decls entries)
    pub durable : LeavesAsRead (disk.content journal.disk) (disk.may_leave journal.disk)

  -- it is one of some declarations and entries
  abbrev pub IsReady : OpenJournal D → Type 0
  IsReady journal = (decls : List ℕ) × (entries : List Entry) × Holds journal decls entries

  -- what is so of the declarations and entries that it is of
  abbrev pub WhereHolds : OpenJournal D → (List ℕ → List Entry → Type 0) → Type 0
  WhereHolds journal P = (decls : List ℕ) (entries : List Entry) → Holds journal decls entries → P decls entries
