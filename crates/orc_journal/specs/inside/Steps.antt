-- The steps of opening a journal.
use Rattle.std.specs.Prelude.{◌≡◌, ◌↔◌, ℕ, ◌+◌, ◌≤◌, Bool, true, false, List, [], ◌∷◌, ◌++◌, length, All, IsTrue, IfSome}
use Rattle.orc_disk.specs.Meanings.{DiskMeaning}
use Rattle.orc_disk.specs.Crashes.{LeavesAsRead}
use Rattle.orc_disk.specs.Moments.{Unchanged, LeavesOnly}
use Rattle.orc_disk.specs.Rows.{Course, row}
use Rattle.orc_journal.specs.Entries.{IsWritable}
use Rattle.orc_journal.specs.Orders.{is_ordered}
use Rattle.orc_journal.specs.Journals.{header, journal_length, IsGated}
use Rattle.orc_journal.specs.Operations.{LedBy, FailsBefore}
use Rattle.orc_journal.specs.Hearing.{Gave, Heard, WasSynced, IsSynced, syncs}
use Rattle.orc_journal.specs.Opening.{AreEntriesOf, OpensBy, OpensTo, MayBecome, LeavesOpening}
use Rattle.orc_journal.specs.declared.entry.Entry.{Entry}
use Rattle.orc_journal.specs.declared.fault.OpenFault.{OpenFault}
use Rattle.orc_journal.specs.declared.fault.OpenFault.TheVariants.{DiskFault}

-- a row of reads alone, which gave this
abbrev pub reading : List (ℕ × List ℕ) → Course
reading gave = record { operations = 0; failed = false; gave = gave }

module _ {D : Type 0} (disk : DiskMeaning D) where
  -- no write or sync came before a fault: one of the disk is that of a read
  pub record EndsReading (old new : D) (fault : OpenFault) : Type 0 where
    pub other : (fault ≡ DiskFault → ⊥) → LedBy disk 0 old new
    pub failed : fault ≡ DiskFault → FailsBefore disk 1 1 old new

  -- where it is one of the disk, an operation failed before so many writes and syncs were done, and a read after fewer
  -- than `reads`
  abbrev pub FailsAfter : ℕ → ℕ → D → D → OpenFault → Type 0
  FailsAfter most reads old new fault = fault ≡ DiskFault → FailsBefore disk most reads old new

  -- a fault that is none of the disk came before any operation
  abbrev pub IsUntouched : D → D → OpenFault → Type 0
  IsUntouched old new fault = (fault ≡ DiskFault → ⊥) → new ≡ old

  -- One read more gave a piece after the bytes before, and there may be more unless it is empty.
  pub record HeardPiece (old new : D) (before after : List ℕ) (more : Bool) : Type 0 where
    pub piece : List ℕ
    pub grows : after ≡ before ++ piece
    pub course : disk.leads (reading ((length before, piece) ∷ [])) old new
    pub some : more ≡ true → 1 ≤ length piece
    pub last : more ≡ false → piece ≡ []

  -- reads gave these bytes so far
  pub record HeardFront (old new : D) (bytes : List ℕ) : Type 0 where
    pub reads : List (ℕ × List ℕ)
    pub pieces : Gave reads bytes
    pub course : disk.leads (reading reads) old new

  -- and these were all
  pub record HeardAll (old new : D) (bytes : List ℕ) : Type 0 where
    pub reads : List (ℕ × List ℕ)
    pub pieces : Gave reads bytes
    pub course : disk.leads (reading (reads ++ (length bytes, []) ∷ [])) old new

  -- the disk was read as a whole, from where it was synced on
  pub record HasLoaded (old new : D) (file : List ℕ) : Type 0 where
    pub synced : D
    pub looked : IsSynced disk old synced new
    pub heard : Heard disk synced new file
    pub behind : Unchanged disk synced new
    pub course : LedBy disk (syncs disk looked) old new

  -- it was not, since memory could not be had after the sync
  pub record HasGivenUp (old new : D) : Type 0 where
    pub synced : D
    pub looked : WasSynced disk old synced
    pub behind : Unchanged disk synced new
    pub course : LedBy disk 1 old new

  -- The disk holds the journal of these declarations and entries, with its ending gate and of this length, and a crash
  -- leaves what a read gives. Before it was opened it held this file.
  pub record IsStored (old at : D) (file decls : List ℕ) (entries : List Entry) (len : ℕ) : Type 0 where
    pub gated : IfSome (disk.content at) (λ file. IsGated file decls entries)
    pub becomes : IfSome (disk.content at) (OpensTo decls entries file)
    pub durable : LeavesAsRead (disk.content at) (disk.may_leave at)
    pub counted : len ≡ journal_length decls entries
    pub puts : ℕ
    pub put_by : OpensBy decls entries file puts
    pub course : disk.leads (row puts false) old at

  -- The disk was opened so: what is known of the journal, but for the journal itself.
  pub record IsOpenedAs (decls : List ℕ) (limit : ℕ) (old new : D) (entries : List Entry) (len : ℕ) (fresh : Bool)
      : Type 0 where
    pub synced : D
    pub looked : IsSynced disk old synced new
    pub file : List ℕ
    pub heard : Heard disk synced new file
    pub read : AreEntriesOf file decls entries
    pub was_empty : (fresh ≡ true) ↔ (file ≡ [])
    pub room : file ≡ [] → length (header decls) + 1 ≤ limit
    pub gated : IfSome (disk.content new) (λ file. IsGated file decls entries)
    pub becomes : IfSome (disk.content new) (OpensTo decls entries file)
    pub durable : LeavesAsRead (disk.content new) (disk.may_leave new)
    pub counted : len ≡ journal_length decls entries
    pub writable : All IsWritable entries
    pub ordered : IsTrue (is_ordered entries)
    pub since : LeavesOnly disk synced new (MayBecome disk decls old)
    pub leaves : LeavesOpening disk decls old new
    pub puts : ℕ
    pub put_by : OpensBy decls entries file puts
    pub course : LedBy disk (syncs disk looked + puts) old new
