-- Opening a journal on a disk.
use Rattle.std.specs.Prelude.{◌≡◌, ◌⊎◌, ◌↔◌, ℕ, ◌+◌, ◌≤◌, true, List, [], ◌∷◌, ◌++◌, length, All, IsTrue, IfSome, is_some}
use Rattle.orc_disk.specs.Meanings.{DiskMeaning}
use Rattle.orc_disk.specs.Moments.{Unchanged, LeavesOnly}
use Rattle.orc_journal.specs.Entries.{IsWritable}
use Rattle.orc_journal.specs.Orders.{is_ordered}
use Rattle.orc_journal.specs.Journals.{header, closing_gate, journal_bytes, IsJournal, IsGated}
use Rattle.orc_journal.specs.Faults.{IsOpenFault}
use Rattle.orc_journal.specs.Operations.{LedBy, FailsBefore}
use Rattle.orc_journal.specs.Hearing.{Heard, IsSynced, syncs}
use Rattle.orc_journal.specs.Opened.{OpenJournal, Holds}
use Rattle.orc_journal.specs.declared.entry.Entry.{Entry}
use Rattle.orc_journal.specs.declared.fault.OpenFault.{OpenFault}
use Rattle.orc_journal.specs.declared.fault.OpenFault.TheVariants.{DiskFault}

-- the entries of a file that is opened: none where it is empty
abbrev pub AreEntriesOf : List ℕ → List ℕ → List Entry → Type 0
AreEntriesOf file decls entries = ((file ≡ []) × (entries ≡ [])) ⊎ IsJournal file decls entries

-- the file is a journal of these declarations and ends in the place of its ending gate
abbrev pub LacksGate : List ℕ → List ℕ → Type 0
LacksGate decls file = (entries : List Entry) × All IsWritable entries × (file ≡ journal_bytes decls entries)

-- What may become of a file while it is opened: it stays, and bytes come after it only where it is empty, or ends in
-- the place of its ending gate.
pub record IsOpening (decls old new : List ℕ) : Type 0 where
  pub more : List ℕ
  pub bytes : new ≡ old ++ more
  pub only : (more ≡ []) ⊎ ((old ≡ []) ⊎ LacksGate decls old)

-- What became of a file that was opened as the journal of these entries. With its ending gate it stays. Empty, or where
-- it ends in the gate's place, it becomes the journal with a closed gate, and nothing stands after that.
abbrev pub OpensTo : List ℕ → List Entry → List ℕ → List ℕ → Type 0
OpensTo decls entries old new =
    (IsGated old decls entries × (new ≡ old))
    ⊎ (((old ≡ []) ⊎ (old ≡ journal_bytes decls entries)) × (new ≡ journal_bytes decls entries ++ closing_gate ∷ []))

-- So many writes and syncs that took: none with its ending gate, and else one write and its sync.
abbrev pub OpensBy : List ℕ → List Entry → List ℕ → ℕ → Type 0
OpensBy decls entries old operations =
    (IsGated old decls entries × (operations ≡ 0))
    ⊎ (((old ≡ []) ⊎ (old ≡ journal_bytes decls entries)) × (operations ≡ 2))

module _ {D : Type 0} (disk : DiskMeaning D) where
  -- what may become of the file that a disk holds while it is opened, where the disk reports it
  abbrev pub MayBecome : List ℕ → D → List ℕ → Type 0
  MayBecome decls old file = IfSome (disk.content old) (λ held. IsOpening decls held file)

  -- What opening leaves of a disk, whatever it answers. A crash at any moment leaves what one before would have left,
  -- or what may become of the file that the disk held, and that is what is left.
  pub record LeavesOpening (decls : List ℕ) (old new : D) : Type 0 where
    pub still_tells : is_some (disk.content new) ≡ is_some (disk.content old)
    pub any_moment : LeavesOnly disk old new (λ file. disk.may_leave old file ⊎ MayBecome decls old file)
    pub left : IfSome (disk.content new) (MayBecome decls old)

  -- a fault that is none of the disk came without a change
  abbrev pub KeepsDisk : D → D → OpenFault → Type 0
  KeepsDisk old new fault = (fault ≡ DiskFault → ⊥) → Unchanged disk old new

  -- A disk was opened as the journal of these declarations, with at most so many bytes, and these are its entries. They
  -- are those of the bytes that it gave, from its first sync on, and from then on a crash leaves only what may become
  -- of these. An empty disk took two writes and syncs in all, one with its ending gate one, and else it took three.
  pub record HasOpened (decls : List ℕ) (limit : ℕ) (old : D) (journal : OpenJournal D) (entries : List Entry)
      : Type 0 where
    pub synced : D
    pub looked : IsSynced disk old synced journal.disk
    pub file : List ℕ
    pub heard : Heard disk synced journal.disk file
    pub read : AreEntriesOf file decls entries
    pub fresh : (journal.fresh ≡ true) ↔ (file ≡ [])
    pub room : file ≡ [] → length (header decls) + 1 ≤ limit
    pub becomes : IfSome (disk.content journal.disk) (OpensTo decls entries file)
    pub holds : Holds disk journal decls entries
    pub limited : journal.limit ≡ limit
    pub writable : All IsWritable entries
    pub ordered : IsTrue (is_ordered entries)
    pub since : LeavesOnly disk synced journal.disk (MayBecome decls old)
    pub leaves : LeavesOpening decls old journal.disk
    pub puts : ℕ
    pub put_by : OpensBy decls entries file puts
    pub course : LedBy disk (syncs disk looked + puts) old journal.disk

  -- It was refused, and the disk handed back. Where the fault is none of the disk, nothing changed, and it was synced
  -- unless it is empty: that sync, if any, was the only one. Where it is one of the disk, an operation failed before
  -- the third write or sync was done, and a read after one sync at most; `synced` may then be any disk, and no clause
  -- reads it.
  pub record HasRefused (decls : List ℕ) (limit : ℕ) (old new : D) (fault : OpenFault) : Type 0 where
    pub synced : D
    pub looked : (fault ≡ DiskFault → ⊥) → IsSynced disk old synced new
    pub cause : IsOpenFault disk old synced new decls limit fault
    pub kept : KeepsDisk synced new fault
    pub leaves : LeavesOpening decls old new
    pub course : (other : fault ≡ DiskFault → ⊥) → LedBy disk (syncs disk (looked other)) old new
    pub failed : fault ≡ DiskFault → FailsBefore disk 3 2 old new
