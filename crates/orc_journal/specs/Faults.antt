-- Why a journal is not opened.
use Rattle.std.specs.Prelude.{◌≡◌, ℕ, ◌+◌, ◌<◌, List, [], length}
use Rattle.orc_io.specs.Counts.{Rose}
use Rattle.orc_disk.specs.Meanings.{DiskMeaning}
use Rattle.orc_journal.specs.Hearing.{Heard}
use Rattle.orc_journal.specs.Journals.{header, IsNotJournal, IsForeign, IsDamaged}
use Rattle.orc_journal.specs.declared.fault.OpenFault.{OpenFault}
use Rattle.orc_journal.specs.declared.fault.OpenFault.TheVariants.{Foreign, NotJournal, DiskFault, Memory, Full, Damaged}
use Rattle.orc_journal.specs.declared.reading.ReadFault.{ReadFault}
use Rattle.orc_journal.specs.declared.reading.ReadFault.TheVariants as read

module _ {D : Type 0} (disk : DiskMeaning D) where
  -- what is so of the bytes that the disk gave
  abbrev pub OfHeard : D → D → (List ℕ → Type 0) → Type 0
  OfHeard synced new P = (file : List ℕ) × Heard disk synced new file × P file

  -- The cause of each fault, for a disk before the call, where it is read from, and after the call. Running out of
  -- memory is free.
  abbrev pub IsOpenFault : D → D → D → List ℕ → ℕ → OpenFault → Type 0
  IsOpenFault old synced new decls limit (Foreign at) = OfHeard synced new (λ file. IsForeign file decls at)
  IsOpenFault old synced new decls limit NotJournal = OfHeard synced new (λ file. IsNotJournal file)
  IsOpenFault old synced new decls limit DiskFault = Rose (disk.faults old) (disk.faults new)
  IsOpenFault old synced new decls limit Memory = Unit {0}
  IsOpenFault old synced new decls limit (Full len) =
      (len ≡ 0) × (limit < length (header decls) + 1) × OfHeard synced new (λ file. file ≡ [])
  IsOpenFault old synced new decls limit (Damaged at) = OfHeard synced new (λ file. IsDamaged file decls at)

-- the fault of bytes that are no journal, as one of opening
abbrev pub open_fault : ReadFault → OpenFault
open_fault read.NotJournal = NotJournal
open_fault (read.Foreign at) = Foreign at
open_fault (read.Damaged at) = Damaged at
open_fault read.Memory = Memory
