-- Why bytes are no journal, and why a disk is not read.
use Rattle.std.specs.Prelude.{◌≡◌, ℕ, ◌+◌, ◌<◌, List, [], length}
use Rattle.orc_io.specs.Counts.{Rose}
use Rattle.orc_disk.specs.Meanings.{DiskMeaning}
use Rattle.orc_journal.specs.Journals.{header, IsNotJournal, IsForeign, IsDamaged}
use Rattle.orc_journal.specs.declared.fault.OpenFault.{OpenFault}
use Rattle.orc_journal.specs.declared.fault.OpenFault.TheVariants.{Foreign, NotJournal, DiskFault, Memory, Full, Damaged}
use Rattle.orc_journal.specs.declared.reading.ReadFault.{ReadFault}
use Rattle.orc_journal.specs.declared.reading.ReadFault.TheVariants as read

-- the cause of each fault of bytes; running out of memory is free
abbrev pub IsReadFault : List ℕ → List ℕ → ReadFault → Type 0
IsReadFault file decls read.NotJournal = IsNotJournal file
IsReadFault file decls (read.Foreign at) = IsForeign file decls at
IsReadFault file decls (read.Damaged at) = IsDamaged file decls at
IsReadFault file decls read.Memory = Unit {0}

-- a fault of reading the disk, or running out of memory
abbrev pub IsDiskFault : {D : Type 0} → DiskMeaning D → D → D → OpenFault → Type 0
IsDiskFault disk old new (Foreign at) = ⊥
IsDiskFault disk old new NotJournal = ⊥
IsDiskFault disk old new DiskFault = Rose (disk.faults old) (disk.faults new)
IsDiskFault disk old new Memory = Unit {0}
IsDiskFault disk old new (Full len) = ⊥
IsDiskFault disk old new (Damaged at) = ⊥

-- the cause of a fault of opening the journal that is in these bytes
abbrev pub IsFileFault : {D : Type 0} → DiskMeaning D → D → D → List ℕ → List ℕ → ℕ → OpenFault → Type 0
IsFileFault disk old new file decls limit (Foreign at) = IsForeign file decls at
IsFileFault disk old new file decls limit NotJournal = IsNotJournal file
IsFileFault disk old new file decls limit DiskFault = Rose (disk.faults old) (disk.faults new)
IsFileFault disk old new file decls limit Memory = Unit {0}
IsFileFault disk old new file decls limit (Full len) = (len ≡ 0) × (limit < length (header decls) + 1) × (file ≡ [])
IsFileFault disk old new file decls limit (Damaged at) = IsDamaged file decls at
