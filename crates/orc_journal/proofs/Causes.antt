-- The cause of a fault, from that of the bytes which the disk gave before.
use Rattle.std.specs.Prelude.{◌≡◌, ℕ, ◌≤◌, List}
use Rattle.std.proofs.Common.{arith}
use Rattle.orc_disk.specs.Meanings.{DiskMeaning}
use Rattle.orc_journal.specs.Faults.{IsOpenFault}
use Rattle.orc_journal.specs.Hearing.{Heard}
use Rattle.orc_journal.specs.inside.ReadFaults.{IsFileFault}
use Rattle.orc_journal.specs.declared.fault.OpenFault.{OpenFault}
use Rattle.orc_journal.specs.declared.fault.OpenFault.TheVariants.{Foreign, NotJournal, DiskFault, Memory, Full, Damaged}

module _ {D : Type 0} (disk : DiskMeaning D) (old synced mid new : D) (file decls : List ℕ) (limit : ℕ) where
  pub IsOpenFault-heard : disk.faults old ≤ disk.faults mid → (fault : OpenFault) → ((fault ≡ DiskFault → ⊥) → Heard disk synced new file)
      → IsFileFault disk mid new file decls limit fault → IsOpenFault disk old synced new decls limit fault
  IsOpenFault-heard later (Foreign at) heard cause = (file, heard (λ is. cc), cause)
  IsOpenFault-heard later NotJournal heard cause = (file, heard (λ is. cc), cause)
  IsOpenFault-heard later DiskFault heard cause = grind (arith, cause, later)
  IsOpenFault-heard later Memory heard cause = cause
  IsOpenFault-heard later (Full len) heard cause = (cause.0, cause.1, (file, heard (λ is. cc), cause.2))
  IsOpenFault-heard later (Damaged at) heard cause = (file, heard (λ is. cc), cause)
