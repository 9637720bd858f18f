-- What a disk may hold as a run begins: why its journal isn't opened, and what a crash may leave while it is.
use Rattle.std.specs.Prelude.{◌≡◌, ◌⊎◌, ℕ, ◌+◌, ◌<◌, List, [], length, take, IsTrue, IfSome}
use Rattle.orc_io.specs.Counts.{Rose}
use Rattle.orc_journal.specs.Orders.{is_ordered}
use Rattle.orc_journal.specs.Journals.{header, journal_bytes, IsNotJournal, IsForeign, IsDamaged}
use Rattle.orc_journal.specs.Committed.{history_of}
use Rattle.orc_journal.specs.Opened.{OpenJournal}
use Rattle.orc_journal.specs.Views.{unstopped}
use Rattle.orc_journal.specs.Opening.{AreEntriesOf, IsOpening, HasOpened, HasRefused}
use Rattle.orc_journal.specs.declared.entry.Entry.{Entry}
use Rattle.orc_journal.specs.declared.fault.OpenFault.{OpenFault}
use Rattle.orc_journal.specs.declared.fault.OpenFault.TheVariants as fault
use Rattle.orc_call.specs.declared.call.Call.{Call}
use Rattle.orc_decls.specs.declared.declarations.Decls.{Decls}
use Rattle.orc_disk.specs.Meanings.{DiskMeaning}
use Rattle.orc_disk.specs.Stops.{Stopping, inside}
use Rattle.orc_runs.specs.Ends.{IsIllegal, IsIllegalAt}
use Rattle.orc_run.specs.declared.opening.TheConstants.{LARGEST_JOURNAL}
use Rattle.orc_run.specs.declared.stop.Stop.{Stop}
use Rattle.orc_run.specs.declared.stop.Stop.TheVariants as ending

-- the history of a file that was opened
pub record HasHistory (decls : Decls) (file : List ℕ) (history : List Call) : Type 0 where
  pub entries : List Entry
  pub are : AreEntriesOf file decls.text entries
  pub ordered : IsTrue (is_ordered entries)
  pub decided : history_of entries ≡ history

-- how a run ends whose journal isn't opened
abbrev pub stop_of : OpenFault → Stop
stop_of (fault.Foreign at) = ending.Foreign at
stop_of fault.NotJournal = ending.NotJournal
stop_of fault.DiskFault = ending.JournalFault
stop_of fault.Memory = ending.Memory
stop_of (fault.Full len) = ending.Full len
stop_of (fault.Damaged at) = ending.Damaged at

-- why the past of these entries isn't read: a Decide makes the history illegal, or memory ran out
abbrev pub IsPastFault : Decls → List Entry → Stop → Type 0
IsPastFault decls entries ending.Memory = Unit {0}
IsPastFault decls entries (ending.Damaged at) =
    (place : ℕ) × IsIllegalAt decls entries place
    × (at ≡ length (journal_bytes decls.text (take place entries)) + 1)
IsPastFault decls entries end = ⊥

module _ {D : Type 0} (meaning : DiskMeaning D) where
  -- The disk was opened as the journal of the declarations and these entries, which are those of the bytes that it gave
  -- (`HasOpened` says it of the stopping disk around it).
  pub record IsOpened (decls : Decls) (old : D) (entries : List Entry) (new : D) : Type 0 where
    pub journal : OpenJournal (Stopping D)
    pub disk_is : journal.disk.inner ≡ new
    pub opened : HasOpened (inside meaning) decls.text LARGEST_JOURNAL (unstopped old) journal entries

  -- The journal was refused: the bytes that were read are the cause, and unless an operation failed, nothing changed
  -- (`HasRefused` says it of the stopping disk around it).
  pub record IsRefusedAtOnce (decls : Decls) (old new : D) (end : Stop) : Type 0 where
    pub last : Stopping D
    pub disk_is : last.inner ≡ new
    pub fault : OpenFault
    pub end_is : end ≡ stop_of fault
    pub refused : HasRefused (inside meaning) decls.text LARGEST_JOURNAL (unstopped old) last fault

  -- the journal was refused, or it was opened, and then its entries have no past
  abbrev pub IsRefused : Decls → D → D → Stop → Type 0
  IsRefused decls old new end = IsRefusedAtOnce decls old new end
      ⊎ ((entries : List Entry) × IsOpened decls old entries new × IsPastFault decls entries end)

  -- why a journal isn't opened, by the disk before and after; memory may run out
  abbrev pub IsRefusedBecause : Decls → D → D → Stop → Type 0
  IsRefusedBecause decls old new ending.JournalFault = Rose (meaning.faults old) (meaning.faults new)
  IsRefusedBecause decls old new ending.Memory = Unit {0}
  IsRefusedBecause decls old new (ending.Full len) =
      (len ≡ 0) × (LARGEST_JOURNAL < length (header decls.text) + 1) × IfSome (meaning.content old) (λ file. file ≡ [])
  IsRefusedBecause decls old new (ending.Foreign at) =
      IfSome (meaning.content old) (λ file. IsForeign file decls.text at)
  IsRefusedBecause decls old new ending.NotJournal = IfSome (meaning.content old) (λ file. IsNotJournal file)
  IsRefusedBecause decls old new (ending.Damaged at) =
      IfSome (meaning.content old) (λ file. IsDamaged file decls.text at ⊎ IsIllegal decls file at)
  IsRefusedBecause decls old new end = ⊥

  -- what a crash may leave while a journal is opened: what one before the first sync would have left, or the file, with
  -- bytes after it only where its ending gate was not there
  abbrev pub MayBeOpening : Decls → D → List ℕ → Type 0
  MayBeOpening decls disk file =
      meaning.may_leave disk file ⊎ IfSome (meaning.content disk) (λ opened. IsOpening decls.text opened file)
