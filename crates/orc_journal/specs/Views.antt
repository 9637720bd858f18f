-- What can be said of a journal on a disk that an armed operation stops.
use Rattle.std.specs.Prelude.{◌≡◌, ℕ, ◌+◌, false, List, length}
use Rattle.orc_disk.specs.Meanings.{DiskMeaning}
use Rattle.orc_disk.specs.Stops.{Stopping, inside}
use Rattle.orc_journal.specs.Entries.{entry_bytes}
use Rattle.orc_journal.specs.Journals.{journal_length}
use Rattle.orc_journal.specs.Opened.{OpenJournal, Holds}
use Rattle.orc_journal.specs.declared.entry.Entry.{Entry}

-- the disk itself, inside the one that stops it, the entries that are known to be in the journal, which write or sync
-- from now on stops the disk (0 where none does), how many bytes that one still puts, and the most bytes that the
-- journal may have
pub record JournalView (D : Type 0) : Type 0 where
  pub disk : D
  pub entries : List Entry
  pub armed : ℕ
  pub bytes : ℕ
  pub limit : ℕ

-- what can be said of this open journal, where these are the entries that are known
abbrev pub journal_view : {D : Type 0} → OpenJournal (Stopping D) → List Entry → JournalView D
journal_view journal entries = record {
  disk = journal.disk.inner;
  entries = entries;
  armed = journal.disk.op;
  bytes = journal.disk.bytes;
  limit = journal.limit;
}

-- it is the journal of these declarations and entries, and its disk is not stopped
pub record IsOpen {D : Type 0} (disk : DiskMeaning D) (journal : OpenJournal (Stopping D)) (decls : List ℕ)
    (entries : List Entry) : Type 0 where
  pub holds : Holds (inside disk) journal decls entries
  pub running : journal.disk.stopped ≡ false

-- the length that the journal of these declarations has with one more entry and its gate
abbrev pub length_with : {D : Type 0} → List ℕ → JournalView D → Entry → ℕ
length_with decls view entry = journal_length decls view.entries + length (entry_bytes entry) + 1

-- the disk where no stop is armed
abbrev pub unstopped : {D : Type 0} → D → Stopping D
unstopped disk = record { inner = disk; op = 0; bytes = 0; stopped = false; stops = 0; ops = 0 }
