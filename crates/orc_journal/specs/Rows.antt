-- Several entries that are appended in turn, as the intent, the decision and the end of one call.
use Rattle.std.specs.Prelude.{◌≡◌, ℕ, ◌*◌, ◌≤◌, false, List, ◌++◌, length, IfSome}
use Rattle.orc_disk.specs.Crashes.{LeavesAsRead}
use Rattle.orc_disk.specs.Meanings.{DiskMeaning}
use Rattle.orc_disk.specs.Moments.{LeavesOnly}
use Rattle.orc_journal.specs.Journals.{IsGated, journal_length}
use Rattle.orc_journal.specs.declared.entry.Entry.{Entry}
use Rattle.orc_journal.specs.Views.{JournalView}
use Rattle.orc_journal.specs.Outcomes.{ops_to_append, ComesNearer, Did}

-- a file is a journal, with its ending gate, of the entries before and a prefix of those that were added
pub record HasSomeOf (decls : List ℕ) (entries added : List Entry) (file : List ℕ) : Type 0 where
  pub front : List Entry
  pub rest : List Entry
  pub parts : added ≡ front ++ rest
  pub gated : IsGated file decls (entries ++ front)

-- Each of these entries was appended, in order, each by four operations, and no armed stop came. A crash at any moment
-- left the entries before and a prefix of those. All of them fit. A read gives them now, where the disk reports what
-- it holds, and a crash leaves what a read gives.
pub record AppendsEach {D : Type 0} (disk : DiskMeaning D) (decls : List ℕ) (old : JournalView D) (added : List Entry)
    (new : JournalView D) : Type 0 where
  pub known : new.entries ≡ old.entries ++ added
  pub limit : new.limit ≡ old.limit
  pub fits : journal_length decls (old.entries ++ added) ≤ old.limit
  pub nearer : ComesNearer (ops_to_append * length added) old new
  pub did : Did disk (ops_to_append * length added) false old.disk new.disk
  pub reads : IfSome (disk.content new.disk) (λ file. IsGated file decls (old.entries ++ added))
  pub durable : LeavesAsRead (disk.content new.disk) (disk.may_leave new.disk)
  pub any_moment : LeavesOnly disk old.disk new.disk (HasSomeOf decls old.entries added)
