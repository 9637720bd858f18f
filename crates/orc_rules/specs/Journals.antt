-- The journal on its disk, and what becomes of it while entries are appended, also where an append is cut.
use Rattle.std.specs.Prelude.{◌≡◌, ◌⊎◌, ℕ, ◌+◌, ◌-◌, ◌*◌, ◌<◌, ◌≤◌, min, nat_lt, Bool, false, true, List, [], ◌∷◌, ◌++◌, length, IfSome, is_some, if◌then◌else◌}
use Rattle.std.specs.Option.{option_map}
use Rattle.orc_disk.specs.Course.{FailsBehind}
use Rattle.orc_disk.specs.Crashes.{LeavesAsRead}
use Rattle.orc_disk.specs.Rows.{row}
use Rattle.orc_disk.specs.Meanings.{DiskMeaning}
use Rattle.orc_disk.specs.Moments.{LeavesOnly}
use Rattle.orc_io.specs.Counts.{Rose}
use Rattle.orc_call.specs.declared.call.Call.{Call}
use Rattle.orc_datastore.specs.Legal.{IsLegal}
use Rattle.orc_decls.specs.declared.declarations.Decls.{Decls}
use Rattle.orc_journal.specs.declared.entry.Entry.{Entry}
use Rattle.orc_journal.specs.declared.outcome.Appended.{Appended}
use Rattle.orc_journal.specs.Appends.{PutsShort, with_entry}
use Rattle.orc_journal.specs.Journals.{IsGated}
use Rattle.orc_journal.specs.Outcomes.{BecomesUntil, Did}
use Rattle.orc_journal.specs.Rows.{HasSomeOf}
use Rattle.orc_journal.specs.Entries.{entry_bytes}
use Rattle.orc_journal.specs.Journals.{journal_length}
use Rattle.orc_journal.specs.Committed.{history_of}
use Rattle.orc_journal.specs.Opened.{OpenJournal}
use Rattle.orc_journal.specs.Opening.{HasOpened}
use Rattle.orc_journal.specs.declared.outcome.Appended.TheVariants.{Done, Stopped, Failed, Full, Memory}

-- The journal of a world: its disk; the entries that outlive a crash; the entry whose append was cut, if one was, which
-- a crash may leave or not; whether a read gives that one; which write or sync from now on stops the controller, 0 where
-- none does; and how many bytes that one still puts.
pub record Journal (D : Type 0) : Type 0 where
  pub disk : D
  pub synced : List Entry
  pub cut : List Entry
  pub cut_is_read : Bool
  pub armed : ℕ
  pub bytes : ℕ

-- the entries that a read of the journal gives
abbrev pub entries_read : {D : Type 0} → Journal D → List Entry
entries_read journal = if journal.cut_is_read then journal.synced ++ journal.cut else journal.synced

-- the history that a read of the journal gives: the calls of its decided transactions, in the order of their decisions
abbrev pub history_read : {D : Type 0} → Journal D → List Call
history_read journal = history_of (entries_read journal)

-- so many writes and syncs were done, and none of them was the armed one
pub record PassesOperations {D : Type 0} (operations : ℕ) (old new : Journal D) : Type 0 where
  pub none : (old.armed ≡ 0) ⊎ (operations < old.armed)
  pub nearer : new.armed ≡ old.armed - operations
  pub bytes : new.bytes ≡ old.bytes

-- what a file of a journal of these declarations and entries becomes as these are appended, in turn
abbrev pub with_entries : List ℕ → List Entry → List Entry → List ℕ → List ℕ
with_entries decls entries [] file = file
with_entries decls entries (entry ∷ later) file =
    with_entries decls (entries ++ entry ∷ []) later (with_entry (journal_length decls entries) entry file)

module _ {D : Type 0} (disk : DiskMeaning D) (decls : List ℕ) where
  -- The armed stop came in this operation of the append of an entry after these. The disk did those before it, none of
  -- which failed, and that one too where it still puts a byte; `failed` says whether that one failed. Where it didn't,
  -- the disk holds just the bytes that were put by then, over those from before, and a sync that it still did makes
  -- what is there outlive crashes.
  pub record PutsUntilStop (operation bytes : ℕ) (entries : List Entry) (entry : Entry) (old new : D) : Type 0 where
    pub failed : Bool
    pub before : D
    pub ran : disk.leads (row (operation - 1) false) old before
    pub last : disk.leads (row (min bytes 1) failed) before new
    pub did : Did disk (operation - 1 + min bytes 1) failed old new
    pub undone : bytes ≡ 0 → new ≡ before
    pub reached : failed ≡ true → 1 ≤ bytes
    pub becomes : failed ≡ false
        → BecomesUntil operation bytes (journal_length decls entries) entry (disk.content old) (disk.content new)
    pub synced : failed ≡ false → 1 ≤ bytes → (operation ≡ 2) ⊎ (operation ≡ 4)
        → LeavesAsRead (disk.content new) (disk.may_leave new)

  -- So many operations of the append of an entry after these were done, fewer than all, and the next one failed in the
  -- disk. That one counts, and none came after it. Of the bytes that it put or made durable is known what the disk
  -- reports of a write or a sync that failed.
  pub record PutsUntilFault (entries : List Entry) (entry : Entry) (old new : D) : Type 0 where
    pub done : ℕ
    pub fewer : done < 4
    pub did : Did disk (done + 1) true old new
    pub fails : FailsBehind disk done old new
    pub puts : PutsShort disk done (journal_length decls entries) entry old new

  -- what the disk did after so many operations of a row, by how that came out: nothing, or a part of the next append
  abbrev pub DidLast : ℕ → Journal D → Appended → Journal D → D → Type 0
  DidLast done old Done new between = new.disk ≡ between
  DidLast done old Stopped new between = (entry : Entry) × (operation : ℕ) × (new.cut ≡ entry ∷ [])
      × (old.armed ≡ done + operation) × PutsUntilStop operation old.bytes new.synced entry between new.disk
  DidLast done old Failed new between = (entry : Entry) × (new.cut ≡ entry ∷ [])
      × (fault : PutsUntilFault new.synced entry between new.disk) × PassesOperations (done + (fault.done + 1)) old new
  DidLast done old (Full len) new between = new.disk ≡ between
  DidLast done old Memory new between = new.disk ≡ between

  -- What the disk did of a row of which these entries were appended: for each of them a write, a sync, a write and a
  -- sync, of which none failed. What it then holds are just the bytes of these entries and their gates, over those from
  -- before, and a crash leaves that. After it the disk did what it did of the next one, and nothing else.
  pub record PutsRow (added : List Entry) (old : Journal D) (outcome : Appended) (new : Journal D) : Type 0 where
    pub between : D
    pub did : Did disk (4 * length added) false old.disk between
    pub becomes : disk.content between ≡ option_map (with_entries decls old.synced added) (disk.content old.disk)
    pub durable : LeavesAsRead (disk.content between) (disk.may_leave between)
    pub last : DidLast (4 * length added) old outcome new between

-- the first of these entries was cut
abbrev pub CutsFirst : {D : Type 0} → List Entry → Journal D → Type 0
CutsFirst rest new = (entry : Entry) × (later : List Entry) × (rest ≡ entry ∷ later) × (new.cut ≡ entry ∷ [])

module _ {D : Type 0} (disk : DiskMeaning D) (decls : List ℕ) (limit : ℕ) where
  -- The armed stop came in one of the four operations of an append, after so many that were done before: a write, a
  -- sync, the write of one byte that opens the gate, a sync. From the third on, where that still puts its byte, a read
  -- gives the entry; where the disk itself failed that one, it may or not.
  pub record StopsIn (done : ℕ) (old new : Journal D) : Type 0 where
    pub operation : ℕ
    pub among : (1 ≤ operation) × (operation ≤ 4)
    pub armed : old.armed ≡ done + operation
    pub came : new.armed ≡ 0
    pub reads : Rose (disk.faults old.disk) (disk.faults new.disk)
        ⊎ (new.cut_is_read ≡ nat_lt 3 (operation + min old.bytes 1))

  -- how it came out, after so many writes and syncs, where these entries are left
  abbrev pub Ends : ℕ → List Entry → Journal D → Appended → Journal D → Type 0
  Ends done rest old Done new = (rest ≡ []) × (new.cut ≡ []) × PassesOperations done old new
  Ends done rest old Stopped new = CutsFirst rest new × StopsIn done old new
  Ends done rest old Failed new = CutsFirst rest new × Rose (disk.faults old.disk) (disk.faults new.disk)
      × ((more : ℕ) × (more ≤ 4) × PassesOperations (done + more) old new)
  Ends done rest old (Full len) new = (new.cut ≡ []) × (len ≡ journal_length decls new.synced)
      × ((entry : Entry) × (later : List Entry) × (rest ≡ entry ∷ later)
      × (limit < len + length (entry_bytes entry) + 1))
  Ends done rest old Memory new = new ≡ old

  -- What the disk holds: a read gives the entries that are read, and a crash leaves those that are synced, or the cut
  -- one too.
  pub record HoldsEntries (journal : Journal D) : Type 0 where
    pub read : IfSome (disk.content journal.disk) (λ file. IsGated file decls (entries_read journal))
    pub crash : (file : List ℕ) → disk.may_leave journal.disk file → HasSomeOf decls journal.synced journal.cut file

  -- At each moment of an event that was to append this row a crash left what was synced before it, and a prefix of what
  -- was at stake: of the cut entry, or of the row.
  pub record OutlivesRow (old : Journal D) (row : List Entry) (new : Journal D) : Type 0 where
    pub each_moment : LeavesOnly disk old.disk new.disk (HasSomeOf decls old.synced (old.cut ++ row))
    pub holds : HoldsEntries new
    pub tells : is_some (disk.content new.disk) ≡ is_some (disk.content old.disk)
    pub later : disk.faults old.disk ≤ disk.faults new.disk

  -- The entries of a row were appended in turn. These were, and are synced; the others were not, and how it came out
  -- says why. The disk did just what that takes: of a disk that reports no bytes, as a real file, that says how many
  -- writes and syncs came, and that nothing was read. What was appended fits the limit, with the entry that was cut.
  pub record AppendsRow (old : Journal D) (row : List Entry) (outcome : Appended) (new : Journal D) : Type 0 where
    pub before : old.cut ≡ []
    pub done : List Entry
    pub rest : List Entry
    pub parts : row ≡ done ++ rest
    pub synced : new.synced ≡ old.synced ++ done
    pub ends : Ends (4 * length done) rest old outcome new
    pub puts : PutsRow disk decls done old outcome new
    pub fits : (new.synced ++ new.cut ≡ old.synced) ⊎ (journal_length decls (new.synced ++ new.cut) ≤ limit)
    pub outlives : OutlivesRow old row new

  -- Reads give what was written: the disk reports what it holds, or that is taken for granted.
  abbrev pub IsReadBack : Bool → D → Type 0
  IsReadBack granted held = (granted ≡ true) ⊎ (is_some (disk.content held) ≡ true)

  -- It was not opened again, and holds what it held.
  pub record StaysClosed (old new : Journal D) : Type 0 where
    pub synced : new.synced ≡ old.synced
    pub cut : (new.cut ≡ old.cut) × (new.cut_is_read ≡ old.cut_is_read)
    pub outlives : OutlivesRow old [] new

module _ {D : Type 0} (disk : DiskMeaning D) (decls : Decls) (limit : ℕ) where
  -- The journal, which stood on the disk, was opened again as one is opened at a start. What the reads of that gave is
  -- what there is from then on: a legal history, and what was written where reads give that. No stop is armed.
  pub record Reopens (granted : Bool) (old new : Journal D) : Type 0 where
    pub journal : OpenJournal D
    pub opened : HasOpened disk decls.text limit old.disk journal new.synced
    pub on : journal.disk ≡ new.disk
    pub stood : journal.fresh ≡ false
    pub legal : IsLegal decls (history_of new.synced)
    pub synced : IsReadBack disk decls.text limit granted old.disk → new.synced ≡ entries_read old
    pub cut : new.cut ≡ []
    pub unarmed : new.armed ≡ 0
    pub outlives : OutlivesRow disk decls.text limit old [] new
