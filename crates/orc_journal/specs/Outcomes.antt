-- What one append does to a journal on a disk that an armed operation stops.
use Rattle.std.specs.Prelude.{◌≡◌, ◌⊎◌, ℕ, ◌+◌, ◌-◌, ◌<◌, ◌≤◌, min, Bool, true, false, List, [], ◌∷◌, ◌++◌, take, Option, IsTrue, IfSome, is_some}
use Rattle.std.specs.Option.{option_map}
use Rattle.orc_text.specs.Counts.{capped}
use Rattle.orc_disk.specs.Files.{written}
use Rattle.orc_disk.specs.Crashes.{LeavesAsRead}
use Rattle.orc_disk.specs.Rows.{row}
use Rattle.orc_disk.specs.Course.{Counted, FailsBehind}
use Rattle.orc_disk.specs.Meanings.{DiskMeaning}
use Rattle.orc_disk.specs.Moments.{LeavesOnly}
use Rattle.orc_journal.specs.Entries.{is_intent}
use Rattle.orc_journal.specs.Journals.{IsGated, journal_length}
use Rattle.orc_journal.specs.Appends.{block_bytes, with_entry, IsBeforeOrAfter, IsLeftBehind, PutsShort, opens_gate}
use Rattle.orc_journal.specs.declared.entry.Entry.{Entry}
use Rattle.orc_journal.specs.Views.{JournalView, length_with}
use Rattle.orc_journal.specs.declared.outcome.Appended.{Appended}
use Rattle.orc_journal.specs.declared.outcome.Appended.TheVariants.{Done, Stopped, Failed, Full, Memory}

-- An append writes the entry, syncs, opens the gate before it, and syncs.
abbrev pub ops_to_append : ℕ
ops_to_append = 4

-- so many writes and syncs were done: an armed stop is by so many nearer, and was none of them
pub record ComesNearer {D : Type 0} (operations : ℕ) (old new : JournalView D) : Type 0 where
  pub later : (old.armed ≡ 0) ⊎ (operations < old.armed)
  pub armed : new.armed ≡ old.armed - operations
  pub bytes : new.bytes ≡ old.bytes

-- A file is what an append leaves that was stopped at this operation, which still put so many bytes: the entries
-- before, where the operation came before the opening of the gate, and those and the new one where it came after.
-- Where it was that write, the gate is opened exactly where a byte was put, unless the disk inside failed it.
pub record IsStoppedAt (operation bytes : ℕ) (failed : Bool) (decls : List ℕ) (entries : List Entry) (entry : Entry)
    (file : List ℕ) : Type 0 where
  pub before : operation < opens_gate → IsGated file decls entries
  pub unopened : operation ≡ opens_gate → bytes ≡ 0 → IsGated file decls entries
  pub opened : operation ≡ opens_gate → 0 < bytes → failed ≡ false → IsGated file decls (entries ++ entry ∷ [])
  pub after : opens_gate < operation → IsGated file decls (entries ++ entry ∷ [])

-- What an append to a journal of this length made of what a disk holds, where it was stopped at this operation, which
-- still put so many bytes, and the disk inside failed none. The write of the entry and its closed gate put its first
-- bytes. Where the gate before it was opened the whole of it is there, and else all but that.
pub record BecomesUntil (operation bytes len : ℕ) (entry : Entry) (old new : Option (List ℕ)) : Type 0 where
  pub cut : operation ≡ 1 → new ≡ option_map (written len (take bytes (block_bytes entry))) old
  pub closed : (operation ≡ 2) ⊎ ((operation ≡ opens_gate) × (bytes ≡ 0))
      → new ≡ option_map (written len (block_bytes entry)) old
  pub opened : ((operation ≡ opens_gate) × (1 ≤ bytes)) ⊎ (operation ≡ ops_to_append)
      → new ≡ option_map (with_entry len entry) old

module _ {D : Type 0} (disk : DiskMeaning D) where
  -- The disk did so many writes and syncs, and counted them and its faults. Where the truth value is true one of its
  -- operations failed.
  pub record Did (operations : ℕ) (failed : Bool) (old new : D) : Type 0 where
    pub course : disk.leads (row operations failed) old new
    pub ops : disk.ops new ≡ capped (disk.ops old + operations)
    pub faults : Counted failed (disk.faults old) (disk.faults new)

  module _ (decls : List ℕ) where
    -- A crash at any moment since the append began leaves the entries before, or those and the new one. So does a read
    -- now, where the disk reports what it holds, and a crash now.
    pub record LeavesOldOrNew (old : JournalView D) (entry : Entry) (new : JournalView D) : Type 0 where
      pub any_moment : LeavesOnly disk old.disk new.disk (IsBeforeOrAfter decls old.entries entry)
      pub crash : (file : List ℕ) → disk.may_leave new.disk file → IsBeforeOrAfter decls old.entries entry file
      pub read : IfSome (disk.content new.disk) (IsBeforeOrAfter decls old.entries entry)
      pub still_tells : is_some (disk.content new.disk) ≡ is_some (disk.content old.disk)

    -- the entry is in the journal, by four operations of which none failed
    pub record IsAppendedTo (old : JournalView D) (entry : Entry) (new : JournalView D) : Type 0 where
      pub known : new.entries ≡ old.entries ++ entry ∷ []
      pub limit : new.limit ≡ old.limit
      pub fits : length_with decls old entry ≤ old.limit
      pub nearer : ComesNearer ops_to_append old new
      pub did : Did ops_to_append false old.disk new.disk
      pub becomes : disk.content new.disk
          ≡ option_map (with_entry (journal_length decls old.entries) entry) (disk.content old.disk)
      pub reads : IfSome (disk.content new.disk) (λ file. IsGated file decls (old.entries ++ entry ∷ []))
      pub durable : LeavesAsRead (disk.content new.disk) (disk.may_leave new.disk)
      pub leaves : LeavesOldOrNew old entry new

    -- The armed operation was one of the four. The disk did those before it, none of which failed, and that one too
    -- where it still put a byte, and else is as it was before. Where that one failed in the disk inside, the truth
    -- value is true. A sync that it still did makes what is there outlive crashes.
    pub record StopsAppend (old : JournalView D) (entry : Entry) (new : JournalView D) : Type 0 where
      pub known : new.entries ≡ old.entries
      pub limit : new.limit ≡ old.limit
      pub fits : length_with decls old entry ≤ old.limit
      pub one : 1 ≤ old.armed
      pub among : old.armed ≤ ops_to_append
      pub came : new.armed ≡ 0
      pub bytes : new.bytes ≡ old.bytes
      pub failed : Bool
      pub before : D
      pub ran : disk.leads (row (old.armed - 1) false) old.disk before
      pub last : disk.leads (row (min old.bytes 1) failed) before new.disk
      pub did : Did (old.armed - 1 + min old.bytes 1) failed old.disk new.disk
      pub undone : old.bytes ≡ 0 → new.disk ≡ before
      pub reached : failed ≡ true → 1 ≤ old.bytes
      pub becomes : failed ≡ false
          → BecomesUntil old.armed old.bytes (journal_length decls old.entries) entry
          (disk.content old.disk) (disk.content new.disk)
      pub reads : IfSome (disk.content new.disk) (IsStoppedAt old.armed old.bytes failed decls old.entries entry)
      pub synced : failed ≡ false → 1 ≤ old.bytes → (old.armed ≡ 2) ⊎ (old.armed ≡ ops_to_append)
          → LeavesAsRead (disk.content new.disk) (disk.may_leave new.disk)
      pub leaves : LeavesOldOrNew old entry new

    -- So many of the four were done, fewer than all, and the next one failed. No armed stop came. What was put is
    -- stated as for a journal on the disk itself.
    pub record FailsAppend (old : JournalView D) (entry : Entry) (new : JournalView D) : Type 0 where
      pub known : new.entries ≡ old.entries
      pub limit : new.limit ≡ old.limit
      pub fits : length_with decls old entry ≤ old.limit
      pub done : ℕ
      pub fewer : done < ops_to_append
      pub nearer : ComesNearer (done + 1) old new
      pub fails : FailsBehind disk done old.disk new.disk
      pub did : Did (done + 1) true old.disk new.disk
      pub puts : PutsShort disk done (journal_length decls old.entries) entry old.disk new.disk
      pub reads : IfSome (disk.content new.disk) (IsLeftBehind done decls old.entries entry)
      pub leaves : LeavesOldOrNew old entry new

    -- the entry with its gate doesn't fit, the journal has this length, and nothing changed
    pub record FindsNoRoom (len : ℕ) (old : JournalView D) (entry : Entry) (new : JournalView D) : Type 0 where
      pub length : len ≡ journal_length decls old.entries
      pub no_room : old.limit < length_with decls old entry
      pub same : new ≡ old

    -- What an append does, by its outcome. Memory runs out for an intent alone, and that changes nothing.
    abbrev pub Appends : JournalView D → Entry → Appended → JournalView D → Type 0
    Appends old entry Done new = IsAppendedTo old entry new
    Appends old entry Stopped new = StopsAppend old entry new
    Appends old entry Failed new = FailsAppend old entry new
    Appends old entry (Full len) new = FindsNoRoom len old entry new
    Appends old entry Memory new = IsTrue (is_intent entry) × (new ≡ old)
