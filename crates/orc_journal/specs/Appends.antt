-- Appending an entry to an open journal.
use Rattle.std.specs.Prelude.{◌≡◌, ◌⊎◌, ℕ, ◌+◌, ◌-◌, ◌<◌, ◌≤◌, true, false, List, [], ◌∷◌, ◌++◌, length, IfSome, is_some}
use Rattle.std.specs.Option.{option_map}
use Rattle.orc_io.specs.Counts.{Rose}
use Rattle.orc_disk.specs.Files.{written}
use Rattle.orc_disk.specs.Meanings.{DiskMeaning}
use Rattle.orc_disk.specs.Moments.{LeavesOnly}
use Rattle.orc_disk.specs.Course.{FailsAmong}
use Rattle.orc_disk.specs.Rows.{row}
use Rattle.orc_journal.specs.Entries.{entry_bytes}
use Rattle.orc_journal.specs.Journals.{closing_gate, IsGated}
use Rattle.orc_journal.specs.Opened.{OpenJournal, Holds, WhereHolds}
use Rattle.orc_journal.specs.declared.entry.Entry.{Entry}
use Rattle.orc_journal.specs.declared.gate.TheConstants.{OPEN}

-- an entry, and a closed gate after it
abbrev pub block_bytes : Entry → List ℕ
block_bytes entry = entry_bytes entry ++ closing_gate ∷ []

-- the file of a journal of this length after an append: the entry and a closed gate were put after the ending gate,
-- and then that gate was opened
abbrev pub with_entry : ℕ → Entry → List ℕ → List ℕ
with_entry len entry file = written (len - 1) (OPEN ∷ []) (written len (block_bytes entry) file)

-- the entry with its gate passes the limit
abbrev pub IsTooLong : {D : Type 0} → OpenJournal D → Entry → Type 0
IsTooLong journal entry = journal.limit < journal.len + length (entry_bytes entry) + 1

-- a file is what an append may leave: a journal, with its ending gate, of the entries before, or of those and the new
-- one
abbrev pub IsBeforeOrAfter : List ℕ → List Entry → Entry → List ℕ → Type 0
IsBeforeOrAfter decls entries entry file = IsGated file decls entries ⊎ IsGated file decls (entries ++ entry ∷ [])

-- which of the four writes and syncs of an append opens the gate
abbrev pub opens_gate : ℕ
opens_gate = 3

-- A file is what an append leaves of which so many writes and syncs were done and the next one failed: a journal, with
-- its ending gate, of the entries before, where that one came before the opening of the gate, and of those and the
-- new one, where it came after. Where the opening of the gate failed it may be either.
pub record IsLeftBehind (done : ℕ) (decls : List ℕ) (entries : List Entry) (entry : Entry) (file : List ℕ)
    : Type 0 where
  pub before : done + 1 < opens_gate → IsGated file decls entries
  pub after : opens_gate < done + 1 → IsGated file decls (entries ++ entry ∷ [])

module _ {D : Type 0} (disk : DiskMeaning D) where
  -- What an append leaves of the disk, whatever it answers: a crash at any moment leaves the entries before, or those
  -- and the new one, and so does the call.
  pub record LeavesBeforeOrAfter (old new : OpenJournal D) (entry : Entry) : Type 0 where
    pub still_tells : is_some (disk.content new.disk) ≡ is_some (disk.content old.disk)
    pub any_moment : WhereHolds disk old
        (λ decls entries. LeavesOnly disk old.disk new.disk (IsBeforeOrAfter decls entries entry))
    pub left : WhereHolds disk old
        (λ decls entries. IfSome (disk.content new.disk) (IsBeforeOrAfter decls entries entry))

  -- the entry was appended, by four writes and syncs of which none failed
  pub record HasAppended (old new : OpenJournal D) (entry : Entry) : Type 0 where
    pub holds : WhereHolds disk old (λ decls entries. Holds disk new decls (entries ++ entry ∷ []))
    pub becomes : disk.content new.disk ≡ option_map (with_entry old.len entry) (disk.content old.disk)
    pub state : new ≡ record old { disk = new.disk; len = old.len + length (entry_bytes entry) + 1; fresh = false }
    pub fits : new.len ≤ old.limit
    pub course : disk.leads (row 4 false) old.disk new.disk

  -- The write failed that opens the gate of a journal of this length. Before it the entry and a closed gate were put,
  -- and what the disk reports of a cut write it reports of this one.
  pub record FailsToOpen (len : ℕ) (entry : Entry) (old new : D) : Type 0 where
    pub before : D
    pub ran : disk.leads (row (opens_gate - 1) false) old before
    pub put : disk.content before ≡ option_map (written len (block_bytes entry)) (disk.content old)
    pub cut : disk.cut (len - 1) (OPEN ∷ []) before new

  -- A sync failed after so many writes and syncs: what the disk reports of it.
  pub record FailsToSync (done : ℕ) (old new : D) : Type 0 where
    pub before : D
    pub ran : disk.leads (row done false) old before
    pub cut : disk.cut_sync before new

  -- What an append to a journal of this length put of which so many writes and syncs were done and the next one failed:
  -- of a write that failed what the disk reports of a cut one, and after each write what that put.
  pub record PutsShort (done len : ℕ) (entry : Entry) (old new : D) : Type 0 where
    pub cut : done ≡ 0 → disk.cut len (block_bytes entry) old new
    pub syncing : (done ≡ 1) ⊎ (done ≡ opens_gate) → FailsToSync done old new
    pub put : done ≡ 1 → disk.content new ≡ option_map (written len (block_bytes entry)) (disk.content old)
    pub opening : done + 1 ≡ opens_gate → FailsToOpen len entry old new
    pub opened : done ≡ opens_gate → disk.content new ≡ option_map (with_entry len entry) (disk.content old)

  -- Before the gate was opened the disk held the journal of the entries before, and that one byte makes it the journal
  -- of those and the new one.
  pub record IsPutBehind (old : OpenJournal D) (entry : Entry) (before : D) : Type 0 where
    pub closed : WhereHolds disk old (λ decls entries.
        IfSome (disk.content before) (λ file. IsGated file decls entries))
    pub opened : WhereHolds disk old (λ decls entries.
        IfSome (option_map (written (old.len - 1) (OPEN ∷ [])) (disk.content before))
        (λ file. IsGated file decls (entries ++ entry ∷ [])))

  -- One of the four failed and was the last. How many were done before it says which entries are there, and what was
  -- put.
  pub record HasFailed (old new : OpenJournal D) (entry : Entry) : Type 0 where
    pub rose : Rose (disk.faults old.disk) (disk.faults new.disk)
    pub spent : new ≡ record old { disk = new.disk; spent = true }
    pub course : FailsAmong disk 4 old.disk new.disk (λ done. WhereHolds disk old
        (λ decls entries. IfSome (disk.content new.disk) (IsLeftBehind done decls entries entry)))
    pub puts : PutsShort course.done old.len entry old.disk new.disk
    pub behind : (third : course.done + 1 ≡ opens_gate) → IsPutBehind old entry (puts.opening third).before
