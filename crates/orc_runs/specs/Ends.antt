-- Why a run ends before its script does.
use Rattle.std.specs.Prelude.{[], ◌≡◌, ◌⊎◌, ℕ, ◌+◌, ◌<◌, Bool, true, false, Some, None, List, ◌∷◌, ◌++◌, IsTrue, length, slice_get, take}
use Rattle.orc_journal.specs.declared.outcome.Appended.TheVariants as appended
use Rattle.orc_datastore.specs.Legal.{IsLegal}
use Rattle.orc_decls.specs.declared.declarations.Decls.{Decls}
use Rattle.orc_io.specs.Counts.{Rose}
use Rattle.orc_journal.specs.Committed.{history_of}
use Rattle.orc_journal.specs.Faults.{OfHeard}
use Rattle.orc_journal.specs.Hearing.{IsSynced}
use Rattle.orc_journal.specs.Journals.{IsDamaged, IsForeign, IsJournal, IsNotJournal, header, journal_bytes}
use Rattle.orc_journal.specs.Orders.{is_ordered}
use Rattle.orc_journal.specs.declared.entry.Entry.{Entry}
use Rattle.orc_journal.specs.declared.entry.Entry.TheVariants.{Decide}
use Rattle.orc_rules.specs.Events.{DoesUnderHub, Turn}
use Rattle.orc_rules.specs.Hubs.{Hub}
use Rattle.orc_rules.specs.Journals.{AppendsRow}
use Rattle.orc_rules.specs.Worlds.{Setting, World}
use Rattle.orc_rules.specs.declared.event.Event.TheVariants as event

-- Why a run ends.
pub data EndOfRun : Type 0 where
  Memory : EndOfRun  -- memory ran out
  WriteFault : EndOfRun  -- what is printed couldn't be written
  JournalFault : EndOfRun  -- the disk of the journal failed
  Full : ℕ → EndOfRun  -- the journal, which has so many bytes, has no room
  Foreign : ℕ → EndOfRun  -- the journal isn't opened: it has other declarations, which differ first at this offset
  NotJournal : EndOfRun  -- the journal isn't opened: its bytes are no journal
  Damaged : ℕ → EndOfRun  -- the journal isn't opened: at this offset stands no entry that may follow

-- the journal isn't opened, for what its bytes are
abbrev pub is_refused_journal : EndOfRun → Bool
is_refused_journal (EndOfRun.Foreign at) = true
is_refused_journal EndOfRun.NotJournal = true
is_refused_journal (EndOfRun.Damaged at) = true
is_refused_journal other = false

-- the entry at this place is a Decide that makes the history illegal, which is legal without it
pub record IsIllegalAt (decls : Decls) (entries : List Entry) (place : ℕ) : Type 0 where
  pub t : ℕ
  pub decide : slice_get entries place ≡ Some (Decide t)
  pub before : IsLegal decls (history_of (take place entries))
  pub illegal : IsLegal decls (history_of (take (place + 1) entries)) → ⊥

-- a Decide at this offset makes the history of the file illegal
pub record IsIllegal (decls : Decls) (file : List ℕ) (at : ℕ) : Type 0 where
  pub entries : List Entry
  pub journal : IsJournal file decls.text entries
  pub ordered : IsTrue (is_ordered entries)
  pub place : ℕ
  pub illegal : IsIllegalAt decls entries place
  pub offset : at ≡ length (journal_bytes decls.text (take place entries)) + 1

module _ {D : Type 0} (here : Setting D) where
  -- A recovery came to nothing, and this is so of the file that its reads gave, piece by piece to the end: from the sync
  -- on that follows a look at the first byte, or at once where that look gave none.
  abbrev pub CameToNothing : Turn D → (List ℕ → Type 0) → Type 0
  CameToNothing turn IsSo = (turn.meant ≡ event.Recover) × (turn.seen ≡ None)
      × ((from : D) × IsSynced here.disk turn.before.journal.disk from turn.behind.journal.disk
      × OfHeard here.disk from turn.behind.journal.disk IsSo)

  -- of the entries that the turn was to append one has no room, after the journal of so many bytes
  abbrev pub IsFullAt : Turn D → ℕ → Type 0
  IsFullAt turn len = (hub : Hub) × (row : List Entry) × (next : World D) × (turn.before.hub ≡ Some hub)
      × DoesUnderHub here turn.before hub turn.meant row next
      × AppendsRow here.disk here.decls.text here.limit turn.before.journal row (appended.Full len) turn.behind.journal

  -- At this offset of the file stands no entry that may follow: it is damaged there, or a Decide makes the history illegal;
  -- or nothing is left of the journal that stood there.
  abbrev pub IsUnfit : List ℕ → ℕ → Type 0
  IsUnfit file at = IsDamaged file here.decls.text at ⊎ (IsIllegal here.decls file at ⊎ ((file ≡ []) × (at ≡ 0)))

  -- The turn in which a run ended for what became of the journal. The disk failed in it, and no hub is up; or an entry had
  -- no room, or the header of a journal to be begun; or a recovery came to nothing, for what the bytes are that it read.
  abbrev pub IsEndedBy : Turn D → EndOfRun → Type 0
  IsEndedBy turn EndOfRun.JournalFault =
      (turn.behind.hub ≡ None)
      × Rose (here.disk.faults turn.before.journal.disk) (here.disk.faults turn.behind.journal.disk)
  IsEndedBy turn (EndOfRun.Full len) = ((turn.seen ≡ None) × IsFullAt turn len)
      ⊎ ((len ≡ 0) × (here.limit < length (header here.decls.text) + 1) × CameToNothing turn (λ file. file ≡ []))
  IsEndedBy turn (EndOfRun.Foreign at) = CameToNothing turn (λ file. IsForeign file here.decls.text at)
  IsEndedBy turn EndOfRun.NotJournal = CameToNothing turn (λ file. IsNotJournal file)
  IsEndedBy turn (EndOfRun.Damaged at) = CameToNothing turn (λ file. IsUnfit file at)
  IsEndedBy turn other = ⊥

  -- Why a run ended with these turns of a line: memory ran out, or what is printed couldn't be written, whatever the
  -- turns are; or for what became of the journal in the last of them.
  abbrev pub EndedBecause : List (Turn D) → EndOfRun → Type 0
  EndedBecause turns EndOfRun.Memory = Unit {0}
  EndedBecause turns EndOfRun.WriteFault = Unit {0}
  EndedBecause turns why =
      (earlier : List (Turn D)) × (turn : Turn D) × (turns ≡ earlier ++ turn ∷ []) × IsEndedBy turn why
