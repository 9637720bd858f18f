-- Where an append is stopped, and what appends add up to.
use Rattle.std.specs.Prelude.{◌≡◌, ◌⊎◌, ℕ, ◌+◌, ◌-◌, ◌*◌, ◌<◌, ◌≤◌, min, true, List, [], ◌∷◌, ◌++◌, length}
use Rattle.orc_disk.specs.Meanings.{DiskMeaning}
use Rattle.orc_disk.specs.Moments.{LeavesOnly}
use Rattle.orc_journal.specs.declared.entry.Entry.{Entry}
use Rattle.orc_journal.specs.Views.{JournalView}
use Rattle.orc_journal.specs.Outcomes.{Appends, ComesNearer, Did, LeavesOldOrNew, FailsAppend, StopsAppend, ops_to_append}
use Rattle.orc_journal.specs.Rows.{HasSomeOf, AppendsEach}
use Rattle.orc_journal.specs.declared.outcome.Appended.{Appended}
use Rattle.orc_journal.specs.declared.outcome.Appended.TheVariants.{Done, Stopped}

-- An append is stopped only by an operation that is armed among its four. Where one is armed among them it is stopped,
-- unless the disk failed an operation before that one, or the append did no operation and changed nothing.
pub record StopsWhereArmed {D : Type 0} (disk : DiskMeaning D) : Type 0 where
  pub only : (decls : List ℕ) (old : JournalView D) (entry : Entry) (outcome : Appended) (new : JournalView D)
      → Appends disk decls old entry outcome new → outcome ≡ Stopped → (1 ≤ old.armed) × (old.armed ≤ ops_to_append)
  pub always : (decls : List ℕ) (old : JournalView D) (entry : Entry) (outcome : Appended) (new : JournalView D)
      → Appends disk decls old entry outcome new → 1 ≤ old.armed → old.armed ≤ ops_to_append
      → (outcome ≡ Stopped)
      ⊎ ((fails : FailsAppend disk decls old entry new) × (fails.done + 1 < old.armed))
      ⊎ (new ≡ old)

-- Appends that are done in turn add up: what holds of a row of them holds of it with one more. Where the next one is
-- stopped, the armed operation is counted from the start of the row, and so are the operations of the disk; where it
-- fails, no armed stop came in all of them. Whatever it came to, images have the entries before the row and a prefix
-- of those that it was to append.
pub record AddUp {D : Type 0} (disk : DiskMeaning D) : Type 0 where
  pub one : (decls : List ℕ) (a b : JournalView D) (entry : Entry)
      → Appends disk decls a entry Done b → AppendsEach disk decls a (entry ∷ []) b
  pub more : (decls : List ℕ) (a b c : JournalView D) (added : List Entry) (entry : Entry)
      → AppendsEach disk decls a added b → Appends disk decls b entry Done c
      → AppendsEach disk decls a (added ++ entry ∷ []) c
  pub stopped : (decls : List ℕ) (a b c : JournalView D) (added : List Entry) (entry : Entry)
      → AppendsEach disk decls a added b → (stops : StopsAppend disk decls b entry c)
      → (a.armed ≡ ops_to_append * length added + b.armed) × (a.bytes ≡ b.bytes)
      × Did disk (a.armed - 1 + min a.bytes 1) stops.failed a.disk c.disk
  pub failed : (decls : List ℕ) (a b c : JournalView D) (added : List Entry) (entry : Entry)
      → AppendsEach disk decls a added b → (fails : FailsAppend disk decls b entry c)
      → ComesNearer (ops_to_append * length added + (fails.done + 1)) a c
      × Did disk (ops_to_append * length added + (fails.done + 1)) true a.disk c.disk
  pub images : (decls : List ℕ) (a b c : JournalView D) (added : List Entry) (entry : Entry)
      → AppendsEach disk decls a added b → LeavesOldOrNew disk decls b entry c
      → LeavesOnly disk a.disk c.disk (HasSomeOf decls a.entries (added ++ entry ∷ []))
