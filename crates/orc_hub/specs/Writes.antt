-- What appending an entry makes of the hub.
use Rattle.std.specs.Prelude.{◌≡◌, ℕ, true, List}
use Rattle.orc_disk.specs.Meanings.{DiskMeaning}
use Rattle.orc_journal.specs.Appends.{HasAppended, HasFailed, IsTooLong, LeavesBeforeOrAfter}
use Rattle.orc_journal.specs.declared.entry.Entry.{Entry}
use Rattle.orc_rules.specs.declared.asked.Asked.{Asked}
use Rattle.orc_hub_parts.specs.Logs.{noted}
use Rattle.orc_hub.specs.declared.hub.Hub.{Hub}

module _ {D : Type 0} where
  -- The entry was appended, and what it says is noted. A crash at any moment leaves the entries before, or those and
  -- this one.
  pub record HasWritten (disk : DiskMeaning D) (old : Hub D) (entry : Entry) (new : Hub D) : Type 0 where
    pub appended : HasAppended disk old.log.journal new.log.journal entry
    pub unsettled : new.log.unsettled ≡ noted old.log.unsettled entry
    pub leaves : LeavesBeforeOrAfter disk old.log.journal new.log.journal entry

  -- The disk failed as the entry was appended, which has room. A crash at any moment leaves the entries before, or
  -- those and this one. The hub is down, and keeps its declarations and these answers.
  pub record HasBroken (disk : DiskMeaning D) (old : Hub D) (entry : Entry) (said : List Asked) (new : Hub D)
      : Type 0 where
    pub failed : HasFailed disk old.log.journal new.log.journal entry
    pub fits : IsTooLong old.log.journal entry → ⊥
    pub leaves : LeavesBeforeOrAfter disk old.log.journal new.log.journal entry
    pub down : new.down ≡ true
    pub decls : new.decls ≡ old.decls
    pub answers : new.askers ≡ said

  -- The journal of this length has no room for the entry. The hub is down, and keeps its journal, its declarations and
  -- its answers.
  pub record HasNoRoom (old : Hub D) (entry : Entry) (len : ℕ) (new : Hub D) : Type 0 where
    pub length : len ≡ old.log.journal.len
    pub too_long : IsTooLong old.log.journal entry
    pub journal : new.log.journal ≡ old.log.journal
    pub down : new.down ≡ true
    pub decls : new.decls ≡ old.decls
    pub answers : new.askers ≡ old.askers
