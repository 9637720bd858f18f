-- What is asked of what reads give, in one run.
use Rattle.std.specs.Prelude.{◌≡◌, ◌⊎◌, true, Some, List, Contains, is_some}
use Rattle.orc_disk.specs.Meanings.{DiskMeaning}
use Rattle.orc_rules.specs.Events.{Turn}
use Rattle.orc_rules.specs.Journals.{entries_read}
use Rattle.orc_rules.specs.Worlds.{World}
use Rattle.orc_rules.specs.declared.event.Event.TheVariants as event

-- Each recovery among these turns goes on from what had been written: the entries that its reads gave are those of the
-- journal before it.
abbrev pub RecoverWhatWasWritten : {D : Type 0} → List (Turn D) → Type 0
RecoverWhatWasWritten {D} turns = (turn : Turn D) → Contains turns turn → turn.seen ≡ Some event.Recover
    → turn.behind.journal.synced ≡ entries_read turn.before.journal

-- In a run from this first world on, of which these are the turns, reads gave what was written: the disk reports what it
-- holds, or each recovery among the turns goes on from what had been written.
abbrev pub ReadsGiveWhatWasWritten : {D : Type 0} → DiskMeaning D → World D → List (Turn D) → Type 0
ReadsGiveWhatWasWritten disk first turns =
    (is_some (disk.content first.journal.disk) ≡ true) ⊎ RecoverWhatWasWritten turns
