-- A run for which all is right, and in which nothing fails, is done, or memory runs out.
use Rattle.std.specs.Prelude.{◌≡◌, ◌≢◌, ℕ, List, Result}
use Rattle.std.specs.declared.option.Option.TheVariants.{Some}
use Rattle.std.specs.declared.result.Result.TheVariants.{Ok, Err}
use Rattle.orc_bundle.specs.Bundles.{scripted_of}
use Rattle.orc_bundle.specs.declared.scripted.ScriptedBundle.{ScriptedBundle}
use Rattle.orc_call.specs.declared.call.Call.{Call}
use Rattle.orc_datastore.specs.Legal.{IsLegal}
use Rattle.orc_decls.specs.declared.declarations.Decls.{Decls}
use Rattle.orc_disk.specs.Meanings.{DiskMeaning}
use Rattle.orc_io.specs.Counts.{Rose}
use Rattle.orc_words.specs.declared.words.Command.{Command}
use Rattle.orc_run.specs.Decided.{bundle_bytes}
use Rattle.orc_run.specs.Ends.{EndsBy, Outside}
use Rattle.orc_run.specs.Opening.{HasHistory}
use Rattle.orc_run.specs.declared.stop.Done.{Done}
use Rattle.orc_run.specs.declared.stop.Stop.{Stop}
use Rattle.orc_run.specs.declared.stop.Stop.TheVariants as ending

-- how many faults of the source and of the sink were counted
pub record FaultCounts : Type 0 where
  pub reads : ℕ
  pub writes : ℕ

-- The source had these bytes left, and as many of them as a bundle may have, and one more, are this bundle; or those are
-- that the command makes.
pub record HasBundle {D : Type 0} (command : Command) (before : Outside D) (bundle : ScriptedBundle) : Type 0 where
  pub all : List ℕ
  pub left : before.left ≡ Some all
  pub is : scripted_of (bundle_bytes command all) ≡ Ok bundle

-- The disk holds nothing, or a journal of these declarations, and the history of that is legal.
pub record HasLegalHistory {D : Type 0} (meaning : DiskMeaning D) (decls : Decls) (disk : D) : Type 0 where
  pub file : List ℕ
  pub holds : meaning.content disk ≡ Some file
  pub history : List Call
  pub has : HasHistory decls file history
  pub legal : IsLegal decls history

-- A read, a write or the disk failed only where a fault was counted, as the clauses of `orchestrate` say.
pub record CountsFaults {D : Type 0} (meaning : DiskMeaning D) (old new : FaultCounts) (before after : D)
    (status : Result Done Stop) : Type 0 where
  pub read : status ≡ Err ending.ReadFault → Rose old.reads new.reads
  pub write : status ≡ Err ending.WriteFault → Rose old.writes new.writes
  pub journal : status ≡ Err ending.JournalFault → Rose (meaning.faults before) (meaning.faults after)

-- no count of faults rose, and no journal was full
pub record MeetsNoFault {D : Type 0} (meaning : DiskMeaning D) (old new : FaultCounts) (before after : D)
    (status : Result Done Stop) : Type 0 where
  pub reads : Rose old.reads new.reads → ⊥
  pub writes : Rose old.writes new.writes → ⊥
  pub disk : Rose (meaning.faults before) (meaning.faults after) → ⊥
  pub room : (len : ℕ) → status ≢ Err (ending.Full len)

-- all was done, or memory ran out
abbrev pub IsDoneOrMemory : Result Done Stop → Type 0
IsDoneOrMemory (Ok done) = Unit {0}
IsDoneOrMemory (Err end) = end ≡ ending.Memory

-- Where the words name a command, the source gives a bundle, and the disk is empty or holds a journal of its declarations
-- whose history is legal, and where then nothing fails and the journal has room, all is done, or memory runs out. So it
-- is whatever the script says: also where it stops the controller anywhere and lets it recover.
abbrev pub AreDoneWhereNothingFails : {D : Type 0} → DiskMeaning D → Type 0
AreDoneWhereNothingFails {D} meaning =
    (command : Command) (bundle : ScriptedBundle) (old new : FaultCounts) (before after : Outside D)
    (status : Result Done Stop)
    → EndsBy meaning (Some command) before after status
    → CountsFaults meaning old new before.disk after.disk status → HasBundle command before bundle
    → HasLegalHistory meaning bundle.decls before.disk
    → MeetsNoFault meaning old new before.disk after.disk status → IsDoneOrMemory status
