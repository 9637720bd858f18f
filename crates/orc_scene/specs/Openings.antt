-- How a journal is opened, and a hub started over it.
use Rattle.std.specs.Prelude.{◌≡◌, ◌⊎◌, ℕ, List}
use Rattle.orc_decls.specs.declared.declarations.Decls.{Decls}
use Rattle.orc_disk.specs.Meanings.{DiskMeaning}
use Rattle.orc_disk.specs.Stops.{Stopping, inside}
use Rattle.orc_journal.specs.Views.{unstopped}
use Rattle.orc_hub.specs.Keeps.{IsHub}
use Rattle.orc_hub.specs.Starts.{HasStarted, IsStartFault}
use Rattle.orc_hub.specs.declared.hub.Hub.{Hub}
use Rattle.orc_hub.specs.declared.starting.StartFault.{StartFault}
use Rattle.orc_journal.specs.Opened.{OpenJournal}
use Rattle.orc_journal.specs.Opening.{HasOpened, HasRefused}
use Rattle.orc_journal.specs.declared.entry.Entry.{Entry}
use Rattle.orc_journal.specs.declared.fault.OpenFault.{OpenFault}
use Rattle.orc_scene.specs.RunEnds.{stop_of_opening, stop_of_start}
use Rattle.orc_scene.specs.declared.stop.WorldStop.{WorldStop}

module _ {D : Type 0} (disk : DiskMeaning D) (decls : Decls) (from : D) (limit : ℕ) where
  -- the journal was opened, or begun, and a hub started over it
  pub record IsStarted (hub : Hub (Stopping D)) : Type 0 where
    pub journal : OpenJournal (Stopping D)
    pub entries : List Entry
    pub opened : HasOpened (inside disk) decls.text limit (unstopped from) journal entries
    pub sound : IsHub (inside disk) hub entries
    pub started : HasStarted decls journal hub

  -- The journal was refused as it was opened, or it makes no hub.
  pub record IsUnstarted (why : WorldStop) (to : D) : Type 0 where
    pub cause : ((fault : OpenFault) × (last : Stopping D) × (to ≡ last.inner) × (why ≡ stop_of_opening fault)
        × HasRefused (inside disk) decls.text limit (unstopped from) last fault)
        ⊎ ((fault : StartFault) × (journal : OpenJournal (Stopping D)) × (entries : List Entry)
        × (to ≡ journal.disk.inner) × (why ≡ stop_of_start fault)
        × HasOpened (inside disk) decls.text limit (unstopped from) journal entries
        × IsStartFault decls entries fault)
