-- How the scene of a bundle begins.
use Rattle.std.specs.Prelude.{[], ◌≡◌, ◌⊎◌, ℕ, Bool, true}
use Rattle.orc_decls.specs.declared.declarations.Decls.{Decls}
use Rattle.orc_disk.specs.Meanings.{DiskMeaning}
use Rattle.orc_disk.specs.Stops.{Stopping}
use Rattle.orc_hub.specs.declared.hub.Hub.{Hub}
use Rattle.orc_links.specs.Logs.{noted_on}
use Rattle.orc_rules.specs.Worlds.{World as Seen}
use Rattle.orc_runs.specs.Starts.{StartsRun}
use Rattle.orc_scene.specs.Openings.{IsStarted, IsUnstarted}
use Rattle.orc_scene.specs.Stands.{IsSeenAs, IsNotReconciling, run_setting}
use Rattle.orc_scene.specs.declared.stop.WorldStop.{WorldStop}
use Rattle.orc_scene.specs.declared.stop.WorldStop.TheVariants as stop
use Rattle.orc_scene.specs.declared.scene.Place.TheVariants.{Up}
use Rattle.orc_scene.specs.declared.scene.Scene.{Scene}

module _ {D : Type 0} (disk : DiskMeaning D) (decls : Decls) (from : D) (limit : ℕ) where
  -- A hub was started over the journal, and nothing came yet. The rules see the beginning of a run, whose journal is
  -- what was opened: whether or not it is granted that reads give what was written.
  pub record HasBegun (scene : Scene D) : Type 0 where
    pub hub : Hub (Stopping D)
    pub place : scene.place ≡ Up hub
    pub started : IsStarted disk decls from limit hub
    pub seen : Seen D
    pub entries_are : seen.journal.synced ≡ started.entries
    pub starts : StartsRun (run_setting disk decls limit true) seen
    pub file_is : starts.file ≡ started.opened.file
    pub is : (granted : Bool) → IsSeenAs (run_setting disk decls limit granted) seen scene
    pub unmended : IsNotReconciling scene.place
    pub limit_is : scene.limit ≡ limit
    pub events : scene.events.items.items ≡ []
    pub noted : (device : ℕ) → noted_on scene.links.logs device ≡ []

  -- The scene didn't begin: its journal was refused, or memory ran out before that.
  abbrev pub HasNotBegun : WorldStop → D → Type 0
  HasNotBegun why to = IsUnstarted disk decls from limit why to ⊎ ((why ≡ stop.Memory) × (to ≡ from))
