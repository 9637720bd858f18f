-- How a scene begins, and how its journal is opened again.
use Rattle.std.specs.Prelude.{◌≡◌, ◌⊎◌, ℕ, true, false, List, [], Some, Result, MatchResult}
use Rattle.orc_decls.specs.declared.declarations.Decls.{Decls}
use Rattle.orc_disk.specs.Meanings.{DiskMeaning}
use Rattle.orc_disk.specs.Stops.{Stopping, inside}
use Rattle.orc_journal.specs.Views.{unstopped}
use Rattle.orc_hub.specs.declared.hub.Hub.{Hub}
use Rattle.orc_journal.specs.Opened.{OpenJournal}
use Rattle.orc_journal.specs.Opening.{HasOpened}
use Rattle.orc_journal.specs.declared.entry.Entry.{Entry}
use Rattle.orc_scene.specs.declared.stop.WorldStop.{WorldStop}
use Rattle.orc_scene.specs.declared.stop.WorldStop.TheVariants as stop
use Rattle.orc_links.specs.declared.links.Links.{Links}
use Rattle.orc_rules.specs.Worlds.{World as Seen}
use Rattle.orc_scene.specs.Openings.{IsStarted, IsUnstarted}
use Rattle.orc_scene.specs.Stands.{IsSeenAs, IsNotReconciling}
use Rattle.orc_scene.specs.declared.scene.Place.TheVariants.{Up}
use Rattle.orc_scene.specs.declared.scene.Scene.{Scene}
use Rattle.orc_rules.specs.Events.{Comes}
use Rattle.orc_rules.specs.declared.event.Event.TheVariants as event
use Rattle.orc_scene.specs.Courses.{EndsUnopened, InEachView}

module _ {D : Type 0} (disk : DiskMeaning D) (decls : Decls) (from : D) (limit : ℕ) where
  -- A hub started over a journal that stood on the disk: it isn't begun anew.
  pub record IsStartedAgain (hub : Hub (Stopping D)) : Type 0 where
    pub started : IsStarted disk decls from limit hub
    pub stood : started.journal.fresh ≡ false

  -- The journal was refused as it was opened, or it makes no hub, or the disk gave no byte, on which a journal stood.
  abbrev pub IsUnstartedAgain : WorldStop → D → Type 0
  IsUnstartedAgain why to = IsUnstarted disk decls from limit why to
      ⊎ ((journal : OpenJournal (Stopping D)) × (entries : List Entry) × (to ≡ journal.disk.inner)
      × (why ≡ stop.Damaged 0) × (journal.fresh ≡ true)
      × HasOpened (inside disk) decls.text limit (unstopped from) journal entries)

  -- a hub was started over the journal, with these links, and nothing came yet
  pub record IsPlacedOver (links : Links) (scene : Scene D) : Type 0 where
    pub hub : Hub (Stopping D)
    pub place : scene.place ≡ Up hub
    pub started : IsStarted disk decls from limit hub
    pub limit_is : scene.limit ≡ limit
    pub links_are : scene.links ≡ links
    pub taken : scene.snapshots.taken ≡ []
    pub events : scene.events.items.items ≡ []

-- The journal is opened again, and a hub is up, which the rules see; or the run ends.
abbrev pub OpensAgain : {D : Type 0} → DiskMeaning D → Scene D → Result (Unit {0}) WorldStop → Scene D → Type 0
OpensAgain {D} disk old result new = InEachView disk old (λ here seen. here.granted ≡ false → MatchResult result
    (λ done. (next : Seen D)
    × Comes here (record { before = seen; meant = event.Recover; seen = Some event.Recover; behind = next })
    × IsSeenAs here next new × IsNotReconciling new.place × (new.limit ≡ old.limit) × (new.links ≡ old.links)
    × (new.events ≡ old.events))
    (λ why. EndsUnopened here seen old new why))
