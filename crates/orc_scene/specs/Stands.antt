-- The scene of a run as the world that the rules of a network see.
use Rattle.std.specs.Prelude.{[], ◌∷◌, ◌≡◌, ◌≢◌, ◌<◌, ◌^◌, ℕ, Bool, true, false, Option, Some, None, List, All, MatchOption, is_some, length, map, IsTrue}
use Rattle.orc_decls.specs.Declarations.{AreDecls}
use Rattle.orc_decls.specs.declared.declarations.Decls.{Decls}
use Rattle.orc_disk.specs.Meanings.{DiskMeaning}
use Rattle.orc_hub_laws.specs.Under.{IsWorldOf}
use Rattle.orc_links.specs.Networks.{AreLinksOf, link_states, node_states}
use Rattle.orc_rules.specs.Acceptance.{declared_kind}
use Rattle.orc_journal.specs.Laws.{IsUnnamed}
use Rattle.orc_journal.specs.declared.entry.Entry.{Entry}
use Rattle.orc_rules.specs.Hubs.{Hub as HubState}
use Rattle.orc_rules.specs.Journals.{HoldsEntries, IsReadBack, history_read}
use Rattle.orc_rules.specs.Laws.{setting}
use Rattle.orc_rules.specs.Worlds.{Setting, World as Seen}
use Rattle.orc_rules.specs.declared.transaction.Transaction.{Transaction}
use Rattle.orc_runs.specs.Laws.{AreCarried}
use Rattle.orc_script.specs.Steps.{is_step}
use Rattle.orc_script.specs.declared.step.ScriptStep.{ScriptStep}
use Rattle.orc_state.specs.States.{IsSnapshotAt}
use Rattle.orc_scene.specs.Snapshots.{fronts_of}
use Rattle.orc_scene.specs.declared.scene.Place.{Place}
use Rattle.orc_scene.specs.declared.scene.Place.TheVariants.{Up, Down, Ended, Moved}
use Rattle.orc_scene.specs.declared.scene.Scene.{Scene}

-- Where the run of a scene takes place: over this disk, with the devices as they are declared. That a journal which is
-- opened again reads what was written is granted, or not.
abbrev pub run_setting : {D : Type 0} → DiskMeaning D → Decls → ℕ → Bool → Setting D
run_setting disk decls limit granted = setting disk decls (declared_kind decls) limit granted

-- numbers that differ
abbrev pub AreOnce : List ℕ → Type 0
AreOnce [] = Unit {0}
AreOnce (t ∷ later) = All (λ other. t ≢ other) later × AreOnce later

-- an entry has the number
abbrev pub HasEntry : List Entry → ℕ → Type 0
HasEntry entries t = IsUnnamed entries t → ⊥

-- the numbers of transactions
abbrev pub numbers_of : List Transaction → List ℕ
numbers_of active = map (λ it. it.t) active

-- No two transactions under way have one number, and each has an entry in the journal.
abbrev pub AreNumbered : Option HubState → List Entry → Type 0
AreNumbered None entries = Unit {0}
AreNumbered (Some hub) entries =
    AreOnce (numbers_of hub.active) × All (HasEntry entries) (numbers_of hub.active)

module _ {D : Type 0} (here : Setting D) where
  -- What every event keeps is so of what the rules see, where a journal reads what was written: the disk reports what
  -- it holds, or that is taken for granted.
  abbrev pub IsCarried : Seen D → Type 0
  IsCarried seen = IsReadBack here.disk here.decls.text here.limit here.granted seen.journal.disk → AreCarried here seen

  -- The hub that is up is the one that the rules see; where none is, they see none, no snapshot, and the disk of the
  -- journal.
  abbrev pub IsPlaceSeenAs : Seen D → Place D → Type 0
  IsPlaceSeenAs seen (Up hub) = IsWorldOf here seen hub
  IsPlaceSeenAs seen (Down disk decls) = (seen.hub ≡ None) × (decls ≡ here.decls) × (seen.journal.disk ≡ disk)
      × HoldsEntries here.disk here.decls.text here.limit seen.journal
      × ((caller : List ℕ) → seen.snapshots caller ≡ None)
  IsPlaceSeenAs seen (Ended disk) = ⊥
  IsPlaceSeenAs seen Moved = ⊥

  -- The rules see this of the scene: its hub and its journal, the fronts of its callers' snapshots, its devices and the
  -- links to them, all of whose replies were heard; and what every event keeps is so, where a journal reads what was
  -- written.
  pub record IsSeenAs (seen : Seen D) (scene : Scene D) : Type 0 where
    pub decls : AreDecls here.decls
    pub short : length here.decls.text < 2 ^ 32
    pub limit : (scene.limit ≡ here.limit) × (here.limit < 2 ^ 32)
    pub place : IsPlaceSeenAs seen scene.place
    pub snapshots : (caller : List ℕ) → seen.snapshots caller ≡ fronts_of scene.snapshots.taken caller
    pub fronts : All (λ one. IsSnapshotAt here.decls (history_read seen.journal) one.snapshot) scene.snapshots.taken
    pub nodes : seen.nodes ≡ node_states scene.links.links
    pub links : seen.links ≡ link_states scene.links.links
    pub accepts : AreLinksOf here.decls scene.links.links
    pub logs : length scene.links.logs ≡ length here.decls.names
    pub numbered : AreNumbered seen.hub seen.journal.synced
    pub kept : IsCarried seen

-- no reconciliation is begun and unfinished
abbrev pub IsNotReconciling : {D : Type 0} → Place D → Type 0
IsNotReconciling (Up hub) = hub.mends ≡ None
IsNotReconciling other = Unit {0}

-- the rules see the scene as a world
abbrev pub IsSoundScene : {D : Type 0} → DiskMeaning D → Scene D → Type 0
IsSoundScene {D} disk scene =
    (decls : Decls) × (granted : Bool) × (seen : Seen D)
    × IsSeenAs (run_setting disk decls scene.limit granted) seen scene

-- the declarations, where the run hasn't ended
abbrev pub decls_in : {D : Type 0} → Place D → Option Decls
decls_in (Up hub) = Some hub.decls
decls_in (Down disk decls) = Some decls
decls_in (Ended disk) = None
decls_in Moved = None

-- the declarations allow the line
abbrev pub Allows : {D : Type 0} → Scene D → ScriptStep → Type 0
Allows scene step = MatchOption (decls_in scene.place) ⊥ (λ decls. IsTrue (is_step decls step))

-- the disk of the journal is there
abbrev pub is_somewhere : {D : Type 0} → Place D → Bool
is_somewhere Moved = false
is_somewhere (Up hub) = true
is_somewhere (Down disk decls) = true
is_somewhere (Ended disk) = true

-- the disk of the journal is this one
abbrev pub HasDisk : {D : Type 0} → Place D → D → Type 0
HasDisk (Up hub) disk = hub.log.journal.disk.inner ≡ disk
HasDisk (Down other decls) disk = other ≡ disk
HasDisk (Ended other) disk = other ≡ disk
HasDisk Moved disk = ⊥

-- the rules see the scene, and no reconciliation is begun and unfinished: so it is between two lines
abbrev pub IsBetweenLines : {D : Type 0} → DiskMeaning D → Scene D → Type 0
IsBetweenLines disk scene = IsSoundScene disk scene × IsNotReconciling scene.place

-- a front is there, where a hub is up
abbrev pub front_under : {D : Type 0} → Place D → Option ℕ → Bool
front_under (Up hub) front = is_some front
front_under other front = true

-- a caller has a snapshot, where a hub is up
abbrev pub HasFront : {D : Type 0} → Scene D → List ℕ → Type 0
HasFront scene caller = front_under scene.place (fronts_of scene.snapshots.taken caller) ≡ true
