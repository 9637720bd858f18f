-- How a script is run line by line, and what the sink takes.
use Rattle.std.specs.Prelude.{◌≡◌, ◌⊎◌, ℕ, true, false, List, [], ◌++◌, length, map, Option, Result, MatchOption, is_ok, if◌then◌else◌}
use Rattle.std.specs.declared.result.Result.TheVariants.{Ok, Err}
use Rattle.std.specs.List.{flat_map}
use Rattle.std.specs.Io.KnownBytes.{Appends}
use Rattle.orc_bundle.specs.declared.scripted.ScriptedBundle.{ScriptedBundle}
use Rattle.orc_decls.specs.declared.declarations.Decls.{Decls}
use Rattle.orc_disk.specs.Meanings.{DiskMeaning}
use Rattle.orc_io.specs.Pieces.{TakesFront}
use Rattle.orc_links.specs.Logs.{noted_on}
use Rattle.orc_print.specs.Printed.{recovered_line}
use Rattle.orc_rules.specs.Worlds.{Setting, World as Seen}
use Rattle.orc_runs.specs.Runs.{AreDone, LineDone, PrintLogs, logged}
use Rattle.orc_runs.specs.Starts.{StartsRun}
use Rattle.orc_script.specs.declared.step.ScriptStep.{ScriptStep}
use Rattle.orc_scene.specs.Effects.{hub_in}
use Rattle.orc_world.specs.Lines.{IsLineCall}
use Rattle.orc_scene.specs.Stands.{IsSeenAs, IsNotReconciling, run_setting}
use Rattle.orc_scene.specs.declared.stop.WorldStop.{WorldStop}
use Rattle.orc_scene.specs.declared.stop.WorldStop.TheVariants as stop
use Rattle.orc_scene.specs.declared.scene.Place.{Place}
use Rattle.orc_scene.specs.declared.scene.Scene.{Scene}
use Rattle.orc_run.specs.Ends.{EndsOver, LinesRun, Outside, TookUpToLast, Wrote}
use Rattle.orc_run.specs.declared.opening.TheConstants.{LARGEST_JOURNAL}
use Rattle.orc_run.specs.declared.stop.Done.{Done}
use Rattle.orc_run.specs.declared.stop.Stop.{Stop}
use Rattle.orc_run.specs.declared.stop.Stop.TheVariants as ending

-- how the program ends where a world ended a run so
abbrev pub stop_of_world : WorldStop → Stop
stop_of_world stop.JournalFault = ending.JournalFault
stop_of_world (stop.Full len) = ending.Full len
stop_of_world stop.Memory = ending.Memory
stop_of_world (stop.Foreign at) = ending.Foreign at
stop_of_world stop.NotJournal = ending.NotJournal
stop_of_world (stop.Damaged at) = ending.Damaged at

-- what is printed as a run begins with this hub: how many calls were recovered, where the disk was not empty
abbrev pub Greets : {D : Type 0} → Place D → List ℕ → Type 0
Greets place text = MatchOption (hub_in place) (text ≡ []) (λ hub.
    text ≡ (if hub.log.journal.fresh then [] else recovered_line (length hub.state.history)))

module _ {D : Type 0} (disk : DiskMeaning D) where
  -- A line was done, or the run ended in it, and what it printed was written; or that write failed.
  pub data WritesLine (held held' : Option (List ℕ)) (line : ScriptStep) (old : Scene D) : Result (Unit {0}) Stop
      → Scene D → Type 0 where
    goes_on : (text : List ℕ) (new : Scene D)
        → IsLineCall {A = Unit {0}} disk line old (Ok tt) new [] text → Appends held held' text
        → WritesLine held held' line old (Ok tt) new
    ends_in : (text : List ℕ) (new : Scene D) (why : WorldStop)
        → IsLineCall {A = Unit {0}} disk line old (Err why) new [] text → Appends held held' text
        → WritesLine held held' line old (Err (stop_of_world why)) new
    unwritten : (text : List ℕ) (new : Scene D) (result : Result (Unit {0}) WorldStop)
        → IsLineCall disk line old result new [] text → TakesFront held held' text
        → WritesLine held held' line old (Err ending.WriteFault) new

  -- the rules see a world as it begins, and no operation is noted yet
  pub record IsFirst (decls : Decls) (first : Seen D) (world : Scene D) : Type 0 where
    pub starts : StartsRun (run_setting disk decls LARGEST_JOURNAL true) first
    pub is : IsSeenAs (run_setting disk decls LARGEST_JOURNAL false) first world
    pub limit_is : world.limit ≡ LARGEST_JOURNAL
    pub unmended : IsNotReconciling world.place
    pub noted : (device : ℕ) → noted_on world.links.logs device ≡ []

  -- The lines of a script were done from the first world on, up to its end, or up to one in which the run ended, or whose
  -- text was not written, and the sink took what they printed.
  pub record Finishes (decls : Decls) (first : Seen D) (held held' : Option (List ℕ)) (steps : List ScriptStep) (last : D)
      (status : Result Done Stop) : Type 0 where
    pub done : List ScriptStep
    pub rest : List ScriptStep
    pub parts : steps ≡ done ++ rest
    pub texts : List (List ℕ)
    pub end : Option Stop
    pub ran : LinesRun (run_setting disk decls LARGEST_JOURNAL false) first done texts end last
    pub wrote : Wrote held held' (flat_map (λ text. text) texts) end status
    pub whole : is_ok status ≡ true → rest ≡ []
    pub unwritten : status ≡ Err ending.WriteFault → TookUpToLast texts held held'

  -- What was printed as a run begins was written, and the script was run; or memory ran out for that text.
  abbrev pub GreetsAndFinishes : Decls → D → Option (List ℕ) → Option (List ℕ) → List ScriptStep → D → Result Done Stop
      → Type 0
  GreetsAndFinishes decls from held held' steps last status = (left left' : Option (List ℕ))
      → EndsOver disk (record { decls = decls; steps = steps }) (record { left = left; held = held; disk = from })
      (record { left = left'; held = held'; disk = last }) status

  -- the run of a bundle ended so; or memory ran out before its journal was looked at
  abbrev pub EndsOrNeverBegins : ScriptedBundle → Outside D → Outside D → Result Done Stop → Type 0
  EndsOrNeverBegins bundle before after status =
      ((status ≡ Err ending.Memory) × (after.held ≡ before.held) × (after.disk ≡ before.disk))
      ⊎ EndsOver disk bundle before after status

-- Lines were done from a world on, and this is what the rules see after them, what they printed, and what is noted of
-- operations since each log was printed.
pub record HasDone {D : Type 0} (here : Setting D) (first : Seen D) (done : List ScriptStep) (texts : List (List ℕ))
    (world : Scene D) : Type 0 where
  pub lines : List (LineDone D)
  pub seen : Seen D
  pub are : AreDone here first lines seen
  pub steps_are : map (λ line. line.step) lines ≡ done
  pub texts_are : map (λ line. line.text) lines ≡ texts
  pub is : IsSeenAs here seen world
  pub unmended : IsNotReconciling world.place
  pub noted : (device : ℕ) → noted_on world.links.logs device ≡ logged device [] lines
  pub logs : PrintLogs here.decls.names (λ device. []) lines

-- lines were done from a world on, over any disk
abbrev pub HasDoneOver : {D : Type 0} → DiskMeaning D → Decls → Seen D → List ScriptStep → List (List ℕ) → Scene D
    → Type 0
HasDoneOver disk decls first lines texts world =
    HasDone (run_setting disk decls LARGEST_JOURNAL false) first lines texts world
