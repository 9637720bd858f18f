-- What the run of a script is in a world.
use Rattle.std.specs.Prelude.{[], ◌≡◌, ◌++◌, ◌≢◌, ℕ, Bool, true, false, All, None, Some, List, Result, MatchResult}
use Rattle.orc_decls.specs.declared.declarations.Decls.{Decls}
use Rattle.orc_disk.specs.Meanings.{DiskMeaning}
use Rattle.orc_links.specs.Logs.{noted_on}
use Rattle.orc_rules.specs.Worlds.{Setting, World as Seen}
use Rattle.orc_runs.specs.Runs.{LineDone, Run, logged, text_in, turns_of}
use Rattle.orc_script.specs.declared.step.ScriptStep.{ScriptStep}
use Rattle.orc_script.specs.declared.step.ScriptStep.TheVariants as step
use Rattle.orc_scene.specs.Courses.{events_in}
use Rattle.orc_scene.specs.Stands.{HasDisk, IsSeenAs, IsNotReconciling, decls_in, run_setting}
use Rattle.orc_scene.specs.RunEnds.{end_of_run}
use Rattle.orc_scene.specs.declared.stop.WorldStop.{WorldStop}
use Rattle.orc_scene.specs.declared.scene.Scene.{Scene}

-- The rules see the world, with nothing granted of what reads give, and it is between two lines: so any line may come.
abbrev pub TakesAnyLine : {D : Type 0} → DiskMeaning D → Scene D → Type 0
TakesAnyLine {D} disk world = (decls : Decls) × (seen : Seen D)
    × IsSeenAs (run_setting disk decls world.limit false) seen world × IsNotReconciling world.place

-- The world takes any line after one that was done, under the same declarations.
abbrev pub GoesOnAfter : {D A : Type 0} → DiskMeaning D → Scene D → Result A WorldStop → Scene D → Type 0
GoesOnAfter disk old result new =
    MatchResult result (λ value. TakesAnyLine disk new × (decls_in new.place ≡ decls_in old.place)) (λ why. Unit {0})

-- The script was run whole, or up to where the run ended, after the operations noted so far; its events are kept, and
-- all that it said is printed.
pub record RunsInWorld {D : Type 0} (here : Setting D) (script : List ScriptStep) (seen : Seen D) (old new : Scene D)
    (before after : List ℕ) (last : Seen D) : Type 0 where
  pub run : Run here script seen last
  pub noted : (device : ℕ) → run.noted device ≡ noted_on old.links.logs device
  pub events : new.events.items.items ≡ old.events.items.items ++ events_in (turns_of run)
  pub printed : after ≡ before ++ text_in run

-- The log of each device holds the operations since it was printed last: where these lines didn't print it, those also
-- that were noted before them.
abbrev pub KeepsLogs : {D : Type 0} → Scene D → Scene D → List (LineDone D) → Type 0
KeepsLogs old new lines =
    (device : ℕ) → noted_on new.links.logs device ≡ logged device (noted_on old.links.logs device) lines

-- What `run_steps` does. Where no recovery is in the script it may be granted that a journal reads what was written.
abbrev pub RunsScript : {D : Type 0} → DiskMeaning D → List ScriptStep → Scene D → Result (Unit {0}) WorldStop → Scene D
    → List ℕ → List ℕ → Type 0
RunsScript {D} disk script old result new before after = (decls : Decls) (granted : Bool) (seen : Seen D)
    → IsSeenAs (run_setting disk decls old.limit granted) seen old
    → (granted ≡ true → All (λ line. line ≢ step.Recover) script)
    → (last : Seen D)
    × (does : RunsInWorld (run_setting disk decls old.limit granted) script seen old new before after last)
    × MatchResult result
    (λ done. (does.run.end ≡ None) × IsSeenAs (run_setting disk decls old.limit granted) last new
    × IsNotReconciling new.place × KeepsLogs old new does.run.lines)
    (λ why. (does.run.why ≡ Some (end_of_run why)) × HasDisk new.place last.journal.disk)
