-- What a call for a line of a script does.
use Rattle.std.specs.Prelude.{[], ◌≡◌, ◌++◌, ◌≤◌, ℕ, Bool, true, false, List, Result, MatchResult, length, if◌then◌else◌}
use Rattle.orc_decls.specs.Devices.{name_of}
use Rattle.orc_decls.specs.declared.declarations.Decls.{Decls}
use Rattle.orc_disk.specs.Meanings.{DiskMeaning}
use Rattle.orc_links.specs.Logs.{noted_on}
use Rattle.orc_rules.specs.Events.{Turn}
use Rattle.orc_rules.specs.Worlds.{Setting, World as Seen}
use Rattle.orc_runs.specs.Runs.{IsDone, SaysAllTurns, is_log}
use Rattle.orc_print.specs.Logs.{log_text}
use Rattle.orc_runs.specs.Ends.{EndedBecause}
use Rattle.orc_script.specs.declared.step.ScriptStep.{ScriptStep}
use Rattle.orc_script.specs.declared.step.ScriptStep.TheVariants as step
use Rattle.orc_scene.specs.Courses.{events_in, operations_in}
use Rattle.orc_scene.specs.RunEnds.{end_of_run}
use Rattle.orc_scene.specs.Stands.{HasDisk, IsSeenAs, IsNotReconciling, run_setting}
use Rattle.orc_scene.specs.declared.stop.WorldStop.{WorldStop}
use Rattle.orc_scene.specs.declared.scene.Scene.{Scene}

module _ {D : Type 0} (here : Setting D) (line : ScriptStep) (seen : Seen D) (old new : Scene D)
    (before after : List ℕ) where
  -- The line was done.
  pub record DoesLine : Type 0 where
    pub turns : List (Turn D)
    pub next : Seen D
    pub text : List ℕ
    pub done : IsDone here false (record { step = line; before = seen; turns = turns; behind = next; text = text })
    pub is : IsSeenAs here next new
    pub unmended : IsNotReconciling new.place
    pub limit : new.limit ≡ old.limit
    pub events : new.events.items.items ≡ old.events.items.items ++ events_in turns
    pub logs : (device : ℕ) → noted_on new.links.logs device
        ≡ (if is_log device line then []
        else noted_on old.links.logs device ++ operations_in device turns)
    pub log : (device : ℕ) → line ≡ step.Log device
        → text ≡ log_text (name_of here.decls.names device) (noted_on old.links.logs device)
    pub printed : after ≡ before ++ text

  -- The run ended in the line.
  pub record EndsInLine (stop : WorldStop) : Type 0 where
    pub turns : List (Turn D)
    pub last : Seen D
    pub text : List ℕ
    pub done : IsDone here true (record { step = line; before = seen; turns = turns; behind = last; text = text })
    pub because : EndedBecause here turns (end_of_run stop)
    pub says : SaysAllTurns here.decls
        (record { step = line; before = seen; turns = turns; behind = last; text = text }) (end_of_run stop)
    pub disk : HasDisk new.place last.journal.disk
    pub events : new.events.items.items ≡ old.events.items.items ++ events_in turns
    pub printed : after ≡ before ++ text

-- Over a disk that doesn't report what it holds a recovery reads what it reads: that this was written is granted for no
-- line that opens the journal again, and nothing is promised of a view that grants it.
abbrev pub MayRecover : ScriptStep → Bool → Type 0
MayRecover step.Recover granted = granted ≡ false
MayRecover other granted = Unit {0}

-- A call of the world did the line, or the run ended in it.
abbrev pub IsLineCall : {D A : Type 0} → DiskMeaning D → ScriptStep → Scene D → Result A WorldStop → Scene D → List ℕ
    → List ℕ → Type 0
IsLineCall {D} disk line old result new before after =
    (decls : Decls) (granted : Bool) (seen : Seen D) → IsSeenAs (run_setting disk decls old.limit granted) seen old
    → MayRecover line granted
    → MatchResult result
    (λ value. DoesLine (run_setting disk decls old.limit granted) line seen old new before after)
    (λ stop. EndsInLine (run_setting disk decls old.limit granted) line seen old new before after stop)
