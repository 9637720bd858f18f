-- Which runs have the headline over any disk.
use Rattle.std.specs.Prelude.{◌≢◌, ℕ, All, Bool, true, false, Some, List, Contains}
use Rattle.orc_decls.specs.Declarations.{AreDecls}
use Rattle.orc_decls.specs.declared.declarations.Decls.{Decls}
use Rattle.orc_device.specs.Nodes.{DeviceKind}
use Rattle.orc_disk.specs.Meanings.{DiskMeaning}
use Rattle.orc_rules.specs.Acceptance.{declared_kind}
use Rattle.orc_rules.specs.Events.{Turn}
use Rattle.orc_rules.specs.Laws.{setting}
use Rattle.orc_rules.specs.Worlds.{World}
use Rattle.orc_rules.specs.declared.event.Event.TheVariants as event
use Rattle.orc_run.specs.Reads.{ReadsGiveWhatWasWritten}
use Rattle.orc_runs.specs.Headline.{Headline}
use Rattle.orc_runs.specs.Runs.{Run, turns_of}
use Rattle.orc_runs.specs.Starts.{StartsRun}
use Rattle.orc_script.specs.declared.step.ScriptStep.{ScriptStep}
use Rattle.orc_script.specs.declared.step.ScriptStep.TheVariants as step

-- Each run on devices as a bundle declares them, in which a recovery may go on from whatever its reads gave, has the
-- headline where its reads gave what was written. It begins as a run does, and there nothing is asked of reads.
abbrev pub ReadBackRunsHaveTheHeadline : {D : Type 0} → DiskMeaning D → Type 0
ReadBackRunsHaveTheHeadline {D} disk =
    (decls : Decls) (limit : ℕ) (script : List ScriptStep) (first last : World D)
    (run : Run (setting disk decls (declared_kind decls) limit false) script first last)
    → AreDecls decls → StartsRun (setting disk decls (declared_kind decls) limit true) first
    → ReadsGiveWhatWasWritten disk first (turns_of run)
    → Headline (setting disk decls (declared_kind decls) limit false) script first last run

-- where no line of a script is `recover`, no turn of a run of it is a recovery
abbrev pub RecoveriesNeedTheirLine : {D : Type 0} → DiskMeaning D → Type 0
RecoveriesNeedTheirLine {D} disk =
    (decls : Decls) (kinds : ℕ → DeviceKind) (limit : ℕ) (granted : Bool)
    (script : List ScriptStep) (first last : World D)
    (run : Run (setting disk decls kinds limit granted) script first last)
    → All (λ line. line ≢ step.Recover) script
    → (turn : Turn D) → Contains (turns_of run) turn → turn.seen ≢ Some event.Recover
