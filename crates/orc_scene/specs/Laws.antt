-- How a run of devices as they are declared is carried on.
use Rattle.std.specs.Prelude.{ℕ, Bool}
use Rattle.orc_decls.specs.Declarations.{AreDecls}
use Rattle.orc_decls.specs.declared.declarations.Decls.{Decls}
use Rattle.orc_disk.specs.Meanings.{DiskMeaning}
use Rattle.orc_runs.specs.Laws.{RunsAreCarried}
use Rattle.orc_scene.specs.Stands.{run_setting}

-- What is carried along holds from the beginning of a run on, and after each of its events.
abbrev pub SceneIsCarried : {D : Type 0} → DiskMeaning D → Type 0
SceneIsCarried {D} disk = (decls : Decls) (limit : ℕ) (granted : Bool)
    → AreDecls decls → RunsAreCarried (run_setting disk decls limit granted)
