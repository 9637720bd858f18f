-- What the command `check` prints, and how it ends.
use Rattle.std.specs.Prelude.{◌≡◌, ℕ, List, ◌++◌, codes, length, Option, Result}
use Rattle.std.specs.declared.result.Result.TheVariants.{Ok, Err}
use Rattle.std.specs.Fmt.{decimal}
use Rattle.std.specs.Io.KnownBytes.{Appends}
use Rattle.orc_io.specs.Pieces.{TakesFront}
use Rattle.orc_bundle.specs.declared.scripted.ScriptedBundle.{ScriptedBundle}
use Rattle.orc_run.specs.declared.stop.Done.{Done}
use Rattle.orc_run.specs.declared.stop.Stop.{Stop}
use Rattle.orc_run.specs.declared.stop.Stop.TheVariants as ending

-- how many devices and steps a bundle has
abbrev pub checked_line : ScriptedBundle → List ℕ
checked_line bundle =
    codes "ok " ++ decimal (length bundle.decls.devices) ++ codes " " ++ decimal (length bundle.steps) ++ codes "\n"

-- how the check of a bundle ended, from what its sink held before to what it holds, by the status
abbrev pub EndsCheck : ScriptedBundle → Option (List ℕ) → Option (List ℕ) → Result Done Stop → Type 0
EndsCheck bundle held now (Ok done) = Appends held now (checked_line bundle)
EndsCheck bundle held now (Err ending.WriteFault) = TakesFront held now (checked_line bundle)
EndsCheck bundle held now (Err ending.Memory) = now ≡ held
EndsCheck bundle held now (Err end) = ⊥
