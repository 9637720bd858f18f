-- What the bytes of a source decide.
use Rattle.std.specs.Prelude.{◌≡◌, ◌⊎◌, ℕ, ◌+◌, List, take, Result}
use Rattle.std.specs.declared.option.Option.TheVariants.{Some}
use Rattle.std.specs.declared.result.Result.TheVariants.{Ok, Err}
use Rattle.orc_generator.specs.Generated.{generated}
use Rattle.orc_disk.specs.Meanings.{DiskMeaning}
use Rattle.orc_decls.specs.declared.rule.Rule.{Rule}
use Rattle.orc_bundle.specs.Bundles.{scripted_of}
use Rattle.orc_bundle.specs.declared.scripted.ScriptedBundle.{ScriptedBundle}
use Rattle.orc_lines.specs.declared.lines.TheConstants.{LARGEST_BUNDLE}
use Rattle.orc_run.specs.Ends.{EndsBy, Outside}
use Rattle.orc_run.specs.declared.stop.Done.{Done}
use Rattle.orc_run.specs.declared.stop.Stop.{Stop}
use Rattle.orc_run.specs.declared.stop.Stop.TheVariants as ending
use Rattle.orc_words.specs.declared.words.Command.{Command}
use Rattle.orc_words.specs.declared.words.Command.TheVariants as word

-- A bundle doesn't end with Bundle. Bytes that are none end with it, and with the first line at fault and the first
-- rule that it breaks, unless reading failed or memory ran out.
abbrev pub EndsDecided : Result ScriptedBundle (ℕ × Rule) → Result Done Stop → Type 0
EndsDecided (Ok bundle) status = (line : ℕ) (rule : Rule) → status ≡ Err (ending.Bundle line rule) → ⊥
EndsDecided (Err fault) status =
    (status ≡ Err (ending.Bundle fault.0 fault.1)) ⊎ (status ≡ Err ending.ReadFault) ⊎ (status ≡ Err ending.Memory)

-- the bytes of the bundle of a command: those that it makes, or as many of the source as a bundle may have and one more
abbrev pub bundle_bytes : Command → List ℕ → List ℕ
bundle_bytes (word.Gen number devices calls) all = generated number devices calls
bundle_bytes other all = take (LARGEST_BUNDLE + 1) all

-- Where a source reports which bytes it has left, the first of them decide, as many as a bundle may have and one more.
-- So they do for each command alike that reads a bundle; for one that makes it the bytes that it makes do.
abbrev pub BytesDecide : {D : Type 0} → DiskMeaning D → Type 0
BytesDecide {D} meaning = (command : Command) (before after : Outside D) (status : Result Done Stop) (all : List ℕ)
    → before.left ≡ Some all → EndsBy meaning (Some command) before after status
    → EndsDecided (scripted_of (bundle_bytes command all)) status
