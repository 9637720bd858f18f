-- What a source gave, and why a run may end before its bundle is read, and after that.
use Rattle.std.specs.Prelude.{◌<◌, ◌^◌, ℕ, IsTrue, None, Option, Some, length}
use Rattle.std.specs.List.{list_all}
use Rattle.orc_bundle.specs.Bundles.{IsBundle}
use Rattle.orc_bundle.specs.declared.scripted.ScriptedBundle.{ScriptedBundle}
use Rattle.orc_script.specs.Steps.{is_step}
use Rattle.orc_words.specs.declared.words.Command.{Command}
use Rattle.orc_words.specs.declared.words.Command.TheVariants as word
use Rattle.orc_run.specs.declared.reading.Input.{Input}
use Rattle.orc_run.specs.declared.stop.Stop.{Stop}
use Rattle.orc_run.specs.declared.stop.Stop.TheVariants as ending

-- the bundle with its script, without what each device accepts, which the declarations say
abbrev pub scripted : Input → ScriptedBundle
scripted input = record { decls = input.bundle.decls; steps = input.steps }

-- what is declared is lawful, and short, and each step is one that the declarations allow
pub record IsInput (input : Input) : Type 0 where
  pub bundle : IsBundle input.bundle
  pub short : length input.bundle.decls.text < 2 ^ 32
  pub steps : IsTrue (list_all (is_step input.bundle.decls) input.steps)

-- why a run ends whose bundle was read
abbrev pub IsRunStop : Stop → Type 0
IsRunStop ending.Usage = ⊥
IsRunStop ending.ReadFault = ⊥
IsRunStop (ending.Bundle line rule) = ⊥
IsRunStop end = Unit {0}

-- why a run ends before its bundle is read
abbrev pub IsInputStop : Stop → Type 0
IsInputStop ending.ReadFault = Unit {0}
IsInputStop (ending.Bundle line rule) = Unit {0}
IsInputStop ending.Memory = Unit {0}
IsInputStop end = ⊥

-- why a run ends whose bundle is made
abbrev pub IsMadeStop : Stop → Type 0
IsMadeStop (ending.Bundle line rule) = Unit {0}
IsMadeStop ending.Memory = Unit {0}
IsMadeStop end = ⊥

-- the numbers of a command that makes a bundle
abbrev pub numbers_of : Command → Option (ℕ × ℕ × ℕ)
numbers_of (word.Gen number devices calls) = Some (number, devices, calls)
numbers_of other = None
