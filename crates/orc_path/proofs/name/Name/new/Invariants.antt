use Rattle.std.proofs.Common.{◌≡◌, take, Some}
use Rattle.orc_path.proofs.Runs.{name_modes}
use Rattle.orc_path.specs.declared.mode.Mode.TheVariants.{Slash}
use Rattle.orc_path.proofs.name.Name.new.Given as goal

abbrev pub invariant-loop-at : goal.invariant-loop-at
invariant-loop-at l = name_modes Slash (take l.at l.text) ≡ Some l.mode
