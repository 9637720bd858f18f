use Rattle.std.proofs.Common.{◌≡◌, take}
use Rattle.std.specs.Prelude.{map, option_map}
use Rattle.orc_statements.specs.References.{step_of}
use Rattle.orc_statements.proofs.reference.steps_of.Given as goal

abbrev pub invariant-loop-name : goal.invariant-loop-name
invariant-loop-name l = l.steps ≡ map (step_of l.modules.all.now (option_map (λ m. m.now) l.around)) (take l.name-index l.names)
