use Rattle.std.proofs.Common.{◌≡◌, map, take}
use Rattle.std.specs.FinMap.{empty}
use Rattle.orc_template.proofs.template.nothing_written.Given as goal

abbrev pub invariant-loop-name : goal.invariant-loop-name
invariant-loop-name l = l.trees.items ≡ map (λ name. empty) (take l._name-index l.names)
