use Rattle.std.proofs.Common.{◌≡◌, take}
use Rattle.std.specs.Prelude.{map}
use Rattle.orc_node.specs.inside.Changed.{target_of}
use Rattle.orc_node.proofs.judging.targets_of.Given as goal

abbrev pub invariant-loop-change : goal.invariant-loop-change
invariant-loop-change l = l.targets ≡ map target_of (take l.change-index l.changes)
