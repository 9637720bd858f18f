use Rattle.std.proofs.Common.{◌≡◌, ◌++◌, drop}
use Rattle.orc_template.specs.Expansions.{device_parts}
use Rattle.orc_template.proofs.expansion.Expansion.gathered.Given as goal

abbrev pub invariant-loop-tree : goal.invariant-loop-tree
invariant-loop-tree l = l.parts ++ device_parts l.number (drop l.tree-index l.written) ≡ device_parts 0 l.written
