use Rattle.std.proofs.Common.{◌≡◌, take}
use Rattle.orc_revalidate.specs.inside.Changed.{changed_paths}
use Rattle.orc_revalidate.proofs.paths.changed_paths.Given as goal

-- those inside the targets so far
abbrev pub invariant-loop-target : goal.invariant-loop-target
invariant-loop-target l = l.paths ≡ changed_paths l.old l.new (take l.target-index l.targets)
