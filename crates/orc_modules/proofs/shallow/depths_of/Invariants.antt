-- What is known holds.
use Rattle.orc_modules.specs.inside.Shallow.{depth_by, AreShallow}
use Rattle.orc_modules.proofs.shallow.depths_of.Given as goal

abbrev pub invariant-loop-name : goal.invariant-loop-name
invariant-loop-name l = AreShallow l.fn.here (depth_by l.depths)
