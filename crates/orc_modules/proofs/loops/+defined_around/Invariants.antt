-- Each call has one statement fewer around.
use Rattle.std.proofs.Common.{length}
use Rattle.orc_modules.specs.Stack.{stack}
use Rattle.orc_modules.proofs.loops.+defined_around.Given as goal

abbrev pub decreases-defined_around : goal.decreases-defined_around
decreases-defined_around l = length (stack l.above.now)
