-- Each call has one statement fewer around.
use Rattle.std.proofs.Common.{length}
use Rattle.orc_modules.specs.Stack.{stack}
use Rattle.orc_modules.proofs.scope.+outermost.Given as goal

abbrev pub decreases-outermost : goal.decreases-outermost
decreases-outermost l = length (stack l.above.now)
