-- Each call has one statement fewer around.
use Rattle.std.proofs.Common.{length, ◌+◌, ◌*◌}
use Rattle.orc_modules.specs.Stack.{stack}
use Rattle.orc_modules.proofs.loops.+same.Given as goal

abbrev pub decreases-are_same : goal.decreases-are_same
decreases-are_same l = 2 * length (stack l.one.now)

abbrev pub decreases-are_same_under : goal.decreases-are_same_under
decreases-are_same_under l = 2 * length (stack l.outer.now) + 1
