use Rattle.std.proofs.Common.{sym}
use Rattle.orc_modules.specs.Stack.{stack, found}
use Rattle.orc_modules.proofs.Shallows.{bare-named}
use Rattle.orc_modules.proofs.bare.bringer.Goals as goal

pub returns-in-true : goal.returns-in-true
returns-in-true c = bare-named c.args.depth c.args.modules.now.all.now (stack c.args.above.now) c.args.stmt.now (found c.in-Some.found) (sym c.in-Some.ensures)
    (c.in_ok-brings_nothing-in-Some.ensures c.in-true.is (stack c.args.above.now) (sym c.in-Some.ensures))
