use Rattle.orc_modules.specs.Stack.{stack}
use Rattle.orc_modules.proofs.Shallows.{beside-deeper}
use Rattle.orc_modules.proofs.bare.is_shallow.Goals as goal

pub returns-then-known-depth : goal.returns-then-known-depth
returns-then-known-depth c = λ _ modules. beside-deeper modules (stack c.args.above.now) c.args.name.now c.in-Some.known c.args.depth c.if-known-depth.true (c.in-Some.ensures modules)
