use Rattle.std.proofs.Common.{◌≡◌, IfOk, subst}
use Rattle.orc_modules.specs.Stack.{stack, modules_of}
use Rattle.orc_modules.proofs.LeafTypes.{in_block-is}
use Rattle.orc_modules.proofs.leaves.leaf_type.Goals as goal

pub returns : goal.returns
returns c = subst (λ e. IfOk c.leaf_in_block.result (λ typed. typed ≡ e)) (in_block-is (modules_of c.args.modules.now) c.args.name.now (stack c.args.above.now) c.args.block.now) c.leaf_in_block.ensures
