-- What is left of the block decides; the names so far are those of the nodes before.
use Rattle.std.proofs.Common.{◌≡◌, take}
use Rattle.orc_modules.specs.Children.{children, child_names}
use Rattle.orc_modules.specs.Stack.{stack, modules_of}
use Rattle.orc_modules.specs.Statements.{places_below}
use Rattle.orc_statements.specs.inside.Seen.{HasSame}
use Rattle.orc_statements.specs.Faults.{fault_here, first_some}
use Rattle.orc_statements.proofs.Blocks.{rest}
use Rattle.orc_statements.proofs.walk.+first_fault_below.Given as goal

abbrev pub invariant-loop-at : goal.invariant-loop-at
invariant-loop-at l = record {
  left : first_some (fault_here (modules_of l.fn.modules)) (places_below l.fn.stmt (stack l.fn.above))
      ≡ first_some (fault_here (modules_of l.fn.modules)) (rest l.parent (stack l.fn.above) l.block l.at);
  names : HasSame l.names (child_names (children l.fn.modules.most l.fn.modules.all.now (stack l.fn.above) (take l.at l.block)));
}
