-- What is left of the modules decides; the names so far are those of the nodes before.
use Rattle.std.proofs.Common.{◌≡◌, [], take, drop}
use Rattle.orc_modules.specs.Children.{children, child_names}
use Rattle.orc_modules.specs.Stack.{modules_of}
use Rattle.orc_modules.specs.Statements.{module_places}
use Rattle.orc_statements.specs.inside.Seen.{HasSame}
use Rattle.orc_statements.specs.Faults.{fault_here, first_some}
use Rattle.orc_statements.proofs.walk.first_fault.Given as goal

abbrev pub invariant-loop-at : goal.invariant-loop-at
invariant-loop-at l = record {
  left : first_some (fault_here (modules_of l.fn.modules)) (module_places [] l.fn.modules.all.now)
      ≡ first_some (fault_here (modules_of l.fn.modules)) (module_places (take l.at l.fn.modules.all.now) (drop l.at l.fn.modules.all.now));
  names : HasSame l.names (child_names (children l.fn.modules.most l.fn.modules.all.now [] (take l.at l.fn.modules.all.now)));
}
