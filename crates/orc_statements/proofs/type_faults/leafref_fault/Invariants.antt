use Rattle.std.proofs.Common.{◌≡◌, [], take, drop}
use Rattle.orc_modules.specs.Stack.{stack, modules_of}
use Rattle.orc_statements.specs.Faults.{leafref_fault}
use Rattle.orc_statements.proofs.type_faults.leafref_fault.Given as goal

abbrev pub invariant-loop-at : goal.invariant-loop-at
invariant-loop-at l = leafref_fault (modules_of l.modules) (stack l.above) (take l.at l.stmts) (drop l.at l.stmts)
    ≡ leafref_fault (modules_of l.modules) (stack l.above) [] l.stmts
