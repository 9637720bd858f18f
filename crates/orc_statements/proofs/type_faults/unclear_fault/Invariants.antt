use Rattle.std.proofs.Common.{◌≡◌, drop}
use Rattle.orc_statements.specs.Faults.{unclear_fault}
use Rattle.orc_statements.proofs.type_faults.unclear_fault.Given as goal

abbrev pub invariant-loop-stmt : goal.invariant-loop-stmt
invariant-loop-stmt l = unclear_fault (drop l.stmt-index l.stmts) ≡ unclear_fault l.stmts
