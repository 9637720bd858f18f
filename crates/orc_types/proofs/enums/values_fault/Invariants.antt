use Rattle.std.proofs.Common.{◌≡◌, [], take, drop}
use Rattle.orc_types.specs.Enums.{values_fault}
use Rattle.orc_types.proofs.enums.values_fault.Given as goal

abbrev pub invariant-loop-at : goal.invariant-loop-at
invariant-loop-at l =
    values_fault l.base l.before l.name (take l.at l.stmts) (drop l.at l.stmts) ≡ values_fault l.base l.before l.name [] l.stmts
