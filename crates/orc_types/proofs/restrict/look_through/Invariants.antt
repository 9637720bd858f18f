use Rattle.std.proofs.Common.{◌≡◌, [], take, drop}
use Rattle.orc_types.specs.Enums.{enums_of}
use Rattle.orc_types.specs.Types.{enumerated, first_fault}
use Rattle.orc_types.proofs.restrict.look_through.Given as goal

abbrev pub invariant-loop-at : goal.invariant-loop-at
invariant-loop-at l = record {
  enums : l.enums ≡ enums_of (enumerated l.base) (take l.at l.stmts);
  left : first_fault l.base (take l.at l.stmts) (drop l.at l.stmts) ≡ first_fault l.base [] l.stmts;
}
