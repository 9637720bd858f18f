use Rattle.std.proofs.Common.{◌≡◌, drop}
use Rattle.orc_statements.specs.Faults.{first_below_enum}
use Rattle.orc_statements.proofs.type_faults.first_below_enum.Given as goal

abbrev pub invariant-loop-stmt : goal.invariant-loop-stmt
invariant-loop-stmt l = first_below_enum (drop l.stmt-index l.stmts) ≡ first_below_enum l.stmts
