use Rattle.std.proofs.Common.{arith, sym}
use Rattle.orc_types.specs.Enums.{enums_of}
use Rattle.orc_types.specs.Types.{enumerated}
use Rattle.orc_types.proofs.Found.{found_here}
use Rattle.orc_types.proofs.restrict.look_through.Goals as goal

pub returns-in-Err : goal.returns-in-Err
returns-in-Err c =
    found_here c.args.base.now c.args.stmts.now c.loop-at.at c.index-stmts-at.result (enums_of (enumerated c.args.base.now) c.args.stmts.now) c.in-Err.fault
    (omega (arith, c.loop-at-test.true)) (sym c.index-stmts-at.is) c.loop-at.invariant.left c.in-Err.ensures
