use Rattle.orc_world.proofs.Lasted.{no_operation_yet, operation_ended, operation_last, operation_more, operations_exhausted}
use Rattle.orc_world.proofs.world.World.mend_on.Goals as goal

pub operations-init : goal.operations-init
operations-init g c = no_operation_yet g.D.Disk.disk c.args.device c.args.self.now.scene c.requires.sound c.requires.declared

pub operations-preserved : goal.operations-preserved
operations-preserved g c =
    operation_more g.D.Disk.disk c.args.device c.args.self.now.scene c.operations.self.scene c.perform_next.new.self c.operations.invariant c.in-Ok.came c.if-not-came.false c.in-Ok.ensures.operation

pub returns-then-not-came : goal.returns-then-not-came
returns-then-not-came g c =
    operation_last g.D.Disk.disk c.args.device c.args.self.now.scene c.operations.self.scene c.perform_next.new.self c.operations.invariant c.in-Ok.came c.if-not-came.true c.in-Ok.ensures.operation

pub returns-in-Err : goal.returns-in-Err
returns-in-Err g c =
    operation_ended g.D.Disk.disk c.args.device c.args.self.now.scene c.operations.self.scene c.perform_next.new.self c.operations.invariant c.in-Err.stop c.in-Err.ensures.operation

pub returns : goal.returns
returns g c = operations_exhausted g.D.Disk.disk c.args.device c.args.self.now.scene c.operations.self.scene c.operations.self.scene c.operations.invariant
