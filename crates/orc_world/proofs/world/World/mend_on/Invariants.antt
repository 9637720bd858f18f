use Rattle.orc_world.proofs.Lasted.{OperatesInEach}
use Rattle.orc_world.proofs.world.World.mend_on.Given as goal

-- operations of the device came so far
abbrev pub invariant-operations : goal.invariant-operations
invariant-operations g l = OperatesInEach g.D.Disk.disk l.device l.fn.self.scene l.self.scene
