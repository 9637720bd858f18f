use Rattle.orc_world.proofs.Lasted.{MendsInEach}
use Rattle.orc_world.proofs.world.World.mend_each.Given as goal

-- the first so many devices were gone through
abbrev pub invariant-loop-device : goal.invariant-loop-device
invariant-loop-device g l = MendsInEach g.D.Disk.disk l.fn.self.scene l.self.scene l.device
