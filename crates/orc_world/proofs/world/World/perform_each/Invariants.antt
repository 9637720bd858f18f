use Rattle.orc_world.proofs.Lasted.{EachInEach}
use Rattle.orc_world.proofs.world.World.perform_each.Given as goal

-- the first so many devices were gone through
abbrev pub invariant-loop-device : goal.invariant-loop-device
invariant-loop-device g l = EachInEach g.D.Disk.disk l.fn.self.scene l.self.scene l.device l.came
