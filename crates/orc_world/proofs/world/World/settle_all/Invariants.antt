use Rattle.orc_world.proofs.Lasted.{RoundsInEach}
use Rattle.orc_world.proofs.world.World.settle_all.Given as goal

-- rounds came so far
abbrev pub invariant-rounds : goal.invariant-rounds
invariant-rounds g l = RoundsInEach g.D.Disk.disk l.fn.self.scene l.fn.out l.self.scene l.out
