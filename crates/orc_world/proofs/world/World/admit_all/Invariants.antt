use Rattle.orc_runs.specs.Scripts.{Part as part}
use Rattle.orc_world.proofs.Lasted.{LastsInEach}
use Rattle.orc_world.proofs.world.World.admit_all.Given as goal

-- admissions came so far
abbrev pub invariant-admissions : goal.invariant-admissions
invariant-admissions g l = LastsInEach g.D.Disk.disk part.Admissions l.fn.self.scene l.fn.out l.self.scene l.out l.came
