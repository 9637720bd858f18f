use Rattle.orc_runs.specs.Scripts.{Part as part}
use Rattle.orc_world.proofs.Lasted.{LastsInEach}
use Rattle.orc_world.proofs.world.World.decide_all.Given as goal

-- decisions came so far
abbrev pub invariant-decisions : goal.invariant-decisions
invariant-decisions g l = LastsInEach g.D.Disk.disk part.Decisions l.fn.self.scene l.fn.out l.self.scene l.out l.came
