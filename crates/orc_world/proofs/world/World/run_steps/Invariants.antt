use Rattle.std.proofs.Common.{take}
use Rattle.orc_world.proofs.LinesDone.{ScriptSoFar}
use Rattle.orc_world.proofs.world.World.run_steps.Given as goal

-- the first so many lines were done
abbrev pub invariant-loop-step : goal.invariant-loop-step
invariant-loop-step g l = ScriptSoFar g.D.Disk.disk l.steps (take l.step-index l.steps) l.fn.self.scene l.fn.out l.self.scene l.out
