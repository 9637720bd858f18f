use Rattle.std.proofs.Common.{refl}
use Rattle.orc_scene.specs.Stands.{run_setting}
use Rattle.orc_world.proofs.Allowed.{device_within}
use Rattle.orc_world.proofs.Stepping.{step_ends, step_line}
use Rattle.orc_world.proofs.world.World.step.Goals as goal

pub perform_next-requires-clause-declared : goal.perform_next-requires-clause-declared
perform_next-requires-clause-declared g c = device_within g.D.Disk.disk c.args.self.now.scene c.args.device c.requires.sound.0 c.requires.allowed

pub returns-in-Ok : goal.returns-in-Ok
returns-in-Ok g c = λ decls granted seen is may.
    let old = c.args.self.now.scene in
    step_line (run_setting g.D.Disk.disk decls old.limit granted) (c.scene_is_carried.ensures decls old.limit granted is.decls) seen old c.perform_next.new.self
    c.args.device c.args.out.now is c.requires.sound.1 _ (c.in-Ok.ensures.operation decls granted seen is)

pub returns-in-Err : goal.returns-in-Err
returns-in-Err g c = λ decls granted seen is may.
    let old = c.args.self.now.scene in
    step_ends (run_setting g.D.Disk.disk decls old.limit granted) seen old c.perform_next.new.self c.args.device c.args.out.now c.in-Err.stop
    (c.in-Err.ensures.operation decls granted seen is)
