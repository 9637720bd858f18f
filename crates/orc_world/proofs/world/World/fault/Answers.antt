use Rattle.std.proofs.Common.{refl}
use Rattle.orc_script.specs.declared.step.ScriptStep.TheVariants as step
use Rattle.orc_scene.specs.Stands.{run_setting}
use Rattle.orc_world.proofs.Allowed.{device_within}
use Rattle.orc_world.proofs.Looks.{fault_line}
use Rattle.orc_world.proofs.Times.{ends_at_once}
use Rattle.orc_world.proofs.world.World.fault.Goals as goal

pub fail_next-requires : goal.fail_next-requires
fail_next-requires g c = device_within g.D.Disk.disk c.args.self.now.scene c.args.device c.requires.sound.0 c.requires.allowed

pub returns-in-Ok : goal.returns-in-Ok
returns-in-Ok g c = λ decls granted seen is may.
    fault_line (run_setting g.D.Disk.disk decls c.args.self.now.scene.limit granted)
    (c.scene_is_carried.ensures decls c.args.self.now.scene.limit granted is.decls) seen c.args.self.now.scene _ c.args.device c.args.op c.args.when
    c.args.out.now c.args.out.now is c.requires.sound.1
    (device_within g.D.Disk.disk c.args.self.now.scene c.args.device c.requires.sound.0 c.requires.allowed)
    refl refl refl refl c.in-Ok.ensures.ok refl

pub returns-in-Err : goal.returns-in-Err
returns-in-Err g c = λ decls granted seen is may.
    ends_at_once (run_setting g.D.Disk.disk decls c.args.self.now.scene.limit granted) (step.Fault c.args.device c.args.op c.args.when) seen c.args.self.now.scene
    _ c.args.out.now c.args.out.now _ refl is
    (record { alloc = refl; limit = refl; place = refl; links = c.in-Err.ensures.err; snapshots = refl; events_are = refl }) refl refl
