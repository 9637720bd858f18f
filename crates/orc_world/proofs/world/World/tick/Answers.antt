use Rattle.std.proofs.Common.{refl}
use Rattle.orc_script.specs.declared.step.ScriptStep.TheVariants as step
use Rattle.orc_scene.specs.Stands.{run_setting}
use Rattle.orc_world.proofs.Times.{ends_at_once, tick_line}
use Rattle.orc_world.proofs.world.World.tick.Goals as goal

pub returns-in-Err : goal.returns-in-Err
returns-in-Err g c = λ decls granted seen is may.
    ends_at_once (run_setting g.D.Disk.disk decls c.args.self.now.scene.limit granted) (step.Tick c.args.seconds) seen c.args.self.now.scene
    c.make_room.new.self c.args.out.now c.args.out.now c.in-Err.stop c.in-Err.ensures.stop is c.in-Err.ensures.same refl refl

pub returns-in-Ok : goal.returns-in-Ok
returns-in-Ok g c = λ decls granted seen is may.
    tick_line g.D.Disk.disk decls c.args.self.now.scene.limit granted c.scene_is_carried.ensures seen c.args.self.now.scene c.make_room.new.self
    c.keep.new.self c.tick.new.self c.args.seconds c.args.out.now c.args.out.now is c.requires.sound.1 c.in-Ok.ensures.same
    c.tick.ensures c.keep.ensures.kept refl
