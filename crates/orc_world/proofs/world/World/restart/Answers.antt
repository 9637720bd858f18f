use Rattle.std.proofs.Common.{◌<◌, length, refl, subst, sym}
use Rattle.orc_links.specs.declared.links.Links.{Links}
use Rattle.orc_script.specs.declared.step.ScriptStep.TheVariants as step
use Rattle.orc_scene.specs.Stands.{run_setting}
use Rattle.orc_world.proofs.Allowed.{device_within}
use Rattle.orc_world.proofs.Times.{ends_at_once, restart_line}
use Rattle.orc_world.proofs.world.World.restart.Goals as goal

pub restart-requires : goal.restart-requires
restart-requires g c =
    subst (λ (l : Links). c.args.device < length l.links) (sym c.in-Ok.ensures.same.links)
    (device_within g.D.Disk.disk c.args.self.now.scene c.args.device c.requires.sound.0 c.requires.allowed)

pub returns-in-Err : goal.returns-in-Err
returns-in-Err g c = λ decls granted seen is may.
    ends_at_once (run_setting g.D.Disk.disk decls c.args.self.now.scene.limit granted) (step.Restart c.args.device) seen c.args.self.now.scene
    c.make_room.new.self c.args.out.now c.args.out.now c.in-Err.stop c.in-Err.ensures.stop is c.in-Err.ensures.same refl refl

pub returns-in-Ok : goal.returns-in-Ok
returns-in-Ok g c = λ decls granted seen is may.
    restart_line g.D.Disk.disk decls c.args.self.now.scene.limit granted c.scene_is_carried.ensures seen c.args.self.now.scene c.make_room.new.self
    c.keep.new.self c.restart.new.self c.args.device c.args.out.now c.args.out.now is c.requires.sound.1 c.in-Ok.ensures.same
    (subst (λ (l : Links). c.args.device < length l.links) (sym c.in-Ok.ensures.same.links)
    (device_within g.D.Disk.disk c.args.self.now.scene c.args.device c.requires.sound.0 c.requires.allowed)) c.restart.ensures c.keep.ensures.kept refl
