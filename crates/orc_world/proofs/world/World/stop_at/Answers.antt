use Rattle.std.proofs.Common.{subst, sym}
use Rattle.orc_rules.specs.Acceptance.{declared_kind}
use Rattle.orc_script.specs.declared.step.ScriptStep.TheVariants as step
use Rattle.orc_world.specs.Lines.{DoesLine}
use Rattle.orc_scene.specs.Stands.{run_setting}
use Rattle.orc_world.proofs.Arming.{stop_at_line}
use Rattle.orc_world.proofs.world.World.stop_at.Goals as goal

pub returns : goal.returns
returns g c = λ decls granted seen is may.
    let old = c.args.self.now.scene in
    let here = run_setting g.D.Disk.disk decls old.limit granted in
    subst (λ w. DoesLine here (step.StopAt c.args.k c.args.b) seen old w c.args.out.now c.args.out.now) (sym c.arm.ensures)
    (stop_at_line here (c.scene_is_carried.ensures decls old.limit granted is.decls) (c.arming_arms.ensures decls (declared_kind decls) old.limit granted) seen old
    c.args.k c.args.b c.args.out.now is c.requires.sound.1)
