use Rattle.std.proofs.Common.{refl}
use Rattle.orc_script.specs.declared.step.ScriptStep.TheVariants as step
use Rattle.orc_world.specs.inside.Shown.{ShowsDevice}
use Rattle.orc_scene.specs.Stands.{run_setting}
use Rattle.orc_world.proofs.Looks.{show_line}
use Rattle.orc_world.proofs.Showings.{said_line}
use Rattle.orc_world.proofs.world.World.show.Goals as goal

pub returns : goal.returns
returns g c = λ decls granted seen is may.
    let here = run_setting g.D.Disk.disk decls c.args.self.now.scene.limit granted in
    said_line here (step.Show c.args.device) seen c.args.self.now.scene c.args.out.now c.say.new.out c.tree_text.result c.say.result
    (ShowsDevice c.args.self.now.scene c.args.device) c.tree_text.ensures c.say.ensures is refl
    (λ text shows printed. show_line here seen c.args.self.now.scene c.args.device c.args.out.now c.say.new.out text is c.requires.sound.1 shows printed)
