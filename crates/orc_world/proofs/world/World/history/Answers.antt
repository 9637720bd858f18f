use Rattle.std.proofs.Common.{refl}
use Rattle.orc_script.specs.declared.step.ScriptStep.TheVariants as step
use Rattle.std.specs.Prelude.{◌≡◌, MatchOption, codes}
use Rattle.orc_print.specs.Printed.{history_text}
use Rattle.orc_scene.specs.Effects.{hub_in}
use Rattle.orc_scene.specs.Stands.{run_setting}
use Rattle.orc_world.proofs.Showings.{history_line}
use Rattle.orc_world.proofs.Showings.{said_line}
use Rattle.orc_world.proofs.world.World.history.Goals as goal

pub returns : goal.returns
returns g c = λ decls granted seen is may.
    let here = run_setting g.D.Disk.disk decls c.args.self.now.scene.limit granted in
    said_line here (step.History) seen c.args.self.now.scene c.args.out.now c.say.new.out c.history_text.result c.say.result
    (λ text. MatchOption (hub_in c.args.self.now.scene.place) (text ≡ codes "down\n") (λ hub. text ≡ history_text hub.state.history)) c.history_text.ensures c.say.ensures is refl
    (λ text shows printed. history_line here seen c.args.self.now.scene c.args.out.now c.say.new.out text is c.requires.sound.1 shows printed)
