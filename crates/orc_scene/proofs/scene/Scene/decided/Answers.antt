use Rattle.orc_scene.specs.Stands.{decls_in}
use Rattle.orc_scene.proofs.Concluding.{concluded}
use Rattle.orc_scene.proofs.scene.Scene.decided.Goals as goal

pub returns : goal.returns
returns g c =
    concluded (decls_in c.args.self.now.place) c.args.caller c.args.number c.args.said c.args.out.now c.conclude.new.out c.args.self.now c.conclude.new.self _ c.answer_line-line.result
    c.answer_line-line.ensures c.conclude.result c.conclude.ensures
