use Rattle.orc_scene.specs.Stands.{decls_in}
use Rattle.orc_scene.proofs.Concluding.{answer_said}
use Rattle.orc_scene.proofs.scene.Scene.submitted.Goals as goal

pub returns-clause-state : goal.returns-clause-state
returns-clause-state g c = c.keep.ensures.kept

pub returns-clause-said : goal.returns-clause-said
returns-clause-said g c =
    answer_said (decls_in c.args.self.now.place) c.args.kept.caller c.args.kept.number c.args.said c.args.out.now c.say.new.out c.answer_line-line.result
    c.answer_line-line.ensures c.say.result c.say.ensures
