use Rattle.std.proofs.Common.{length, sym, ◌∙◌}
use Rattle.std.specs.Prelude.{IsTrue, Some}
use Rattle.orc_print.specs.Printed.{is_end_among}
use Rattle.orc_scene.specs.Stands.{decls_in}
use Rattle.orc_scene.proofs.Finishing.{concluded, concluded_down}
use Rattle.orc_scene.proofs.Rowing.{some_there}
use Rattle.orc_scene.proofs.scene.Scene.mended.Goals as goal

pub returns-then-is_down : goal.returns-then-is_down
returns-then-is_down g c =
    concluded_down c.args.self.now c.give_up.new.self c.args.ended c.args.out.now c.give_up.new.out c.give_up.result
    (λ decls. IsTrue (is_end_among (length decls.names) (Some c.args.ended))) c.requires.named (sym c.is_down.ensures ∙ c.if-is_down.true)
    c.full_at.result c.full_at.ensures c.give_up.ensures

pub returns : goal.returns
returns g c =
    concluded c.args.self.now c.keep.new.self c.args.ended c.args.out.now c.say.new.out c.say.result c.reconciled-line.result c.names.result.now c.names.ensures
    (sym c.is_down.ensures ∙ c.if-is_down.false) c.keep.ensures.kept c.reconciled-line.ensures c.say.ensures

pub names-requires : goal.names-requires
names-requires g c = some_there (λ decls. IsTrue (is_end_among (length decls.names) (Some c.args.ended))) (decls_in c.args.self.now.place) c.requires.named
