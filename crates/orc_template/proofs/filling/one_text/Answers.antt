use Rattle.std.proofs.Common.{Some, sym, ap, ◌∙◌}
use Rattle.orc_expr.specs.Parts.{expression_of}
use Rattle.orc_expr.specs.Looks.{texts_of}
use Rattle.orc_template.proofs.Handed.{does_one}
use Rattle.orc_template.proofs.filling.one_text.Goals as goal

pub returns-in-Ok : goal.returns-in-Ok
returns-in-Ok g c =
    let e = expression_of c.args.expr.now in
    let v = g.V.DataView.viewed c.args.view.now in
    does_one (texts_of e c.args.here.now v).found (texts_of e c.args.here.now v).reads c.args.reads.now.reads c.eval.new.reads.reads c.as_slice.result.now c.one_of.result
    (c.in-Ok.ensures.answer.0 ∙ ap Some (sym c.as_slice.ensures.value)) c.in-Ok.ensures.answer.1 c.one_of.ensures
