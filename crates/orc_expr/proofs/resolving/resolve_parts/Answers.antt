use Rattle.std.proofs.Common.{◌+◌, ◌∷◌, drop, sym, ap, ◌∙◌}
use Rattle.std.proofs.lemmas.List.{at_drop_more, at_drop_all}
use Rattle.orc_expr.specs.inside.Resolving.{Trail, trail_of, trail_on}
use Rattle.orc_expr.specs.declared.expr.Part.{Part}
use Rattle.orc_expr.proofs.Resolves.{resolves}
use Rattle.orc_expr.proofs.resolving.resolve_parts.Goals as goal

pub loop-part-preserved : goal.loop-part-preserved
loop-part-preserved g c =
    let l = c.loop-part in
    let s = (g.V.DataView.viewed c.args.view.now).shapes in
    let here = c.args.here.now in
    let parts = c.args.parts.now in
    ap (λ (w : Trail). trail_on s here w (drop (l.part-index + 1) parts)) c.in_ok-take.ensures
    ∙ ap (λ (p : Part). trail_on s here (trail_of l.resolving) (p ∷ drop (l.part-index + 1) parts)) c.part-item.is
    ∙ sym (at_drop_more (trail_on s here (trail_of l.resolving)) parts l.part-index _ c.loop-part-test.true) ∙ l.invariant

pub returns : goal.returns
returns g c =
    let l = c.loop-part in
    let s = (g.V.DataView.viewed c.args.view.now).shapes in
    let here = c.args.here.now in
    let parts = c.args.parts.now in
    ap (λ (w : Trail). w.now) (sym (at_drop_all (trail_on s here (trail_of l.resolving)) parts l.part-index c.loop-part-test.false) ∙ l.invariant)
    ∙ resolves s here parts
