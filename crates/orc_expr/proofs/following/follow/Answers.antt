use Rattle.std.proofs.Common.{◌+◌, ◌∷◌, drop, sym, ap, ◌∙◌}
use Rattle.std.proofs.lemmas.List.{at_drop_more, at_drop_all}
use Rattle.orc_expr.specs.inside.Following.{Way, way_of, way_on}
use Rattle.orc_expr.specs.declared.expr.Part.{Part}
use Rattle.orc_expr.proofs.Followed.{follows}
use Rattle.orc_expr.proofs.following.follow.Goals as goal

pub loop-part-preserved : goal.loop-part-preserved
loop-part-preserved g c =
    let l = c.loop-part in
    let v = g.V.DataView.viewed c.args.view.now in
    let here = c.args.here.now in
    let parts = c.args.parts.now in
    ap (λ (w : Way). way_on v here w (drop (l.part-index + 1) parts)) c.in_ok-take.ensures
    ∙ ap (λ (p : Part). way_on v here (way_of l.following) (p ∷ drop (l.part-index + 1) parts)) c.part-item.is
    ∙ sym (at_drop_more (way_on v here (way_of l.following)) parts l.part-index _ c.loop-part-test.true) ∙ l.invariant

pub returns : goal.returns
returns g c =
    let l = c.loop-part in
    let v = g.V.DataView.viewed c.args.view.now in
    let here = c.args.here.now in
    let parts = c.args.parts.now in
    ap (λ (w : Way). w.now) (sym (at_drop_all (way_on v here (way_of l.following)) parts l.part-index c.loop-part-test.false) ∙ l.invariant)
    ∙ follows v here parts
