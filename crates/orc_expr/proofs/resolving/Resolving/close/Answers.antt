use Rattle.std.proofs.Common.{ap, ◌∙◌}
use Rattle.orc_expr.specs.Resolved.{naming}
use Rattle.orc_expr.proofs.Resolves.{trail_closed_is}
use Rattle.orc_expr.proofs.resolving.Resolving.close.Goals as goal

pub returns-in_ok-self-in-Some : goal.returns-in_ok-self-in-Some
returns-in_ok-self-in-Some g c =
    let s = (g.V.DataView.viewed c.args.view.now).shapes in
    let here = c.args.here.now in
    let last = c.in-Some.pending in
    trail_closed_is s here c.args.self.now.outer.items c.pop.new.self.items last c.args.self.now.now c.in_ok-self-in-Some.field-0 c.in-Some.ensures.items
    (c.in_ok-self-in-Some.ensures ∙ ap (naming last.front last.key) c.in_ok-term-in-Some.ensures)
