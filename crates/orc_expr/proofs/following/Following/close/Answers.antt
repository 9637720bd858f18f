use Rattle.std.proofs.Common.{ap, ◌∙◌}
use Rattle.orc_expr.specs.Looks.{ask, texts_at}
use Rattle.orc_expr.proofs.Followed.{way_closed_is}
use Rattle.orc_expr.proofs.following.Following.close.Goals as goal

pub returns-in_ok-self-in-Some : goal.returns-in_ok-self-in-Some
returns-in_ok-self-in-Some g c =
    let v = g.V.DataView.viewed c.args.view.now in
    let here = c.args.here.now in
    let last = c.in-Some.waiting in
    way_closed_is v here c.args.self.now.outer.items c.pop.new.self.items last c.args.self.now.now c.in_ok-self-in-Some.field-0 c.in-Some.ensures.items
    (c.in_ok-self-in-Some.ensures ∙ ap (ask last.front last.key) (c.in_ok-given-in-Some.ensures ∙ ap (texts_at v here) c.replace-term.ensures.value))
