use Rattle.std.proofs.Common.{◌≡◌, ◌∙◌, ◌++◌, List, ap, subst, sym, arith}
use Rattle.std.specs.Prelude.{Option}
use Rattle.orc_datastore.specs.inside.Placed.{filled}
use Rattle.orc_datastore.specs.inside.Turns.{AreFresh, left_by}
use Rattle.orc_datastore.specs.declared.service.Service.{Service}
use Rattle.orc_datastore.proofs.living.Living.exchange.Goals as goal

pub put_all-requires-clause-fresh : goal.put_all-requires-clause-fresh
put_all-requires-clause-fresh c =
    let left : filled c.take_all.new.slots.items ≡ left_by c.args.self.now c.args.ids.now =
    c.take_all.ensures.left ∙ ap (λ (l : List (Option Service)). left_by (filled l) c.args.ids.now) c.make_room.ensures.items
    ∙ ap (λ (l : List Service). left_by l c.args.ids.now) c.self.view_is in
    subst (λ (l : List Service). AreFresh l c.args.services.items) (sym left) c.requires

pub put_all-requires-clause-room : goal.put_all-requires-clause-room
put_all-requires-clause-room c =
    let kept = c.take_all.ensures.room in
    omega (arith, c.in_ok-make_room.ensures.room, kept.len, kept.room)

pub returns-clause-ok : goal.returns-clause-ok
returns-clause-ok c =
    c.put_all.ensures.more ∙ ap (λ (l : List Service). l ++ c.args.services.items)
    (c.take_all.ensures.left ∙ ap (λ (l : List (Option Service)). left_by (filled l) c.args.ids.now) c.make_room.ensures.items
    ∙ ap (λ (l : List Service). left_by l c.args.ids.now) c.self.view_is)
