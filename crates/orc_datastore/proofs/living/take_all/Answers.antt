use Rattle.std.proofs.Common.{◌≡◌, ℕ, ◌+◌, ◌∷◌, ◌++◌, [], List, take, sym, ap, ◌∙◌, arith}
use Rattle.std.proofs.lemmas.List.{take_more}
use Rattle.orc_datastore.specs.States.{others}
use Rattle.orc_datastore.specs.inside.Placed.{filled}
use Rattle.orc_datastore.specs.inside.Turns.{left_by}
use Rattle.orc_datastore.specs.declared.service.Service.{Service}
use Rattle.orc_datastore.proofs.Placed.{left_more}
use Rattle.orc_datastore.proofs.living.take_all.Goals as goal

pub loop-id-preserved : goal.loop-id-preserved
loop-id-preserved c =
    let l = c.loop-id in
    let live = filled c.args.slots.now.items in
    let front = take l.id-index c.args.ids.now in
    let more : take (l.id-index + 1) c.args.ids.now ≡ front ++ c.id-item.result ∷ [] =
    take_more c.args.ids.now l.id-index c.id-item.result c.loop-id-test.true ∙ ap (λ (id : List ℕ). front ++ id ∷ []) (sym c.id-item.is) in (
      c.take_out.ensures.noted,
      c.take_out.ensures.left ∙ ap (λ (s : List Service). others s c.id-item.result) l.invariant.1
          ∙ sym (ap (left_by live) more ∙ left_more live front c.id-item.result),
      record {
        len = c.take_out.ensures.room.len ∙ l.invariant.2.len;
        room = omega (arith, c.take_out.ensures.room.room, l.invariant.2.room);
      },
    )
