use Rattle.std.proofs.Common.{◌≡◌, ◌∙◌, ◌++◌, ◌∷◌, [], List, length, arith, sym, ap, subst, append_assoc}
use Rattle.std.specs.Vec.Iter.{into_iter_items}
use Rattle.orc_datastore.specs.inside.Placed.{HasNames, filled}
use Rattle.orc_datastore.specs.inside.Turns.{AreFresh}
use Rattle.orc_datastore.specs.declared.service.Service.{Service}
use Rattle.orc_datastore.proofs.Placed.{names_later}
use Rattle.orc_datastore.proofs.living.put_all.Goals as goal

pub loop-service-preserved : goal.loop-service-preserved
loop-service-preserved c =
    let l = c.loop-service in
    let service = c.in-Some.service in
    let later = into_iter_items c.next.new.self in
    let first : into_iter_items l.service-iterator ≡ service ∷ later = c.in-Some.ensures.steps.0 in
    let live = filled l.slots.items in
    record {
      noted = c.put_in.ensures.noted;
      fresh = subst (λ (l : List Service). AreFresh l later) (sym c.put_in.ensures.more) (subst (AreFresh live) first l.invariant.fresh).1;
      room = omega (arith, ap (λ (l : List Service). length l) first, l.invariant.room, c.put_in.ensures.room.len, c.put_in.ensures.room.room);
      names = names_later l.places c.put_in.new.places service later c.put_in.ensures.names (subst (HasNames l.places) first l.invariant.names);
      more =
          ap (λ (l : List Service). l ++ later) c.put_in.ensures.more ∙ append_assoc live (service ∷ []) later
          ∙ ap (λ (l : List Service). live ++ l) (sym first) ∙ l.invariant.more;
    }
