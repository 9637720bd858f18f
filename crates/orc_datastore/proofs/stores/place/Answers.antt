use Rattle.std.proofs.Common.{◌≡◌, ◌∙◌, ◌∷◌, [], List, ℕ, length, suc, slice_set, Some, None, rules, arith, sym, ap}
use Rattle.std.specs.Prelude.{Option}
use Rattle.std.proofs.lemmas.List.{length-set, nil_from_length}
use Rattle.std.specs.Iterator.Adapters.{enumerate_count, enumerate_source}
use Rattle.std.specs.Vec.Iter.{into_iter_items}
use Rattle.orc_refs.specs.Stores.{Store}
use Rattle.orc_datastore.proofs.Placing.{placed-none, placed-same, placed-set, placed_from}
use Rattle.orc_datastore.proofs.stores.place.Goals as goal

pub loop-device-preserved-in-Some-change : goal.loop-device-preserved-in-Some-change
loop-device-preserved-in-Some-change c =
    let l = c.loop-device in
    let n = enumerate_count l.device-iterator in
    let later = into_iter_items (enumerate_source c.next.new.self) in
    let steps = c.in-Some.ensures.steps in
    let next : enumerate_count c.next.new.self ≡ suc n = omega (arith, steps.2) in
    let first : into_iter_items (enumerate_source l.device-iterator) ≡ Some c.in-Some-change.store ∷ later =
    steps.0.0 ∙ ap (λ (o : Option Store). o ∷ later) c.in-Some-change.is in
    record {
      whole =
          ap (λ (n : ℕ). placed_from n (slice_set l.stores.items c.in-Some.device c.in-Some-change.store) later) next
          ∙ ap (λ (n' : ℕ). placed_from (suc n) (slice_set l.stores.items n' c.in-Some-change.store) later) steps.1
          ∙ placed-set n l.stores.items c.in-Some-change.store later
          ∙ ap (placed_from n l.stores.items) (sym first) ∙ l.invariant.whole;
      room =
          omega (
            arith,
            next,
            ap (λ (l : List (Option Store)). length l) first,
            l.invariant.room,
            length-set l.stores.items c.in-Some.device c.in-Some-change.store,
          );
    }

pub loop-device-preserved : goal.loop-device-preserved
loop-device-preserved c =
    let l = c.loop-device in
    let n = enumerate_count l.device-iterator in
    let later = into_iter_items (enumerate_source c.next.new.self) in
    let steps = c.in-Some.ensures.steps in
    let next : enumerate_count c.next.new.self ≡ suc n = omega (arith, steps.2) in
    let none : c.in-Some.change ≡ None = search rules in
    let first : into_iter_items (enumerate_source l.device-iterator) ≡ None ∷ later =
    steps.0.0 ∙ ap (λ (o : Option Store). o ∷ later) none in
    record {
      whole =
          ap (λ (n : ℕ). placed_from n l.stores.items later) next
          ∙ placed-same n l.stores.items later
          ∙ ap (placed_from n l.stores.items) (sym first) ∙ l.invariant.whole;
      room = omega (arith, next, ap (λ (l : List (Option Store)). length l) first, l.invariant.room);
    }

pub returns : goal.returns
returns c =
    let l = c.loop-device in
    let none : into_iter_items (enumerate_source l.device-iterator) ≡ [] =
    nil_from_length _ (omega (arith, c.in-None.ensures.steps.0.0, (enumerate_source l.device-iterator).rest.ok.0)) in
    sym (placed-none (enumerate_count l.device-iterator) l.stores.items)
    ∙ ap (placed_from (enumerate_count l.device-iterator) l.stores.items) (sym none) ∙ l.invariant.whole
