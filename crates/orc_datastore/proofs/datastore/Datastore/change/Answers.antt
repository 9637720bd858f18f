use Rattle.std.proofs.Common.{rules, ◌≡◌, ℕ, List, map, sym, ap, ◌∙◌}
use Rattle.std.specs.declared.result.Result.TheVariants.{Ok, Err}
use Rattle.orc_datastore.specs.States.{Datastore}
use Rattle.orc_datastore.specs.inside.Turns.{turn_id}
use Rattle.orc_datastore.specs.inside.Keeping.{placed}
use Rattle.orc_datastore.proofs.Changing.{Course, course-fresh, course-open, done-after, done-kept, done-unrefused, found-none, refused-is}
use Rattle.orc_datastore.proofs.Devices.{untouched-stays}
use Rattle.orc_datastore.specs.inside.Sights.{known_behind}
use Rattle.orc_datastore.specs.declared.service.Service.{Service}
use Rattle.orc_datastore.proofs.Entering.{comer_keys, comers_few, turn_keys}
use Rattle.orc_datastore.proofs.Residents.{knows_behind}
use Rattle.orc_datastore.proofs.datastore.Datastore.change.Goals as goal

pub stores_behind-requires-clause-stays : goal.stores_behind-requires-clause-stays
stores_behind-requires-clause-stays c =
    let course : Course c.args.self.now c.args.decls.now.names c.args.actions.now c.self.inside.live c.self.inside.stores =
    record { first = c.self.inside.data; view = c.self.view_is; kept = c.self.invariant.0; bases = c.requires.bases; once = c.requires.once } in
    λ device lt off.
    untouched-stays c.args.decls.now.names c.args.self.now c.args.actions.now c.self.inside.live c.as_slice-2.result.now device
    (ap (λ (z : Datastore). z.live) c.self.view_is) (c.as_slice-2.ensures ∙ c.in_ok-touched.ensures)
    (course-open c.args.self.now c.args.decls.now.names c.args.actions.now c.self.inside.live c.self.inside.stores course c.names_differ.ensures)
    lt off

pub exchange-requires : goal.exchange-requires
exchange-requires c =
    let course : Course c.args.self.now c.args.decls.now.names c.args.actions.now c.self.inside.live c.self.inside.stores =
    record { first = c.self.inside.data; view = c.self.view_is; kept = c.self.invariant.0; bases = c.requires.bases; once = c.requires.once } in
    course-fresh c.args.self.now c.args.decls.now.names c.args.actions.now c.self.inside.live c.self.inside.stores course
    c.in_ok-turns.turns.items c.as_slice-in-Ok-4.result.now c.in_ok-services-in-Ok.services.items c.in_ok-turns.ensures
    (c.as_slice-in-Ok-4.ensures.value ∙ c.in_ok-ids-in-Ok.ensures ∙ ap (map turn_id) c.as_slice-in-Ok.ensures.value) c.in_ok-services-in-Ok.ensures

pub invariant_of-self-in-Ok-1 : goal.invariant_of-self-in-Ok-1
invariant_of-self-in-Ok-1 c =
    let course : Course c.args.self.now c.args.decls.now.names c.args.actions.now c.self.inside.live c.self.inside.stores =
    record { first = c.self.inside.data; view = c.self.view_is; kept = c.self.invariant.0; bases = c.requires.bases; once = c.requires.once } in
    let is : c.in_ok-found.found ≡ Ok c.in-Ok.changes = search rules in
    let put : c.from_vec.result ≡ placed c.self.inside.stores c.in-Ok.changes = search rules in (
      done-kept c.args.self.now c.args.decls.now.names c.args.actions.now c.self.inside.live c.self.inside.stores course
          c.from_vec.result c.in-Ok.changes c.in_ok-turns.turns.items c.as_slice-in-Ok-4.result.now c.in_ok-services-in-Ok.services.items c.exchange.new.self
          (found-none c.args.self.now c.args.decls.now.names c.args.actions.now c.self.inside.live c.self.inside.stores course c.as_slice-3.result.now c.in-Ok.changes c.in_ok-found.found
          c.in_ok-found.ensures c.as_slice-3.ensures is)
          c.in_ok-turns.ensures (c.as_slice-in-Ok-4.ensures.value ∙ c.in_ok-ids-in-Ok.ensures ∙ ap (map turn_id) c.as_slice-in-Ok.ensures.value) c.in_ok-services-in-Ok.ensures
          c.in_ok-exchange-in-Ok.ensures.ok put,
      knows_behind c.self.inside.live c.exchange.new.self c.self.inside.known c.in_ok-known-in-Ok.known c.as_slice-in-Ok-4.result.now c.in_ok-services-in-Ok.services.items
          (comers_few c.args.decls.now.names c.args.actions.now c.in_ok-turns.turns.items c.in_ok-turns.ensures c.requires.few c.in_ok-services-in-Ok.services.items c.in_ok-services-in-Ok.ensures)
          c.self.invariant.1 c.in_ok-exchange-in-Ok.ensures.ok
          (c.in_ok-known-in-Ok.ensures
          ∙ ap (λ (l : List (List ℕ)). known_behind c.self.inside.known l c.as_slice-in-Ok-3.result.now) (c.as_slice-in-Ok-2.ensures.value ∙ sym c.as_slice-in-Ok-4.ensures.value)
          ∙ ap (λ (l : List Service). known_behind c.self.inside.known c.as_slice-in-Ok-4.result.now l) c.as_slice-in-Ok-3.ensures.value),
    )

pub returns-in_ok-exchange-in-Ok-clause-clash : goal.returns-in_ok-exchange-in-Ok-clause-clash
returns-in_ok-exchange-in-Ok-clause-clash c =
    let course : Course c.args.self.now c.args.decls.now.names c.args.actions.now c.self.inside.live c.self.inside.stores =
    record { first = c.self.inside.data; view = c.self.view_is; kept = c.self.invariant.0; bases = c.requires.bases; once = c.requires.once } in
    let is : c.in_ok-found.found ≡ Ok c.in-Ok.changes = search rules in
    done-unrefused c.args.self.now c.args.decls.now.names c.args.actions.now c.self.inside.live c.self.inside.stores course c.in-Ok.changes
    (found-none c.args.self.now c.args.decls.now.names c.args.actions.now c.self.inside.live c.self.inside.stores course c.as_slice-3.result.now c.in-Ok.changes c.in_ok-found.found
    c.in_ok-found.ensures c.as_slice-3.ensures is)

pub returns-in_ok-exchange-in-Ok-clause-done : goal.returns-in_ok-exchange-in-Ok-clause-done
returns-in_ok-exchange-in-Ok-clause-done c =
    let course : Course c.args.self.now c.args.decls.now.names c.args.actions.now c.self.inside.live c.self.inside.stores =
    record { first = c.self.inside.data; view = c.self.view_is; kept = c.self.invariant.0; bases = c.requires.bases; once = c.requires.once } in
    let is : c.in_ok-found.found ≡ Ok c.in-Ok.changes = search rules in
    let put : c.from_vec.result ≡ placed c.self.inside.stores c.in-Ok.changes = search rules in
    λ ok.
    done-after c.args.self.now c.args.decls.now.names c.args.actions.now c.self.inside.live c.self.inside.stores course c.args.next_data
    c.from_vec.result c.in-Ok.changes c.in_ok-turns.turns.items c.as_slice-in-Ok-4.result.now c.in_ok-services-in-Ok.services.items c.exchange.new.self
    (found-none c.args.self.now c.args.decls.now.names c.args.actions.now c.self.inside.live c.self.inside.stores course c.as_slice-3.result.now c.in-Ok.changes c.in_ok-found.found
    c.in_ok-found.ensures c.as_slice-3.ensures is)
    c.in_ok-turns.ensures (c.as_slice-in-Ok-4.ensures.value ∙ c.in_ok-ids-in-Ok.ensures ∙ ap (map turn_id) c.as_slice-in-Ok.ensures.value) c.in_ok-services-in-Ok.ensures
    c.in_ok-exchange-in-Ok.ensures.ok put

pub returns-in-Err-clause-clash : goal.returns-in-Err-clause-clash
returns-in-Err-clause-clash c =
    let course : Course c.args.self.now c.args.decls.now.names c.args.actions.now c.self.inside.live c.self.inside.stores =
    record { first = c.self.inside.data; view = c.self.view_is; kept = c.self.invariant.0; bases = c.requires.bases; once = c.requires.once } in
    let is : c.in_ok-found.found ≡ Err c.in-Err.answer = search rules in
    refused-is c.args.self.now c.args.decls.now.names c.args.actions.now c.self.inside.live c.self.inside.stores course c.as_slice-3.result.now c.in_ok-found.found c.in-Err.answer c.in_ok-found.ensures is

pub known_behind-requires-clause-ids : goal.known_behind-requires-clause-ids
known_behind-requires-clause-ids c =
    turn_keys c.args.decls.now.names c.args.actions.now c.in_ok-turns.turns.items c.in_ok-turns.ensures c.requires.keys c.as_slice-in-Ok-2.result.now
    (c.as_slice-in-Ok-2.ensures.value ∙ c.in_ok-ids-in-Ok.ensures ∙ ap (map turn_id) c.as_slice-in-Ok.ensures.value)

pub known_behind-requires-clause-keys : goal.known_behind-requires-clause-keys
known_behind-requires-clause-keys c =
    comer_keys c.args.decls.now.names c.args.actions.now c.in_ok-turns.turns.items c.in_ok-turns.ensures c.requires.keys c.as_slice-in-Ok-3.result.now
    (c.as_slice-in-Ok-3.ensures.value ∙ c.in_ok-services-in-Ok.ensures)

pub known_behind-requires-clause-few : goal.known_behind-requires-clause-few
known_behind-requires-clause-few c =
    comers_few c.args.decls.now.names c.args.actions.now c.in_ok-turns.turns.items c.in_ok-turns.ensures c.requires.few c.as_slice-in-Ok-3.result.now
    (c.as_slice-in-Ok-3.ensures.value ∙ c.in_ok-services-in-Ok.ensures)
