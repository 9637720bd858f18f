use Rattle.std.proofs.Common.{◌≡◌, None, Some, ap, subst, refl, sym, ◌∙◌}
use Rattle.std.specs.declared.result.Result.TheVariants.{Ok}
use Rattle.orc_datastore.specs.Next.{IsStateOf, after}
use Rattle.orc_datastore.proofs.Comes.{come_fit, come_keys, come_once, come_unrefused, went_after}
use Rattle.orc_datastore.proofs.Kept.{after-kept}
use Rattle.orc_datastore.proofs.datastore.Datastore.perform.Goals as goal

pub change-requires-clause-fit : goal.change-requires-clause-fit
change-requires-clause-fit c =
    come_fit c.args.decls.now c.args.call.now c.requires.call c.args.self.now c.args.actions.now c.requires.actions c.requires.decls c.written_is_typed.ensures

pub change-requires-clause-once : goal.change-requires-clause-once
change-requires-clause-once c = come_once c.args.decls.now c.args.call.now c.requires.call c.args.self.now c.args.actions.now c.requires.actions

pub change-requires-clause-keys : goal.change-requires-clause-keys
change-requires-clause-keys c = come_keys c.args.decls.now c.args.call.now c.requires.call c.args.self.now c.args.actions.now c.requires.actions

pub unreachable-requires : goal.unreachable-requires
unreachable-requires c =
    let not_so : Some c.in-Some.field-0 ≡ None =
    sym c.in-Some.is ∙ c.in_ok-change.ensures.clash ∙ c.requires.apart in
    absurd cc

pub returns-clause-done : goal.returns-clause-done
returns-clause-done c =
    went_after c.args.decls.now c.args.call.now c.requires.call c.args.self.now c.args.actions.now c.requires.actions c.args.next c.args.decls.now.names
    c.change.new.self c.requires.behind refl (c.in_ok-change.ensures.done (ap (λ o. Ok o) c.in-None.is))

pub returns-clause-kept : goal.returns-clause-kept
returns-clause-kept c =
    let done : c.change.new.self ≡ after c.args.decls.now c.args.self.now c.args.call.now =
    went_after c.args.decls.now c.args.call.now c.requires.call c.args.self.now c.args.actions.now c.requires.actions c.args.next c.args.decls.now.names
    c.change.new.self c.requires.behind refl (c.in_ok-change.ensures.done (ap (λ o. Ok o) c.in-None.is)) in
    subst (IsStateOf c.args.decls.now) (sym done)
    (after-kept c.args.decls.now c.args.self.now c.args.call.now c.requires.state
    (come_unrefused c.args.decls.now c.args.call.now c.requires.call c.args.self.now c.args.actions.now c.requires.actions c.args.next c.requires.behind c.requires.apart))
