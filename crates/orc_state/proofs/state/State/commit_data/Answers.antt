use Rattle.std.proofs.Common.{◌≡◌, List, ap, subst, sym, ◌∙◌}
use Rattle.std.specs.declared.result.Result.TheVariants.{Ok}
use Rattle.orc_datastore.specs.Next.{expanded_call}
use Rattle.orc_datastore.specs.Plans.{call_held}
use Rattle.orc_datastore.specs.States.{Datastore}
use Rattle.orc_call.specs.declared.call.Action.{Action}
use Rattle.orc_state.specs.States.{State}
use Rattle.std.specs.Prelude.{unwrap_or}
use Rattle.orc_state.proofs.Checking.{comes_to, made_is}
use Rattle.orc_state.proofs.state.State.commit_data.Goals as goal

pub commit_made-requires-clause-actions : goal.commit_made-requires-clause-actions
commit_made-requires-clause-actions c =
    let decls = c.args.decls.now in
    let call = c.args.call in
    let plan = c.args.plan.now in
    let made = c.in_ok-made.made in
    let comes = unwrap_or made call.actions in
    subst (λ (s : Datastore). expanded_call decls s call ≡ Ok comes) (sym c.requires.state.datastore)
    (comes_to decls c.args.self.now.history call plan c.plan_is_enough.ensures c.requires.decls c.requires.ready.stands comes
    (ap (λ (l : List Action). unwrap_or made l) (sym c.as_slice-own.ensures) ∙ c.in_ok-made.ensures
    ∙ made_is c.names-names.result.now decls.names c.as_slice-own.result.now call.actions c.as_slice.result.now plan.expansions
    c.names-names.ensures.names c.as_slice-own.ensures c.as_slice.ensures))

pub writes-requires-clause-held : goal.writes-requires-clause-held
writes-requires-clause-held c =
    subst (λ (s : State). call_held c.args.decls.now s.datastore c.args.call ≡ c.args.plan.now.held) (sym c.self.view_is)
    (subst (λ (s : Datastore). call_held c.args.decls.now s c.args.call ≡ c.args.plan.now.held) (sym c.requires.state.datastore) c.requires.ready.stands.held)
