use Rattle.std.proofs.Common.{◌≡◌, subst, sym, ◌∙◌}
use Rattle.std.specs.Prelude.{IfOk}
use Rattle.std.specs.declared.result.Result.TheVariants.{Ok}
use Rattle.orc_datastore.specs.Next.{expanded_call}
use Rattle.orc_datastore.specs.Sets.{AreSets}
use Rattle.orc_datastore.specs.States.{Datastore}
use Rattle.orc_state.specs.States.{State}
use Rattle.orc_state.proofs.Checking.{checked, comes_to, made_is, stands_here}
use Rattle.orc_state.proofs.state.State.check_stores.Goals as goal

pub change_sets-requires-clause-actions : goal.change_sets-requires-clause-actions
change_sets-requires-clause-actions c =
    let decls = c.args.decls.now in
    let history = c.args.self.now.history in
    let call = c.args.call.now in
    let plan = c.args.plan.now in
    subst (λ (s : State). expanded_call decls s.datastore call ≡ Ok c.made_or_own.result.now) (sym c.self.view_is)
    (subst (λ (s : Datastore). expanded_call decls s call ≡ Ok c.made_or_own.result.now) (sym c.requires.state.datastore)
    (comes_to decls history call plan c.plan_is_enough.ensures c.requires.decls
    (stands_here decls history call plan c.planned_stands.ensures c.unread_plan_stands.ensures c.requires.decls c.requires.plan c.requires.unread)
    c.made_or_own.result.now
    (c.made_or_own.ensures ∙ c.in_ok-made.ensures
    ∙ made_is c.names-names.result.now decls.names c.as_slice-own.result.now call.actions c.as_slice.result.now plan.expansions
    c.names-names.ensures.names c.as_slice-own.ensures c.as_slice.ensures)))

pub returns : goal.returns
returns c =
    let decls = c.args.decls.now in
    let history = c.args.self.now.history in
    let call = c.args.call.now in
    let plan = c.args.plan.now in
    checked decls history call plan c.args.self.now.datastore c.made_or_own.result.now c.change_sets.result c.requires.state.datastore c.requires.early c.requires.unread
    (stands_here decls history call plan c.planned_stands.ensures c.unread_plan_stands.ensures c.requires.decls c.requires.plan c.requires.unread)
    (subst (λ (s : Datastore). expanded_call decls s call ≡ Ok c.made_or_own.result.now) (sym c.requires.state.datastore)
    (comes_to decls history call plan c.plan_is_enough.ensures c.requires.decls
    (stands_here decls history call plan c.planned_stands.ensures c.unread_plan_stands.ensures c.requires.decls c.requires.plan c.requires.unread)
    c.made_or_own.result.now
    (c.made_or_own.ensures ∙ c.in_ok-made.ensures
    ∙ made_is c.names-names.result.now decls.names c.as_slice-own.result.now call.actions c.as_slice.result.now plan.expansions
    c.names-names.ensures.names c.as_slice-own.ensures c.as_slice.ensures)))
    (subst (λ (s : State). IfOk c.change_sets.result (AreSets decls.names c.made_or_own.result.now s.datastore)) c.self.view_is c.change_sets.ensures)
