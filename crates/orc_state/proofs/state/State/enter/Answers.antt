use Rattle.std.proofs.Common.{◌≡◌, List, [], ◌∷◌, ◌++◌, length, OnErr, OnOk, sym, ap, subst, ◌∙◌}
use Rattle.std.specs.declared.result.Result.TheVariants.{Ok}
use Rattle.orc_call.specs.declared.call.Action.{Action}
use Rattle.orc_datastore.specs.Next.{after, expanded_call}
use Rattle.orc_state.specs.States.{State}
use Rattle.std.specs.Prelude.{unwrap_or}
use Rattle.orc_state.proofs.Committing.{comes_as_entered, entered, entry_last}
use Rattle.orc_state.proofs.state.State.enter.Goals as goal

pub perform-requires-clause-actions : goal.perform-requires-clause-actions
perform-requires-clause-actions c =
    let decls = c.args.decls.now in
    let call = c.args.call in
    let made = c.args.made in
    let entry = c.index-as_slice-place.result in
    let actions = c.made_or_own-actions.result.now in
    let grown : c.push.new.self ≡ c.args.self.now.history ++ call ∷ [] =
    c.in_ok-push.ensures.ok ∙ ap (λ (s : State). s.history ++ call ∷ []) c.self.view_is in
    let same : entry ≡ call =
    entry_last c.as_slice.result.now c.args.self.now.history call entry c.len-place.result (c.as_slice.ensures ∙ grown)
    (c.len-place.ensures ∙ ap (λ (s : State). length s.history) c.self.view_is) c.index-as_slice-place.is in
    subst (λ (s : State). expanded_call decls s.datastore entry ≡ Ok actions) (sym c.self.view_is)
    (comes_as_entered decls c.args.self.now.datastore call entry made actions same c.requires.actions
    (c.made_or_own-actions.ensures ∙ ap (λ (l : List Action). unwrap_or made l) c.as_slice-2.ensures))

pub returns : goal.returns
returns c =
    let decls = c.args.decls.now in
    let call = c.args.call in
    let entry = c.index-as_slice-place.result in
    let grown : c.push.new.self ≡ c.args.self.now.history ++ call ∷ [] =
    c.in_ok-push.ensures.ok ∙ ap (λ (s : State). s.history ++ call ∷ []) c.self.view_is in
    let longer : c.push-2.new.self ≡ c.args.self.now.writes ++ c.args.row ∷ [] =
    c.in_ok-push-2.ensures.ok ∙ ap (λ (s : State). s.writes ++ c.args.row ∷ []) c.self.view_is in
    let same : entry ≡ call =
    entry_last c.as_slice.result.now c.args.self.now.history call entry c.len-place.result (c.as_slice.ensures ∙ grown)
    (c.len-place.ensures ∙ ap (λ (s : State). length s.history) c.self.view_is) c.index-as_slice-place.is in
    entered decls c.args.self.now call entry c.args.row c.perform.result c.perform.new.self c.push.new.self c.push-2.new.self grown longer c.requires.count same
    (subst (λ (s : State). OnOk c.perform.result (c.perform.new.self ≡ after decls s.datastore entry)) c.self.view_is c.perform.ensures.done)
    (subst (λ (s : State). OnErr c.perform.result (c.perform.new.self ≡ s.datastore)) c.self.view_is c.perform.ensures.still)
    c.perform.ensures.kept
