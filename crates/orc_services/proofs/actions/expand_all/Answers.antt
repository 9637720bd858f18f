use Rattle.std.proofs.Common.{◌≡◌, ◌+◌, List, ◌∷◌, drop, IfOk, IsTrue, sym, ap, subst, ◌∙◌}
use Rattle.std.specs.declared.result.Result.{Result}
use Rattle.std.proofs.lemmas.List.{at_drop_more, drop_all}
use Rattle.std.proofs.lemmas.List.Elements.{All-push}
use Rattle.orc_call.specs.declared.answer.Answer.{Answer}
use Rattle.orc_call.specs.declared.call.Action.{Action}
use Rattle.orc_services.specs.Fitting.{fits_action, FitActions}
use Rattle.orc_services.specs.Services.{serving}
use Rattle.orc_services.proofs.Turns.{Stands, expanded_more, expanded_stops, expanded_whole}
use Rattle.orc_services.proofs.actions.expand_all.Goals as goal

pub loop-action-preserved : goal.loop-action-preserved
loop-action-preserved c =
    let l = c.loop-action in
    let s = serving c.args.lists.now c.args.devices.now c.args.view.now in
    let all = c.args.actions.now in
    let later = drop (l.action-index + 1) all in
    let gives = c.in_ok-action.ensures.outcome in
    let left : drop l.action-index all ≡ c.action-item.result ∷ later =
    at_drop_more (λ (xs : List Action). xs) all l.action-index c.action-item.result c.loop-action-test.true
    ∙ ap (λ (x : Action). x ∷ later) (sym c.action-item.is) in (
      subst (λ (front : List Action). Stands s c.args.reads.now.reads all front c.expand_action.new.reads.reads later) (sym c.in_ok-push-in-Ok.ensures.ok)
          (expanded_more s c.args.reads.now.reads all l.expanded (drop l.action-index all) later l.reads.reads c.expand_action.new.reads.reads
          c.action-item.result c.in-Ok.action l.invariant.0 left (sym c.in-Ok.is ∙ gives.0) gives.1),
      subst FitActions (sym c.in_ok-push-in-Ok.ensures.ok)
          (All-push (λ (a : Action). IsTrue (fits_action a)) l.expanded c.in-Ok.action l.invariant.1
          (subst (λ (o : Result Action Answer). IfOk o (λ (a : Action). IsTrue (fits_action a))) c.in-Ok.is c.in_ok-action.ensures.fit)),
    )

pub returns-in-Err-clause-outcome : goal.returns-in-Err-clause-outcome
returns-in-Err-clause-outcome c =
    let l = c.loop-action in
    let all = c.args.actions.now in
    let later = drop (l.action-index + 1) all in
    let gives = c.in_ok-action.ensures.outcome in
    let left : drop l.action-index all ≡ c.action-item.result ∷ later =
    at_drop_more (λ (xs : List Action). xs) all l.action-index c.action-item.result c.loop-action-test.true
    ∙ ap (λ (x : Action). x ∷ later) (sym c.action-item.is) in
    expanded_stops (serving c.args.lists.now c.args.devices.now c.args.view.now) c.args.reads.now.reads all l.expanded (drop l.action-index all) later
    l.reads.reads c.expand_action.new.reads.reads c.action-item.result c.in-Err.answer l.invariant.0 left (sym c.in-Err.is ∙ gives.0) gives.1

pub returns-clause-outcome : goal.returns-clause-outcome
returns-clause-outcome c =
    let l = c.loop-action in
    expanded_whole (serving c.args.lists.now c.args.devices.now c.args.view.now) c.args.reads.now.reads c.args.actions.now l.expanded
    (drop l.action-index c.args.actions.now) l.reads.reads l.invariant.0 (drop_all l.action-index c.args.actions.now c.loop-action-test.false)
