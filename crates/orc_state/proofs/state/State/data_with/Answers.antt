use Rattle.std.proofs.Common.{length, ap, subst, sym, ◌∙◌}
use Rattle.std.specs.Prelude.{IfOk}
use Rattle.std.specs.declared.result.Result.TheVariants.{Ok}
use Rattle.orc_path.specs.Configurations.{Config}
use Rattle.orc_datastore.specs.Next.{IsDataAfter}
use Rattle.orc_state.specs.States.{State}
use Rattle.orc_state.proofs.Fronts.{data_now}
use Rattle.orc_state.proofs.state.State.data_with.Goals as goal

-- nothing was committed since the plan's front
pub returns-then-plan-len : goal.returns-then-plan-len
returns-then-plan-len c =
    subst (λ (config : Config). IsDataAfter c.args.decls.now c.args.self.now.datastore c.args.call.now (Ok config)) (sym c.in_ok-copy.ensures.equal)
    (data_now c.args.decls.now c.args.self.now c.args.call.now c.args.plan.now c.requires.state c.requires.plan
    (c.if-plan-len.true ∙ c.len.ensures ∙ ap (λ (s : State). length s.history) c.self.view_is))

pub returns : goal.returns
returns c =
    subst (λ (s : State). IfOk c.data_after.result (IsDataAfter c.args.decls.now s.datastore c.args.call.now)) c.self.view_is
    c.data_after.ensures
