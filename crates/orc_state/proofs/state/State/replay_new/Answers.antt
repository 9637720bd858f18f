use Rattle.std.proofs.Common.{length, refl, sym, ◌∙◌}
use Rattle.orc_state.proofs.Replaying.{unplanned}
use Rattle.orc_state.proofs.state.State.replay_new.Goals as goal

-- it has no plan
pub returns-in-Err : goal.returns-in-Err
returns-in-Err c = (
  unplanned c.args.decls.now c.args.self.now c.requires.state c.args.call.now c.plan_refuses_first.ensures c.requires.new (length c.args.self.now.history) c.in-Err.answer
      (sym c.in_ok-plan.ensures ∙ c.in-Err.is),
  refl,
)
