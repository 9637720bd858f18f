use Rattle.std.proofs.Common.{length, refl, subst, arith}
use Rattle.std.specs.declared.result.Result.TheVariants.{Err}
use Rattle.orc_state.specs.Checks.{Checks}
use Rattle.orc_state.proofs.Fronts.{planned_now}
use Rattle.orc_state.proofs.Ready.{passed_is_due}
use Rattle.orc_state.proofs.Replaying.{unchecked}
use Rattle.orc_state.proofs.state.State.replay_planned.Goals as goal

-- it passed the check by a plan that was made on the present state
pub replay_checked-requires-clause-ready : goal.replay_checked-requires-clause-ready
replay_checked-requires-clause-ready c =
    let decls = c.args.decls.now in
    let history = c.args.self.now.history in
    let call = c.args.call.now in
    let plan = c.args.plan.now in
    c.passed_can_commit.ensures decls history call plan _
    (c.plan_is_at_front.ensures decls history (length history) call plan (omega arith)
    (planned_now decls c.args.self.now call plan c.requires.state c.requires.planned))
    (subst (Checks decls history call plan) c.in-Ok.is c.in_ok-check.ensures) c.requires.new

pub replay_checked-requires-clause-due : goal.replay_checked-requires-clause-due
replay_checked-requires-clause-due c =
    let history = c.args.self.now.history in
    let call = c.args.call.now in
    let plan = c.args.plan.now in
    passed_is_due c.args.decls.now history call plan _ (subst (Checks c.args.decls.now history call plan) c.in-Ok.is c.in_ok-check.ensures)
    c.requires.new

-- refused by the check
pub returns : goal.returns
returns c = (
  unchecked c.args.decls.now c.args.self.now c.requires.state c.args.call.now c.plan_refuses_first.ensures c.requires.new c.args.plan.now c.in-Err.answer
      (Err c.in-Err.answer) c.requires.planned
      (subst (Checks c.args.decls.now c.args.self.now.history c.args.call.now c.args.plan.now) c.in-Err.is c.in_ok-check.ensures) refl,
  refl,
)
