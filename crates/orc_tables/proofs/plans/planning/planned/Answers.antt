use Rattle.orc_state.specs.States.{state_at}
use Rattle.orc_tables.proofs.Benching.{plan_at}
use Rattle.orc_tables.proofs.plans.planning.planned.Goals as goal

-- the snapshot is one of the state at its front
pub plan-requires-clause-state : goal.plan-requires-clause-state
plan-requires-clause-state c =
    (state_at c.args.decls.now c.args.state.now.history c.args.snapshot.now.front, (c.requires.snapshot.kept, c.requires.snapshot.of))

pub returns : goal.returns
returns c =
    let snapshot = c.args.snapshot.now in
    let history = c.args.state.now.history in
    plan_at c.args.decls.now history snapshot.front c.args.call.now c.plan.result c.plan_is_at_front.ensures c.requires.snapshot.front
    (c.plan.ensures (state_at c.args.decls.now history snapshot.front) c.requires.snapshot.kept c.requires.snapshot.of)
