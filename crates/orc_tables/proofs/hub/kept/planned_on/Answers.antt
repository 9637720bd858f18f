use Rattle.std.proofs.Common.{◌≡◌, ◌≤◌, sym, subst}
use Rattle.std.specs.Prelude.{length, take}
use Rattle.orc_datastore.specs.Legal.{state_of}
use Rattle.orc_datastore.specs.Plans.{planned}
use Rattle.orc_state.specs.States.{state_at}
use Rattle.orc_tables.proofs.hub.kept.planned_on.Goals as goal

-- the snapshot is one of the state at its front
pub plan-requires-clause-state : goal.plan-requires-clause-state
plan-requires-clause-state c =
    let a = c.args in
    (state_at a.hub.now.decls a.hub.now.state.history a.snapshot.now.front, (c.requires.at.kept, c.requires.at.of))

pub returns-clause-front : goal.returns-clause-front
returns-clause-front c = subst (λ n. n ≤ length c.args.hub.now.state.history) (sym c.front.ensures) c.requires.at.front

-- it is planned on that state
pub returns-clause-plan : goal.returns-clause-plan
returns-clause-plan c =
    let a = c.args in
    let decls = a.hub.now.decls in
    let history = a.hub.now.state.history in
    subst (λ n. c.in_ok-plan.plan ≡ planned decls (state_of decls (take n history)) n a.call.now) (sym c.front.ensures)
    (c.in_ok-plan.ensures (state_at decls history a.snapshot.now.front) c.requires.at.kept c.requires.at.of)
