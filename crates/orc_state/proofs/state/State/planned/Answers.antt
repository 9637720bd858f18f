use Rattle.orc_state.proofs.state.State.planned.Goals as goal

-- the snapshot is one of the present state
pub plan-requires-clause-state : goal.plan-requires-clause-state
plan-requires-clause-state c = (c.args.self.now.datastore, (c.requires.state.kept, c.in_ok-snapshot.ensures.state))
