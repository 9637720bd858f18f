use Rattle.std.proofs.Common.{◌≡◌, ℕ, length, ap, subst, ◌∙◌}
use Rattle.std.specs.Prelude.{IfOk}
use Rattle.orc_datastore.specs.Snapshots.{IsSnapshotOf, Snapshot}
use Rattle.orc_state.specs.States.{State}
use Rattle.orc_state.proofs.Fronts.{taken_at}
use Rattle.orc_state.proofs.state.State.snapshot.Goals as goal

pub returns-clause-at : goal.returns-clause-at
returns-clause-at c = λ decls own.
    let taken = c.snapshot.result in
    taken_at decls c.args.self.now taken own
    (subst (λ (n : ℕ). IfOk taken (λ (snapshot : Snapshot). snapshot.front ≡ n)) (c.len.ensures ∙ ap (λ (s : State). length s.history) c.self.view_is)
    c.snapshot.ensures.front)
    (subst (λ (s : State). IfOk taken (IsSnapshotOf s.datastore)) c.self.view_is c.snapshot.ensures.state)
