-- The program's state after a plan and a commit.
use Rattle.std.proofs.Common.{◌≡◌, ℕ, ◌≤◌, List, [], ◌∷◌, length, sym, subst}
use Rattle.std.specs.Prelude.{IfOk, Option}
use Rattle.std.specs.declared.result.Result.{Result}
use Rattle.std.specs.declared.result.Result.TheVariants.{Ok, Err}
use Rattle.orc_call.specs.declared.answer.Answer.{Answer}
use Rattle.orc_call.specs.declared.call.Call.{Call}
use Rattle.orc_queue.specs.declared.held.Held.{Held}
use Rattle.orc_decls.specs.declared.declarations.Decls.{Decls}
use Rattle.orc_datastore.specs.Plans.{planned}
use Rattle.orc_datastore.specs.Snapshots.{Snapshot}
use Rattle.orc_datastore.specs.declared.plan.Plan.{Plan}
use Rattle.orc_state.specs.Commits.{CommitsCall}
use Rattle.orc_state.specs.Laws.{PlanIsAtFront, SnapshotStaysAtFront}
use Rattle.orc_state.specs.States.{IsPlanAt, IsSnapshotAt, State, state_at}
use Rattle.orc_tables.specs.Benches.{IsBench}

-- what a snapshot at a front answers is a plan at that front
pub plan_at : {E : Type 0} (decls : Decls) (history : List Call) (front : ℕ) (call : Call) (result : Result (Result Plan Answer) E) → PlanIsAtFront
    → front ≤ length history → IfOk result (λ found. found ≡ planned decls (state_at decls history front) front call)
    → IfOk result (λ found. IfOk found (IsPlanAt decls history call))
plan_at decls history front call (Ok (Ok plan)) law within is = law decls history front call plan within (sym is)
plan_at decls history front call (Ok (Err answer)) law within is = tt
plan_at decls history front call (Err fault) law within is = tt

-- each snapshot stays one, whatever a commit came to
pub committed_bench : {E : Type 0} (decls : Decls) (old new : State) (first older newer : Snapshot) (held : Option Held) (call : Call)
    (result : Result (Result ℕ Answer) E) → SnapshotStaysAtFront → IsBench decls (record { state = old; first = first; older = older; newer = newer; held = held })
    → CommitsCall decls old call result new → IsBench decls (record { state = new; first = first; older = older; newer = newer; held = held })
committed_bench decls old new first older newer held call (Ok (Ok number)) law own done =
    let stays : (snapshot : Snapshot) → IsSnapshotAt decls old.history snapshot → IsSnapshotAt decls new.history snapshot =
    λ snapshot at. subst (λ (l : List Call). IsSnapshotAt decls l snapshot) (sym done.history) (law decls old.history (call ∷ []) snapshot at) in
    record { state = done.state; first = stays first own.first; older = stays older own.older; newer = stays newer own.newer }
committed_bench decls old new first older newer held call (Ok (Err answer)) law own done =
    subst (λ (s : State). IsBench decls (record { state = s; first = first; older = older; newer = newer; held = held })) (sym done.1) own
committed_bench decls old new first older newer held call (Err fault) law own done =
    subst (λ (s : State). IsBench decls (record { state = s; first = first; older = older; newer = newer; held = held })) (sym done) own
