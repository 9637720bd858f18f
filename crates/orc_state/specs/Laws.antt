-- What plans rest on while the history grows.
use Rattle.std.specs.Prelude.{◌≡◌, ℕ, ◌≤◌, List, ◌++◌, length, IfOk, Result}
use Rattle.std.specs.declared.result.Result.TheVariants.{Ok}
use Rattle.orc_path.specs.declared.item.Write.{Write}
use Rattle.orc_call.specs.declared.answer.Answer.{Answer}
use Rattle.orc_call.specs.declared.call.Call.{Call}
use Rattle.orc_tree.specs.declared.change.ChangeSet.{ChangeSet}
use Rattle.orc_datastore.specs.Legal.{IsNew}
use Rattle.orc_datastore.specs.Plans.{planned}
use Rattle.orc_decls.specs.declared.declarations.Decls.{Decls}
use Rattle.orc_datastore.specs.declared.plan.Plan.{Plan}
use Rattle.orc_state.specs.Checks.{Checks, IsConflict, CanCommit, IsUnread}
use Rattle.orc_datastore.specs.Snapshots.{Snapshot}
use Rattle.orc_state.specs.States.{IsPlanAt, IsSnapshotAt, state_at}

-- A snapshot at a front of a history is one at that front, whatever is committed.
abbrev pub SnapshotStaysAtFront : Type 0
SnapshotStaysAtFront =
    (decls : Decls) (history more : List Call) (snapshot : Snapshot) → IsSnapshotAt decls history snapshot
    → IsSnapshotAt decls (history ++ more) snapshot

-- What is planned at a front of a history is a plan at that front.
abbrev pub PlanIsAtFront : Type 0
PlanIsAtFront =
    (decls : Decls) (history : List Call) (front : ℕ) (call : Call) (plan : Plan) → front ≤ length history
    → planned decls (state_at decls history front) front call ≡ Ok plan → IsPlanAt decls history call plan

-- And it stays one, whatever is committed.
abbrev pub PlanStaysAtFront : Type 0
PlanStaysAtFront =
    (decls : Decls) (history more : List Call) (call : Call) (plan : Plan) → IsPlanAt decls history call plan
    → IsPlanAt decls (history ++ more) call plan

-- An entry that wrote what a plan read, and none that did, exclude one another; and the first such entry is one.
abbrev pub ConflictIsOne : Type 0
ConflictIsOne =
    (decls : Decls) (history : List Call) (plan : Plan) (place : ℕ) (write : Write)
    → IsConflict decls history plan place write
    → (IsUnread decls history plan → ⊥)
    × ((other : ℕ) (another : Write) → IsConflict decls history plan other another → place ≡ other)

-- A new call that passes the check by its plan may be committed by that.
abbrev pub PassedCanCommit : Type 0
PassedCanCommit =
    (decls : Decls) (history : List Call) (call : Call) (plan : Plan)
    (answer : Result (List (ℕ × ChangeSet)) Answer)
    → IsPlanAt decls history call plan → Checks decls history call plan answer → IsNew history call
    → IfOk answer (λ sets. CanCommit decls history call plan)
