-- The state of the orchestrator with its history.
use Rattle.std.specs.Prelude.{◌≡◌, ℕ, ◌≤◌, List, take, length}
use Rattle.std.specs.declared.result.Result.TheVariants.{Ok}
use Rattle.orc_path.specs.declared.item.Write.{Write}
use Rattle.orc_call.specs.declared.call.Call.{Call}
use Rattle.orc_datastore.specs.Legal.{IsLegal, state_of}
use Rattle.orc_datastore.specs.Next.{IsStateOf}
use Rattle.orc_datastore.specs.Plans.{planned}
use Rattle.orc_datastore.specs.Snapshots.{IsSnapshotOf, Snapshot}
use Rattle.orc_datastore.specs.States.{Datastore, opening}
use Rattle.orc_decls.specs.declared.declarations.Decls.{Decls}
use Rattle.orc_datastore.specs.declared.plan.Plan.{Plan}
use Rattle.orc_state.specs.Writes.{AreWritesAlong}

-- the data, the bases of the devices and the living services; the committed calls, in order, which are the entries of
-- the history; and what each of these wrote
pub record State : Type 0 where
  pub datastore : Datastore
  pub history : List Call
  pub writes : List (List Write)

-- The history is legal, the datastore is the one that it makes, and what each entry wrote is kept.
pub record IsStateUnder (decls : Decls) (state : State) : Type 0 where
  pub legal : IsLegal decls state.history
  pub datastore : state.datastore ≡ state_of decls state.history
  pub kept : IsStateOf decls state.datastore
  pub writes : AreWritesAlong decls (opening decls) state.history state.writes

-- the datastore after so many entries of a history
abbrev pub state_at : Decls → List Call → ℕ → Datastore
state_at decls history front = state_of decls (take front history)

-- the plan is the one that a call has at the plan's front, which is a front of this history
pub record IsPlanAt (decls : Decls) (history : List Call) (call : Call) (plan : Plan) : Type 0 where
  pub front : plan.front ≤ length history
  pub planned : planned decls (state_at decls history plan.front) plan.front call ≡ Ok plan

-- the snapshot is one of the state as it was at the snapshot's front, which is a front of this history
pub record IsSnapshotAt (decls : Decls) (history : List Call) (snapshot : Snapshot) : Type 0 where
  pub front : snapshot.front ≤ length history
  pub kept : IsStateOf decls (state_at decls history snapshot.front)
  pub of : IsSnapshotOf (state_at decls history snapshot.front) snapshot
