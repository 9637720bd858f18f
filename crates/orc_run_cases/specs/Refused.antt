-- Wrong runs that the definitions refuse. Each is a law over all networks on a disk.
use Rattle.std.specs.Prelude.{◌≡◌, ◌≢◌, ◌⊎◌, ℕ, ◌+◌, nat_lt, Bool, true, false, Option, Some, None, List, [], ◌∷◌, ◌++◌, Contains, slice_get, length, Ok}
use Rattle.orc_call.specs.declared.answer.Answer.TheVariants as answer
use Rattle.orc_call.specs.declared.answer.RecFault.{RecFault}
use Rattle.orc_call.specs.declared.answer.Why.{Why}
use Rattle.orc_call.specs.declared.call.Call.{Call}
use Rattle.orc_datastore.specs.Legal.{IsSame, state_of}
use Rattle.orc_datastore.specs.States.{tree_due}
use Rattle.orc_decls.specs.Declarations.{AreDecls}
use Rattle.orc_decls.specs.declared.declarations.Decls.{Decls}
use Rattle.orc_device.specs.Nodes.{DeviceKind}
use Rattle.orc_device.specs.declared.kind.OpKind.{OpKind}
use Rattle.orc_device.specs.declared.op.Op.TheVariants as op
use Rattle.orc_device.specs.declared.reply.Mark.{Mark}
use Rattle.orc_disk.specs.Meanings.{DiskMeaning}
use Rattle.orc_journal.specs.Journals.{IsGated}
use Rattle.orc_journal.specs.declared.entry.Entry.{Entry}
use Rattle.orc_journal.specs.declared.entry.Entry.TheVariants as entry
use Rattle.orc_rules.specs.Duties.{outcome_on}
use Rattle.orc_rules.specs.Events.{Comes, Turn}
use Rattle.orc_rules.specs.Hubs.{Hub, due_on}
use Rattle.orc_rules.specs.Journals.{entries_read, history_read}
use Rattle.orc_rules.specs.Laws.{setting}
use Rattle.orc_rules.specs.Network.{Noted}
use Rattle.orc_rules.specs.Told.{told_by}
use Rattle.orc_rules.specs.UnderHub.{IsOfHub}
use Rattle.orc_rules.specs.Worlds.{Setting, World}
use Rattle.orc_rules.specs.declared.duty.Duty.{Duty}
use Rattle.orc_rules.specs.declared.event.Event.TheVariants as event
use Rattle.orc_rules.specs.declared.transaction.Transaction.{Transaction}
use Rattle.orc_rules.specs.declared.transaction.Waiting.{Waiting}
use Rattle.orc_runs.specs.Runs.{IsDone, LineDone, Run, turns_of}
use Rattle.orc_runs.specs.Starts.{StartsRun}
use Rattle.orc_script.specs.declared.step.ScriptStep.{ScriptStep}
use Rattle.orc_script.specs.declared.step.ScriptStep.TheVariants as step
use Rattle.orc_worker.specs.declared.report.Outcome.{Outcome}
use Rattle.orc_worker.specs.declared.report.Outcome.TheVariants as outcome

-- what is asked

-- a law that holds of each network on the disk, whatever is declared and whatever devices accept
abbrev pub InEachNetwork : {D : Type 0} → DiskMeaning D → (Setting D → Type 0) → Type 0
InEachNetwork disk Law =
    (decls : Decls) (kinds : ℕ → DeviceKind) (limit : ℕ) (granted : Bool)
    → Law (setting disk decls kinds limit granted)

-- a law that holds of each turn of each run that begins as runs do, whatever is declared, over devices that work as the
-- hub's workers take them to
abbrev pub InEachRun : {D : Type 0} → DiskMeaning D → (Setting D → Turn D → Type 0) → Type 0
InEachRun {D} disk Law =
    (decls : Decls) (kinds : ℕ → DeviceKind) (limit : ℕ) (granted : Bool) (script : List ScriptStep)
    (first last : World D) (run : Run (setting disk decls kinds limit granted) script first last)
    → AreDecls decls → ((device : ℕ) → IsOfHub (kinds device))
    → StartsRun (setting disk decls kinds limit granted) first
    → (turn : Turn D) → Contains (turns_of run) turn → Law (setting disk decls kinds limit granted) turn

-- an outcome of preparing by which a transaction is given up: the device refused, ran out of memory or lost its link
abbrev pub is_hindrance : Outcome → Bool
is_hindrance (outcome.Refused tag) = true
is_hindrance (outcome.Lost count) = true
is_hindrance outcome.Short = true
is_hindrance other = false

-- the device has answered the preparing of the transaction, and neither refused, nor ran out of memory, nor lost its link
pub record IsPreparedFor (duties : List Duty) (t device : ℕ) : Type 0 where
  pub outcome : Outcome
  pub answered : outcome_on duties t device ≡ Some outcome
  pub well : is_hindrance outcome ≡ false

-- an active transaction has this number, and each of its devices is prepared for its decision
pub record IsReadyToCommit (hub : Hub) (t : ℕ) : Type 0 where
  pub it : Transaction
  pub place : ℕ
  pub active : slice_get hub.active place ≡ Some it
  pub number : it.t ≡ t
  pub ready : (device : ℕ) → Contains it.plan.held.devices device → IsPreparedFor hub.duties t device

-- a waiting call has this number, and none of its devices is stale
pub record WaitsInSync (hub : Hub) (t : ℕ) : Type 0 where
  pub it : Waiting
  pub place : ℕ
  pub waits : slice_get hub.waiting place ≡ Some it
  pub number : it.t ≡ t
  pub fresh : (device : ℕ) (cause : Why) → Contains it.plan.held.devices device
      → slice_get hub.stale device ≢ Some (Some cause)

-- an active transaction has this number, and each of its devices answered its CommitConfirmed well: it is prepared
pub record IsPrepared (hub : Hub) (t : ℕ) : Type 0 where
  pub it : Transaction
  pub place : ℕ
  pub active : slice_get hub.active place ≡ Some it
  pub number : it.t ≡ t
  pub prepared : (device : ℕ) → Contains it.plan.held.devices device
      → outcome_on hub.duties t device ≡ Some outcome.Prepared

-- an Intent of the journal, of which it has no Settled, names the device
abbrev pub IsNamed : List Entry → ℕ → Type 0
IsNamed entries device =
    (t : ℕ) × (noted : Noted Call) × ((told_by entries).intents t ≡ Some noted) × (noted.plan.names device ≡ true)

-- a reconciliation is under way
abbrev pub IsReconciling : Hub → Type 0
IsReconciling hub = (met : Option RecFault) × (hub.mends ≡ Some met)

-- the laws

module _ {D : Type 0} (here : Setting D) where
  -- a line of this kind is never done without a turn: it isn't passed over
  abbrev pub IsNotPassedOver : ScriptStep → Type 0
  IsNotPassedOver at = (line : LineDone D) → IsDone here false line → line.step ≡ at → line.turns ≢ []

  -- A `tick` is never passed over.
  abbrev pub TicksCome : Type 0
  TicksCome = (seconds : ℕ) → IsNotPassedOver (step.Tick seconds)

  -- A `restart` is never passed over.
  abbrev pub RestartsCome : Type 0
  RestartsCome = (device : ℕ) → IsNotPassedOver (step.Restart device)

  -- A `recover` is never passed over.
  abbrev pub RecoversCome : Type 0
  RecoversCome = IsNotPassedOver step.Recover

  -- A call is committed only once each of its devices has answered, and none of them has refused, run out of memory or
  -- lost its link.
  abbrev pub CommitsWhenReady : Type 0
  CommitsWhenReady = (turn : Turn D) (hub : Hub) (t number : ℕ) → Comes here turn → turn.before.hub ≡ Some hub
      → turn.seen ≡ Some (event.Decide t (answer.Committed number)) → IsReadyToCommit hub t

  -- A call is committed under the number that comes next.
  abbrev pub CommitsNext : Type 0
  CommitsNext = (turn : Turn D) (t number : ℕ) → Comes here turn
      → turn.seen ≡ Some (event.Decide t (answer.Committed number))
      → number ≡ length (history_read turn.before.journal) + 1

  -- A call is committed only once its Decide is synced, its gate open: whatever a crash leaves then has it.
  abbrev pub CommitsSynced : Type 0
  CommitsSynced = (turn : Turn D) (t number : ℕ) → Comes here turn
      → turn.seen ≡ Some (event.Decide t (answer.Committed number))
      → (turn.behind.journal.synced ≡ turn.before.journal.synced ++ entry.Decide t ∷ [])
      × ((file : List ℕ) → here.disk.may_leave turn.behind.journal.disk file
      → IsGated file here.decls.text (turn.before.journal.synced ++ entry.Decide t ∷ []))

  -- A call is admitted only where none of its devices is stale.
  abbrev pub AdmitsFresh : Type 0
  AdmitsFresh = (turn : Turn D) (hub : Hub) (t : ℕ) → Comes here turn → turn.before.hub ≡ Some hub
      → turn.seen ≡ Some (event.Admit t None) → WaitsInSync hub t

  -- A call is committed only where each of its devices answered its CommitConfirmed well.
  abbrev pub CommitsPrepared : Turn D → Type 0
  CommitsPrepared turn = (hub : Hub) (t number : ℕ) → turn.before.hub ≡ Some hub
      → turn.seen ≡ Some (event.Decide t (answer.Committed number)) → IsPrepared hub t

  -- No Cancel goes to a device for a transaction of which the journal has a Decide.
  abbrev pub CancelsUndecided : Turn D → Type 0
  CancelsUndecided turn = (hub : Hub) (device t count : ℕ) (kind : OpKind) (reply : Mark) → turn.before.hub ≡ Some hub
      → turn.meant ≡ event.Perform device kind reply count → due_on hub device ≡ Some (op.Cancel t)
      → Contains (entries_read turn.before.journal) (entry.Decide t) → ⊥

  -- A Confirm goes to a device only for a transaction of which a Decide is synced.
  abbrev pub ConfirmsSynced : Turn D → Type 0
  ConfirmsSynced turn = (hub : Hub) (device t count : ℕ) (kind : OpKind) (reply : Mark) → turn.before.hub ≡ Some hub
      → turn.meant ≡ event.Perform device kind reply count → due_on hub device ≡ Some (op.Confirm t)
      → Contains turn.before.journal.synced (entry.Decide t)

  -- What a device runs changes only where an Intent that isn't settled names it, or in a reconciliation.
  abbrev pub ChangesNamed : Turn D → Type 0
  ChangesNamed turn = (device : ℕ) → (turn.behind.nodes device).running ≢ (turn.before.nodes device).running
      → IsNamed (entries_read turn.before.journal) device
      ⊎ ((hub : Hub) × (turn.before.hub ≡ Some hub) × IsReconciling hub)

  -- A reconciliation answers Ok only where each device runs what is due.
  abbrev pub ReconcilesWhole : Turn D → Type 0
  ReconcilesWhole turn = (device : ℕ) → nat_lt device (length here.decls.names) ≡ true
      → (turn.behind.nodes device).running ≢ tree_due (state_of here.decls (history_read turn.behind.journal)) device
      → turn.seen ≢ Some (event.Reconcile (Some (Ok tt)))

  -- No two entries of the history have one caller and number.
  abbrev pub EntersOnce : Turn D → Type 0
  EntersOnce turn = (place other : ℕ) (call again : Call)
      → slice_get (history_read turn.behind.journal) place ≡ Some call
      → slice_get (history_read turn.behind.journal) other ≡ Some again → IsSame again call → place ≡ other

  -- What no turn of a run breaks.
  pub record FollowsDecisions (turn : Turn D) : Type 0 where
    pub commits : CommitsPrepared turn
    pub cancels : CancelsUndecided turn
    pub confirms : ConfirmsSynced turn
    pub changes : ChangesNamed turn
    pub reconciles : ReconcilesWhole turn
    pub enters : EntersOnce turn
