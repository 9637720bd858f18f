-- The claim, for every script and however a run of it ends.
use Rattle.std.specs.Prelude.{[], All, ◌≡◌, ◌≢◌, ◌⊎◌, ℕ, true, false, Option, Some, None, List, ◌∷◌, ◌++◌, IsTrue, Bool, if◌then◌else◌, filter, take as front_of, Contains, nat_eq, nat_lt, slice_get, IfSome, length, ◌+◌, ◌≤◌}
use Rattle.std.specs.declared.result.Result.TheVariants as result
use Rattle.std.specs.List.{flat_map, fold, list_any}
use Rattle.orc_call.specs.declared.answer.Answer.{Answer}
use Rattle.orc_call.specs.declared.answer.Answer.TheVariants as answer
use Rattle.orc_call.specs.declared.answer.RecFault.{RecFault}
use Rattle.orc_call.specs.declared.answer.RecFault.TheVariants as fault
use Rattle.orc_call.specs.declared.answer.Tag.TheVariants as tag
use Rattle.orc_call.specs.declared.answer.Why.{Why}
use Rattle.orc_call.specs.declared.answer.Why.TheVariants as why
use Rattle.orc_call.specs.declared.call.Call.{Call}
use Rattle.orc_datastore.specs.Actions.{data_after}
use Rattle.orc_datastore.specs.Legal.{IsLegal, IsSame, state_of}
use Rattle.orc_datastore.specs.Next.{invalid}
use Rattle.orc_datastore.specs.Plans.{planned}
use Rattle.orc_datastore.specs.States.{tree_due}
use Rattle.orc_datastore.specs.declared.plan.Plan.{Plan}
use Rattle.orc_decls.specs.Devices.{is_same_text, name_of}
use Rattle.orc_decls.specs.declared.declarations.Decls.{Decls}
use Rattle.orc_device.specs.Nodes.{NodeState, kept_tree}
use Rattle.orc_device.specs.declared.kind.OpKind.{OpKind}
use Rattle.orc_device.specs.declared.kind.OpKind.TheVariants as kind
use Rattle.orc_device.specs.declared.op.Op.{Op}
use Rattle.orc_device.specs.declared.op.Op.TheVariants as op
use Rattle.orc_device.specs.declared.reply.Mark.{Mark}
use Rattle.orc_device.specs.declared.reply.Mark.TheVariants as mark
use Rattle.orc_io.specs.Counts.{Rose}
use Rattle.orc_journal.specs.Committed.{history_of}
use Rattle.orc_journal.specs.Journals.{IsDamaged, IsForeign, IsGated, IsNotJournal}
use Rattle.orc_journal.specs.Orders.{is_ordered}
use Rattle.orc_journal.specs.declared.entry.Entry.{Entry}
use Rattle.orc_path.specs.Configurations.{Config}
use Rattle.orc_recover.specs.Menders.{differences}
use Rattle.orc_print.specs.Printed.{tree_text}
use Rattle.orc_tree.specs.declared.change.ChangeSet.{ChangeSet}
use Rattle.orc_state.specs.Checks.{Checks, IsConflict}
use Rattle.orc_rules.specs.Acceptance.{AcceptsFronts}
use Rattle.orc_rules.specs.Admissions.{Passes}
use Rattle.orc_rules.specs.Asked.{open_of}
use Rattle.orc_rules.specs.Duties.{no_call_works}
use Rattle.orc_rules.specs.Events.{Turn}
use Rattle.orc_rules.specs.Facts.{pending_id}
use Rattle.orc_rules.specs.Fits.{first_stale}
use Rattle.orc_rules.specs.Hubs.{Hub, due_on, duty_on}
use Rattle.orc_rules.specs.Coming.{came_by}
use Rattle.orc_rules.specs.Journals.{Journal, entries_read, history_read}
use Rattle.orc_rules.specs.Network.{Noted}
use Rattle.orc_rules.specs.Told.{told_by}
use Rattle.orc_rules.specs.Turns.{turns_at_most}
use Rattle.orc_rules.specs.Worlds.{IsNumberedEntry, Setting, World, over}
use Rattle.orc_rules.specs.declared.event.Event.{Event}
use Rattle.orc_rules.specs.declared.event.Event.TheVariants as event
use Rattle.orc_rules.specs.declared.transaction.Transaction.{Transaction}
use Rattle.orc_rules.specs.declared.transaction.Waiting.{Waiting}
use Rattle.orc_runs.specs.Ends.{EndOfRun, IsEndedBy, is_refused_journal}
use Rattle.orc_runs.specs.Runs.{LineDone, Run, lines_in, turns_of}
use Rattle.orc_runs.specs.Scripts.{call_under}
use Rattle.orc_script.specs.declared.step.ScriptStep.{ScriptStep}
use Rattle.orc_script.specs.declared.step.ScriptStep.TheVariants as step

-- journals

-- the file is a journal of the declarations, with its ending gate, and this is its history, which is legal
pub record IsLegalJournal (decls : Decls) (file : List ℕ) (history : List Call) : Type 0 where
  pub entries : List Entry
  pub gated : IsGated file decls.text entries
  pub ordered : IsTrue (is_ordered entries)
  pub decided : history_of entries ≡ history
  pub legal : IsLegal decls history

-- The second history is the first, or has one call more, that of the transaction that this event decides, or was meant to
-- decide.
abbrev pub GrowsTo : {D : Type 0} → World D → Event → List Call → Type 0
GrowsTo world meant history = (history ≡ history_read world.journal)
    ⊎ ((t : ℕ) × (call : Call)
    × (meant ≡ event.Decide t (answer.Committed (length (history_read world.journal) + 1)))
    × (call_under world t ≡ Some call) × (history ≡ history_read world.journal ++ call ∷ []))

-- the second history goes on where the first ends
abbrev pub BeginsHistory : List Call → List Call → Type 0
BeginsHistory front history = (more : List Call) × (history ≡ front ++ more)

-- the file is the journal of a legal history that begins with these calls
abbrev pub HoldsHistoryFrom : Decls → List Call → List ℕ → Type 0
HoldsHistoryFrom decls calls file =
    (history : List Call) × IsLegalJournal decls file history × BeginsHistory calls history

-- the file is the journal of a legal history of which the call is the entry of this number
abbrev pub HoldsEntry : Decls → ℕ → Call → List ℕ → Type 0
HoldsEntry decls number call file =
    (history : List Call) × IsLegalJournal decls file history × IsNumberedEntry history number call

-- the bytes don't keep a journal of these declarations from being opened: they are one, and each entry may follow those
-- before it
pub record IsOpenable (decls : Decls) (file : List ℕ) : Type 0 where
  pub journal : IsNotJournal file → ⊥
  pub own : (place : ℕ) → IsForeign file decls.text place → ⊥
  pub undamaged : (place : ℕ) → IsDamaged file decls.text place → ⊥

-- calls

-- the first are some of the second, in the same order
pub data IsSubsequenceOf : List Call → List Call → Type 0 where
  none : IsSubsequenceOf [] []
  skip : (some calls : List Call) (call : Call) → IsSubsequenceOf some calls → IsSubsequenceOf some (calls ++ call ∷ [])
  take : (some calls : List Call) (call : Call) → IsSubsequenceOf some calls
      → IsSubsequenceOf (some ++ call ∷ []) (calls ++ call ∷ [])

-- the call that is submitted by an event, and not answered at once
abbrev pub queued_by : Option Event → List Call
queued_by (Some (event.Submit call front None)) = call ∷ []
queued_by other = []

-- the calls that were submitted and not answered at once, in their order
abbrev pub queued : {D : Type 0} → List (Turn D) → List Call
queued [] = []
queued (turn ∷ turns) = queued_by turn.seen ++ queued turns

-- the calls of these that are of this caller
abbrev pub calls_of : List ℕ → List Call → List Call
calls_of caller calls = filter (λ call. is_same_text call.caller caller) calls

-- this answer is given to this call, which was queued
abbrev pub IsAnsweredLater : {D : Type 0} → Turn D → Option Event → Call → Answer → Type 0
IsAnsweredLater turn (Some (event.Admit t given)) call said =
    (call_under turn.before t ≡ Some call) × (given ≡ Some said)
IsAnsweredLater turn (Some (event.Decide t given)) call said = (call_under turn.before t ≡ Some call) × (given ≡ said)
IsAnsweredLater turn other call said = ⊥

-- a call gets this answer, as it is submitted or later
abbrev pub IsAnswered : {D : Type 0} → Turn D → Option Event → Call → Answer → Type 0
IsAnswered turn (Some (event.Submit submitted front given)) call said = (submitted ≡ call) × (given ≡ Some said)
IsAnswered turn other call said = IsAnsweredLater turn other call said

-- this call, which was queued, is answered in a turn of these
abbrev pub HasAnswerIn : {D : Type 0} → List (Turn D) → Call → Type 0
HasAnswerIn {D} turns call =
    (turn : Turn D) × (said : Answer) × Contains turns turn × IsAnsweredLater turn turn.seen call said

-- after none of these turns the hub is down
abbrev pub StayUp : {D : Type 0} → List (Turn D) → Type 0
StayUp {D} turns = (turn : Turn D) → Contains turns turn → turn.behind.hub ≢ None

-- a turn of these is an operation of the device at which its link failed, and this is the number of that fault
abbrev pub HasFault : {D : Type 0} → List (Turn D) → ℕ → ℕ → Type 0
HasFault {D} turns device number = (turn : Turn D) × (kind : OpKind) × Contains turns turn
    × (turn.seen ≡ Some (event.Perform device kind mark.Fault number))

-- what is seen begins a reconciliation
abbrev pub begins_again : Option Event → Bool
begins_again (Some (event.Reconcile None)) = true
begins_again other = false

-- those of these turns that came since a reconciliation began last
abbrev pub since_begun : {D : Type 0} → List (Turn D) → List (Turn D)
since_begun turns =
    fold (λ so_far turn. if begins_again turn.seen then [] else so_far ++ turn ∷ []) [] turns

-- what is seen ends a reconciliation well
abbrev pub is_mended : Option Event → Bool
is_mended (Some (event.Reconcile (Some (result.Ok done)))) = true
is_mended other = false

-- those of these turns that came since a reconciliation ended well last
abbrev pub since_mended : {D : Type 0} → List (Turn D) → List (Turn D)
since_mended turns = fold (λ so_far turn. if is_mended turn.seen then [] else so_far ++ turn ∷ []) [] turns

-- the call of this number is admitted in what is seen
abbrev pub is_admission : ℕ → Option Event → Bool
is_admission t (Some (event.Admit other None)) = nat_eq other t
is_admission t other = false

-- those of these turns that came since the call of this number was admitted
abbrev pub since_admitted : {D : Type 0} → ℕ → List (Turn D) → List (Turn D)
since_admitted t turns = fold (λ so_far turn. if is_admission t turn.seen then [] else so_far ++ turn ∷ []) [] turns

-- In a turn of these the confirmed commit of this transaction was to be confirmed on the device, and the device said that
-- none was pending: invalid-value.
pub record WasGone {D : Type 0} (turns : List (Turn D)) (device t : ℕ) : Type 0 where
  pub turn : Turn D
  pub among : Contains turns turn
  pub hub : Hub
  pub up : turn.before.hub ≡ Some hub
  pub due : due_on hub device ≡ Some (op.Confirm t)
  pub count : ℕ
  pub seen : turn.seen ≡ Some (event.Perform device kind.Confirm (mark.Refused tag.InvalidValue) count)

-- A device is out of sync because the hub recovered: in a turn of these since a reconciliation ended well last; or before
-- the run, where the device was so as it began, and no reconciliation ended well since.
abbrev pub HasRecovered : {D : Type 0} → World D → List (Turn D) → ℕ → Type 0
HasRecovered {D} first turns device =
    ((turn : Turn D) × Contains (since_mended turns) turn × (turn.seen ≡ Some event.Recover))
    ⊎ ((since_mended turns ≡ turns)
    × ((hub : Hub) × (first.hub ≡ Some hub) × (slice_get hub.stale device ≡ Some (Some why.Recovered))))

-- A device is out of sync for this cause, which came since a reconciliation ended well last: its link failed, by the fault
-- of this number; its confirmed commit of this transaction was gone as it was to be confirmed; or the hub recovered.
abbrev pub IsStaleBecause : {D : Type 0} → World D → List (Turn D) → ℕ → Why → Type 0
IsStaleBecause first earlier device (why.Fault number) = HasFault (since_mended earlier) device number
IsStaleBecause first earlier device (why.Gone t) = WasGone (since_mended earlier) device t
IsStaleBecause first earlier device why.Recovered = HasRecovered first earlier device

-- The call of this number waits in this world with this plan, which is its plan after the calls of its snapshot, as many
-- as the plan's front says.
pub record WaitsWith {D : Type 0} (decls : Decls) (world : World D) (t : ℕ) (call : Call) (plan : Plan) : Type 0 where
  pub hub : Hub
  pub up : world.hub ≡ Some hub
  pub it : Waiting
  pub waits : Contains hub.waiting it
  pub number : it.t ≡ t
  pub is : (it.call ≡ call) × (it.plan ≡ plan)
  pub within : plan.front ≤ length (history_read world.journal)
  pub planned : planned decls (state_of decls (front_of plan.front (history_read world.journal))) plan.front call
      ≡ result.Ok plan

-- the call of this number is under way in this world, and its plan holds the device
pub record HoldsDevice {D : Type 0} (world : World D) (t : ℕ) (call : Call) (device : ℕ) : Type 0 where
  pub hub : Hub
  pub up : world.hub ≡ Some hub
  pub it : Transaction
  pub active : Contains hub.active it
  pub number : it.t ≡ t
  pub called : it.call ≡ call
  pub held : list_any (nat_eq device) it.plan.held.devices ≡ true

-- What is looked at of a call refuses it so, in an event that came in this world. As it is submitted: its plan after the
-- calls of its caller's snapshot, which the submission carries. As it is admitted or turned away: the check of its own
-- plan after the whole history. As it is decided: that the data isn't valid with it after the whole history.
abbrev pub IsRefusedAs : {D : Type 0} → Decls → World D → Option Event → Call → Answer → Type 0
IsRefusedAs decls world (Some (event.Submit submitted front said)) call given =
    (world.snapshots call.caller ≡ Some front)
    × (planned decls (state_of decls (front_of front (history_read world.journal))) front call ≡ result.Err given)
IsRefusedAs decls world (Some (event.Admit t said)) call given =
    (plan : Plan) × WaitsWith decls world t call plan
    × Checks decls (history_read world.journal) call plan (result.Err given)
IsRefusedAs decls world (Some (event.Decide t said)) call given =
    invalid decls.data_schema (data_after call.actions (state_of decls (history_read world.journal)).data) ≡ Some given
IsRefusedAs decls world other call given = ⊥

-- Why a call got this answer, in a turn of a run from this first world on that came after these turns. A call that is
-- committed is the entry of its number. A number that is reused has an entry of other actions. Busy names the caller's
-- open call. Conflict is what the check of a waiting call's own plan says: it names the first entry after the call's
-- snapshot that wrote what the call read, and the least such write. OutOfSync is given to a waiting call that nothing
-- else refuses, for the first device of those that it holds that is out of sync, with the cause that the hub has, and
-- that cause came since a reconciliation ended well last. A device of a call under way refuses with operation-failed
-- alone, and only where it doesn't accept the tree that would be due with the call. A link fault of a device of a call
-- under way came since that was admitted, with its number. JournalFault is given only where the disk failed. Memory
-- needs no cause. And each other answer is what is looked at of the call in this turn.
abbrev pub AnsweredBecause : {D : Type 0} → Setting D → World D → List (Turn D) → Turn D → Call → Answer → Type 0
AnsweredBecause here first earlier turn call (answer.Committed number) =
    IsNumberedEntry (history_read turn.behind.journal) number call
AnsweredBecause here first earlier turn call (answer.Reused number) =
    (entry : Call) × IsNumberedEntry (history_read turn.before.journal) number entry
    × IsSame entry call × (entry ≢ call)
AnsweredBecause here first earlier turn call (answer.Busy number) =
    (hub : Hub) × (turn.before.hub ≡ Some hub) × (open_of hub.asked call.caller ≡ Some number)
AnsweredBecause here first earlier turn call (answer.Conflict number written) =
    (t : ℕ) × (plan : Plan) × WaitsWith here.decls turn.before t call plan
    × Checks here.decls (history_read turn.before.journal) call plan (result.Err (answer.Conflict number written))
    × (index : ℕ) × (number ≡ index + 1) × IsConflict here.decls (history_read turn.before.journal) plan index written
AnsweredBecause here first earlier turn call (answer.OutOfSync device cause) =
    (t : ℕ) × (plan : Plan) × (waits : WaitsWith here.decls turn.before t call plan)
    × ((sets : List (ℕ × ChangeSet)) × Passes here.decls (history_read turn.before.journal) call plan sets)
    × (first_stale plan.held.devices waits.hub.stale ≡ Some (answer.OutOfSync device cause))
    × (slice_get waits.hub.stale device ≡ Some (Some cause)) × IsStaleBecause first earlier device cause
AnsweredBecause here first earlier turn call (answer.Refused device said) =
    ((t : ℕ) × HoldsDevice turn.before t call device)
    × (said ≡ tag.OperationFailed)
    × ((here.kinds device).accepts (over here.decls device (history_read turn.before.journal ++ call ∷ [])) ≡ false)
AnsweredBecause here first earlier turn call (answer.LinkFault device number) =
    (t : ℕ) × HoldsDevice turn.before t call device × HasFault (since_admitted t earlier) device number
AnsweredBecause here first earlier turn call answer.JournalFault =
    Rose (here.disk.faults turn.before.journal.disk) (here.disk.faults turn.behind.journal.disk)
AnsweredBecause here first earlier turn call answer.Down = turn.before.hub ≡ None
AnsweredBecause here first earlier turn call answer.Memory = Unit {0}
AnsweredBecause here first earlier turn call given = IsRefusedAs here.decls turn.before turn.seen call given

-- Why a reconciliation ended otherwise than well: a link failed since it began, by the fault of this number; the disk
-- failed in this turn; memory ran out; or a device refused, which none does where each accepts what is due after each
-- first calls of the history at entry.
abbrev pub FailsToMendBecause : {D : Type 0} → Setting D → List Call → List (Turn D) → Turn D → RecFault → Type 0
FailsToMendBecause here entry earlier turn (fault.LinkFault device number) =
    HasFault (since_begun earlier) device number
FailsToMendBecause here entry earlier turn fault.DiskFault =
    Rose (here.disk.faults turn.before.journal.disk) (here.disk.faults turn.behind.journal.disk)
FailsToMendBecause here entry earlier turn (fault.Refused device said) = AcceptsFronts here.decls here.kinds entry → ⊥
FailsToMendBecause here entry earlier turn fault.Memory = Unit {0}
FailsToMendBecause here entry earlier turn (fault.Full len) = ⊥

-- devices

-- the device of this number is declared
abbrev pub IsDeclared : Decls → ℕ → Type 0
IsDeclared decls device = nat_lt device (length decls.names) ≡ true

-- the hub has a declared device in sync: it isn't stale
abbrev pub IsInSync : Hub → ℕ → Type 0
IsInSync hub device = slice_get hub.stale device ≡ Some None

-- A confirmed commit that is pending on a device is that of a transaction whose Intent is synced, and of which the journal
-- has no Settled. The Intent names the device, and the device runs what is due with its call after the history at its
-- Intent.
pub record IsPending {D : Type 0} (decls : Decls) (journal : Journal D) (device : ℕ) (t : ℕ) (node : NodeState)
    : Type 0 where
  pub synced : (told_by journal.synced).intents t ≢ None
  pub noted : Noted Call
  pub unsettled : (told_by (entries_read journal)).intents t ≡ Some noted
  pub names : noted.plan.names device ≡ true
  pub runs : node.running ≡ over decls device (noted.base ++ noted.plan.call ∷ [])

-- What is due on a device resolves this transaction as it is decided, or is something else: a Cancel only where the
-- journal as read has no decision of it, a Confirm only where a decision is synced, and a CommitConfirmed only where there
-- is none, and its Intent is synced and not settled.
pub record IsResolvedAsDecided {D : Type 0} (journal : Journal D) (t : ℕ) (due : Option Op) : Type 0 where
  pub cancels : due ≡ Some (op.Cancel t) → (told_by (entries_read journal)).place t ≡ None
  pub confirms : due ≡ Some (op.Confirm t) → (place : ℕ) × ((told_by journal.synced).place t ≡ Some place)
  pub prepares : (seconds : ℕ) → due ≡ Some (op.CommitConfirmed t seconds)
      → ((told_by (entries_read journal)).place t ≡ None) × ((told_by journal.synced).intents t ≢ None)

-- What a device would come back to stays so, or a Confirm or a Commit was performed on the device.
abbrev pub MovesOn : Config → Option Event → Config → ℕ → Type 0
MovesOn old seen new device = (new ≡ old)
    ⊎ ((done : OpKind) × (reply : Mark) × (count : ℕ) × (seen ≡ Some (event.Perform device done reply count))
    × ((done ≡ kind.Confirm) ⊎ (done ≡ kind.Commit)))

-- So many of the history's first calls a device has come to in these turns: none at first; a Confirm that took effect
-- there brings it to the entry of the transaction that it names, and a Commit that did to the whole history.
abbrev pub at_of : {D : Type 0} → Setting D → List (Turn D) → ℕ → ℕ
at_of here turns device = fold (λ at turn. came_by here turn.before device at turn.seen) 0 turns

-- what the device would come back to is what is due after so many first calls of the history
abbrev pub IsBackAt : {D : Type 0} → Decls → World D → ℕ → ℕ → Type 0
IsBackAt decls world device count = (count ≤ length (history_read world.journal))
    × (kept_tree (world.nodes device)
    ≡ tree_due (state_of decls (front_of count (history_read world.journal))) device)

-- A tree is due on the device: after the history; or after the history with the call of a transaction whose Intent names
-- the device, and of which the journal has no Settled.
abbrev pub IsDueOn : {D : Type 0} → Decls → World D → ℕ → Config → Type 0
IsDueOn decls world device tree = (tree ≡ over decls device (history_read world.journal))
    ⊎ ((t : ℕ) × (noted : Noted Call) × ((told_by (entries_read world.journal)).intents t ≡ Some noted)
    × (noted.plan.names device ≡ true)
    × (tree ≡ over decls device (history_read world.journal ++ noted.plan.call ∷ [])))

-- the set of changes is exactly the difference of what the device runs and a tree that is due there
pub record IsExactEdit {D : Type 0} (decls : Decls) (world : World D) (device : ℕ) (set : ChangeSet) : Type 0 where
  pub target : Config
  pub set_is : set ≡ differences (world.nodes device).running target
  pub due : IsDueOn decls world device target

-- A device runs what is due after the history, nothing is pending there, and the hub, which is up, has it in sync.
pub record IsReconciled {D : Type 0} (decls : Decls) (world : World D) (device : ℕ) : Type 0 where
  pub runs : (world.nodes device).running ≡ tree_due (state_of decls (history_read world.journal)) device
  pub settled : (world.nodes device).pending ≡ None
  pub hub : Hub
  pub up : world.hub ≡ Some hub
  pub in_sync : IsInSync hub device

-- The claim. A turn is one of the run's, and a device is a declared one. (A history is the calls of the journal's decided
-- transactions, in the order of their decisions. It is legal where a call block can give each of its calls, none of them
-- is refused after those before it, and no caller has a number twice.)
pub record Headline {D : Type 0} (here : Setting D) (script : List ScriptStep) (first last : World D)
    (run : Run here script first last) : Type 0 where
  -- The journal decodes to one legal history, that of the world, and it begins with the one at entry: as it is read
  -- at the end and at each moment, where the disk reports what it holds. And as a crash at any moment since the run
  -- began leaves it, it decodes to one that begins with the one at entry.
  pub one_history : BeginsHistory (history_read first.journal) (history_read last.journal)
      × IfSome (here.disk.content last.journal.disk)
      (λ file. IsLegalJournal here.decls file (history_read last.journal))
  pub whenever_it_is_read : (turn : Turn D) → Contains (turns_of run) turn
      → BeginsHistory (history_read first.journal) (history_read turn.behind.journal)
      × IfSome (here.disk.content turn.behind.journal.disk)
      (λ file. IsLegalJournal here.decls file (history_read turn.behind.journal))
  pub whenever_it_crashes : (file : List ℕ)
      → here.disk.left_since last.journal.disk (here.disk.moment first.journal.disk) file
      → HoldsHistoryFrom here.decls (history_read first.journal) file
  -- In each turn the history stays, or one call is added: that of the transaction that the turn decides. (Where the append
  -- of its Decide was cut, or the disk failed in it, nobody is answered, and the call may be added or not.)
  pub grows : (turn : Turn D) → Contains (turns_of run) turn
      → GrowsTo turn.before turn.meant (history_read turn.behind.journal)
  -- At no moment do the journal's bytes keep it from being opened again.
  pub opens_again : (turn : Turn D) → Contains (turns_of run) turn
      → IfSome (here.disk.content turn.behind.journal.disk) (IsOpenable here.decls)
  -- No recovery is refused for what the journal's bytes are, where the disk reports these.
  pub reopens : (turn : Turn D) (why : EndOfRun) → Contains (turns_of run) turn → IsEndedBy here turn why
      → is_refused_journal why ≡ true → here.disk.content turn.before.journal.disk ≡ None
  -- Each call that was acknowledged is the entry of its number, in the history at the end and in the journal as it is read
  -- then, and as a crash at each later moment leaves it. (A legal history has no caller and number twice: so it is there
  -- once.)
  pub acknowledged : (earlier later : List (Turn D)) (turn : Turn D) (call : Call) (number : ℕ)
      → turns_of run ≡ earlier ++ turn ∷ later
      → IsAnswered turn turn.seen call (answer.Committed number)
      → IsNumberedEntry (history_read last.journal) number call
      × IfSome (here.disk.content last.journal.disk) (HoldsEntry here.decls number call)
      × ((file : List ℕ) → here.disk.left_since last.journal.disk (here.disk.moment turn.behind.journal.disk) file
      → HoldsEntry here.decls number call file)
  -- Of each caller the entries that the run added are some of its calls, in the order in which they were submitted. (Calls
  -- are known apart by what they say: of one that was refused, and sent again as it was, either sending counts.)
  pub in_callers_order : (caller : List ℕ) (added : List Call)
      → history_read last.journal ≡ history_read first.journal ++ added
      → IsSubsequenceOf (calls_of caller added) (calls_of caller (queued (turns_of run)))
  -- The turn in which a call is refused leaves the history as it was, unless the disk failed as its decision was written.
  -- (What a turn may make of the history at all says `grows`.)
  pub refusals_change_nothing : (turn : Turn D) (call : Call) (given : Answer) → Contains (turns_of run) turn
      → IsAnswered turn turn.seen call given → given ≢ answer.JournalFault
      → ((number : ℕ) → given ≢ answer.Committed number)
      → history_read turn.behind.journal ≡ history_read turn.before.journal
  -- Each answer has its cause. So a call that is answered, and for which none of the causes of refusals holds then, is
  -- answered Committed, or Memory.
  pub answered_because : (earlier later : List (Turn D)) (turn : Turn D) (call : Call) (given : Answer)
      → turns_of run ≡ earlier ++ turn ∷ later → IsAnswered turn turn.seen call given
      → AnsweredBecause here first earlier turn call given
  -- After a line `settle`, where a hub is up, no caller has a call open: each call that was submitted before, and not
  -- answered at once, has its answer by then, unless the controller went down since.
  pub settled : (line : LineDone D) (hub : Hub) → Contains run.lines line → line.step ≡ step.Settle
      → line.behind.hub ≡ Some hub → All (λ one. one.is_open ≡ false) hub.asked
  pub settle_answers : (before rest : List (LineDone D)) (line : LineDone D) → run.lines ≡ before ++ line ∷ rest
      → line.step ≡ step.Settle → (earlier later : List (Turn D)) (turn : Turn D) (call : Call) (front : ℕ)
      → flat_map (λ it. it.turns) (before ++ line ∷ []) ≡ earlier ++ turn ∷ later
      → turn.seen ≡ Some (event.Submit call front None) → StayUp later → HasAnswerIn later call
  -- A line `settle` takes so many turns at most, also where the run ended in it: 24 for each device of a call that waits
  -- or is under way as it begins, and 4 for each such call.
  pub bounded : (line : LineDone D) (hub : Hub) → Contains (lines_in run) line → line.step ≡ step.Settle
      → line.before.hub ≡ Some hub → length line.turns ≤ turns_at_most hub
  -- Whenever a reconciliation answers Ok, each device runs its base overlaid with what the services write that the
  -- history leaves alive, nothing is pending there, and it is out of sync no more.
  pub reconciled : (turn : Turn D) (device : ℕ) → Contains (turns_of run) turn
      → IsDeclared here.decls device → turn.seen ≡ Some (event.Reconcile (Some (result.Ok tt)))
      → IsReconciled here.decls turn.behind device
  -- Whenever a reconciliation answers Ok, the journal, as it is read then, has no Intent without its Settled.
  pub all_settled : (turn : Turn D) (t : ℕ) → Contains (turns_of run) turn
      → turn.seen ≡ Some (event.Reconcile (Some (result.Ok tt)))
      → (told_by (entries_read turn.behind.journal)).intents t ≡ None
  -- A reconciliation answers otherwise only for a cause, and Refused never where each device accepts what is due after
  -- each first calls of the history at entry. Devices do so where the history is empty, and where they do so at entry, they do
  -- so of the history at the end.
  pub ends_because : (earlier later : List (Turn D)) (turn : Turn D) (met : RecFault)
      → turns_of run ≡ earlier ++ turn ∷ later → turn.seen ≡ Some (event.Reconcile (Some (result.Err met)))
      → FailsToMendBecause here (history_read first.journal) earlier turn met
  pub accepted_at_first : history_read first.journal ≡ []
      → AcceptsFronts here.decls here.kinds (history_read first.journal)
  pub still_accepted : AcceptsFronts here.decls here.kinds (history_read first.journal)
      → AcceptsFronts here.decls here.kinds (history_read last.journal)
  -- At each moment a device that isn't stale, on which no transaction works and whose last reply the hub has heard, runs
  -- what is due after the history, and nothing is pending there: with no reconciliation.
  pub in_step : (turn : Turn D) (hub : Hub) (device : ℕ) → Contains (turns_of run) turn
      → IsDeclared here.decls device → turn.behind.hub ≡ Some hub
      → IsInSync hub device → no_call_works (duty_on hub.duties device) ≡ true
      → (turn.behind.links device).unheard ≡ None
      → ((turn.behind.nodes device).running ≡ tree_due (state_of here.decls (history_read turn.behind.journal)) device)
      × ((turn.behind.nodes device).pending ≡ None)
  -- At each moment what a device would come back to, where it restarts or its confirmed commit times out, is what is due
  -- after as many first calls of the history as it has come to. That number never falls, and changes only by a Confirm or
  -- a Commit on the device: no restart, timeout, stop, or end of a session takes a device back to an older tree.
  pub comes_back : (earlier later : List (Turn D)) (turn : Turn D) (device : ℕ)
      → turns_of run ≡ earlier ++ turn ∷ later → IsDeclared here.decls device
      → IsBackAt here.decls turn.behind device (at_of here (earlier ++ turn ∷ []) device)
  pub never_falls : (earlier later : List (Turn D)) (turn : Turn D) (device : ℕ)
      → turns_of run ≡ earlier ++ turn ∷ later → at_of here earlier device ≤ at_of here (earlier ++ turn ∷ []) device
  pub moves_on : (turn : Turn D) (device : ℕ) → Contains (turns_of run) turn
      → MovesOn (kept_tree (turn.before.nodes device)) turn.seen (kept_tree (turn.behind.nodes device)) device
  -- At each moment what is pending on a device is known to the journal.
  pub pending_known : (turn : Turn D) (device t : ℕ) → Contains (turns_of run) turn
      → pending_id (turn.behind.nodes device).pending ≡ Some t
      → IsPending here.decls turn.behind.journal device t (turn.behind.nodes device)
  -- A confirmed commit is cancelled only where the journal, as it is read then, has no decision of its transaction, and is
  -- confirmed only where a decision is synced, which gives its call this place of the history. It is made only where there
  -- is no decision, and the Intent is synced.
  pub resolved_as_decided : (turn : Turn D) (hub : Hub) (device t : ℕ) (kind : OpKind) (reply : Mark) (count : ℕ)
      → Contains (turns_of run) turn → turn.before.hub ≡ Some hub
      → turn.seen ≡ Some (event.Perform device kind reply count)
      → IsResolvedAsDecided turn.before.journal t (due_on hub device)
  -- The changes of an Edit are exactly the difference of what the device runs and a tree that is due there.
  pub edits_exactly : (turn : Turn D) (hub : Hub) (device : ℕ) (set : ChangeSet)
      (kind : OpKind) (reply : Mark) (count : ℕ) → Contains (turns_of run) turn → turn.before.hub ≡ Some hub
      → turn.seen ≡ Some (event.Perform device kind reply count) → due_on hub device ≡ Some (op.Edit set)
      → IsExactEdit here.decls turn.before device set
  -- What is printed of a device is what it runs.
  pub as_printed : (line : LineDone D) (device : ℕ) → Contains run.lines line → line.step ≡ step.Show device
      → line.text ≡ tree_text (name_of here.decls.names device) (line.behind.nodes device).running
