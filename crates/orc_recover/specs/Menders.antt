-- What a reconciliation does on one device.
use Rattle.std.specs.Prelude.{◌≡◌, ℕ, Bool, true, false, not, Option, Some, None, is_some, IsTrue, List, [], ◌∷◌, if◌then◌else◌}
use Rattle.orc_path.specs.Configurations.{Config}
use Rattle.orc_tree.specs.Sameness.{equal_configs}
use Rattle.orc_tree.specs.declared.change.ChangeSet.{ChangeSet}
use Rattle.orc_call.specs.declared.answer.Tag.TheVariants.{OperationFailed}
use Rattle.orc_change.specs.Differences.{difference}
use Rattle.orc_device.specs.Operations.{is_ok, is_resolved}
use Rattle.orc_device.specs.declared.op.Op.{Op}
use Rattle.orc_device.specs.declared.op.Op.TheVariants.{OpenSession, LockRunning, LockCandidate, Edit, Validate, Commit, Confirm, Cancel, UnlockCandidate, UnlockRunning, CloseSession, GetRunning}
use Rattle.orc_device.specs.declared.reply.Reply.{Reply}
use Rattle.orc_device.specs.declared.reply.Reply.TheVariants as reply
use Rattle.orc_recover.specs.declared.ends.Mend.{Mend}
use Rattle.orc_recover.specs.declared.ends.Mend.TheVariants as mend
use Rattle.orc_recover.specs.declared.stage.MendStage.{MendStage}
use Rattle.orc_recover.specs.declared.stage.MendStage.TheVariants.{Opening, Resolving, LockingRunning, LockingCandidate, Editing, Validating, Committing, UnlockingCandidate, UnlockingRunning, Closing, Over}

-- A mender: the transactions that are left, each with whether it is decided; the tree that is due; and where it stands.
pub record MenderState : Type 0 where
  pub left : List (ℕ × Bool)
  pub due : Config
  pub stage : MendStage

-- a mender that has done nothing yet: transactions that are left, each with whether it is decided, and the tree due
abbrev pub new_mender : List (ℕ × Bool) → Config → MenderState
new_mender intents due = record { left = intents; due = due; stage = Opening }

-- The operation due ---------------------------------------------------------------------------------------------------

-- what is decided is confirmed, and else it is cancelled
abbrev pub resolving_op : (ℕ × Bool) → Op
resolving_op intent = if intent.1 then Confirm intent.0 else Cancel intent.0

-- the operation for the first transaction that is left; where none is, running is read
abbrev pub resolving_order : List (ℕ × Bool) → Op
resolving_order [] = GetRunning
resolving_order (intent ∷ later) = resolving_op intent

-- the operation due at a stage, where these transactions are left, this tree is due, and this is the way between trees
abbrev pub mend_order : (Config → Config → ChangeSet) → List (ℕ × Bool) → Config → MendStage → Option Op
mend_order between left due Opening = Some OpenSession
mend_order between left due Resolving = Some (resolving_order left)
mend_order between left due (LockingRunning running) = Some LockRunning
mend_order between left due (LockingCandidate running) = Some LockCandidate
mend_order between left due (Editing running) = Some (Edit (between running due))
mend_order between left due Validating = Some Validate
mend_order between left due Committing = Some Commit
mend_order between left due UnlockingCandidate = Some UnlockCandidate
mend_order between left due UnlockingRunning = Some UnlockRunning
mend_order between left due Closing = Some CloseSession
mend_order between left due Over = None

-- at this stage of a mender an edit is due
abbrev pub is_editing : MendStage → Bool
is_editing (Editing running) = true
is_editing stage = false

-- at this stage of a mender transactions are confirmed or cancelled, or running is read
abbrev pub is_resolving : MendStage → Bool
is_resolving Resolving = true
is_resolving stage = false

-- a transaction is left
abbrev pub is_any : List (ℕ × Bool) → Bool
is_any [] = false
is_any (intent ∷ later) = true

-- the transactions that are left after the first of them
abbrev pub behind_first : List (ℕ × Bool) → List (ℕ × Bool)
behind_first [] = []
behind_first (intent ∷ later) = later

-- at this stage of a mender an operation is due
abbrev pub is_mending : MendStage → Bool
is_mending Over = false
is_mending stage = true

-- Replies -------------------------------------------------------------------------------------------------------------

-- how a reply that isn't wanted ends the reconciliation of the device
abbrev pub failed_by : Reply → ℕ → Mend
failed_by reply.Ok faults = mend.Refused OperationFailed
failed_by (reply.Tree tree) faults = mend.Refused OperationFailed
failed_by (reply.Refused tag) faults = mend.Refused tag
failed_by reply.Fault faults = mend.LinkFault faults
failed_by reply.Memory faults = mend.Memory

-- The next stage ------------------------------------------------------------------------------------------------------

-- this stage of a mender where the reply is good, and else the end
abbrev pub goes_on : Bool → MendStage → MendStage
goes_on good next = if good then next else Over

-- the stage of a mender after one at which no tree is read, by a reply that is good or not
abbrev pub stepped : MendStage → Bool → MendStage
stepped Opening good = goes_on good Resolving
stepped Resolving good = goes_on good Resolving
stepped (LockingRunning running) good = goes_on good (LockingCandidate running)
stepped (LockingCandidate running) good = goes_on good (Editing running)
stepped (Editing running) good = goes_on good Validating
stepped Validating good = goes_on good Committing
stepped Committing good = goes_on good UnlockingCandidate
stepped UnlockingCandidate good = goes_on good UnlockingRunning
stepped UnlockingRunning good = goes_on good Closing
stepped Closing good = Over
stepped Over good = Over

-- the stage of a mender after running was read: where the tree is the one due there is nothing to change
abbrev pub read_stage : (Config → Config → Bool) → Config → Reply → MendStage
read_stage same due reply.Ok = Over
read_stage same due (reply.Tree running) = if same running due then Closing else LockingRunning running
read_stage same due (reply.Refused tag) = Over
read_stage same due reply.Fault = Over
read_stage same due reply.Memory = Over

-- The end -------------------------------------------------------------------------------------------------------------

-- a reply that isn't good ends the reconciliation of the device
abbrev pub ends_unless : Bool → Reply → ℕ → Option Mend
ends_unless good answer faults = if good then None else Some (failed_by answer faults)

-- how a reply ends it at a stage at which no transaction is resolved and no tree is read
abbrev pub step_end : MendStage → Reply → ℕ → Option Mend
step_end Closing answer faults = if is_ok answer then Some mend.Done else Some (failed_by answer faults)
step_end Over answer faults = None
step_end stage answer faults = ends_unless (is_ok answer) answer faults

-- how the reply to the reading of running ends it
abbrev pub read_end : Reply → ℕ → Option Mend
read_end reply.Ok faults = Some (failed_by reply.Ok faults)
read_end (reply.Tree running) faults = None
read_end (reply.Refused tag) faults = Some (failed_by (reply.Refused tag) faults)
read_end reply.Fault faults = Some (failed_by reply.Fault faults)
read_end reply.Memory faults = Some (failed_by reply.Memory faults)

-- The mender ----------------------------------------------------------------------------------------------------------

-- the change from one tree to another
abbrev pub differences : Config → Config → ChangeSet
differences from to = record { changes = difference from to }

-- the operation that is due for a mender, where the function gives the changes from one tree to another
abbrev pub mender_order : (Config → Config → ChangeSet) → MenderState → Option Op
mender_order between mender = mend_order between mender.left mender.due mender.stage

-- a transaction is resolved, so that these are left, or the reply isn't good
abbrev pub resolved_one : MenderState → List (ℕ × Bool) → Bool → MenderState
resolved_one mender later good = if good then record mender { left = later } else record mender { stage = Over }

-- the mender after a reply at this stage, where these transactions are left
abbrev pub took_at : (Config → Config → Bool) → MenderState → MendStage → List (ℕ × Bool) → Reply → MenderState
took_at same mender Resolving [] answer = record mender { stage = read_stage same mender.due answer }
took_at same mender Resolving (intent ∷ later) answer = resolved_one mender later (is_resolved answer)
took_at same mender stage left answer = record mender { stage = stepped stage (is_ok answer) }

-- the mender after a reply, where the function says which trees are equal
abbrev pub mender_took : (Config → Config → Bool) → MenderState → Reply → MenderState
mender_took same mender answer = took_at same mender mender.stage mender.left answer

-- how a reply at this stage ends it, where these transactions are left
abbrev pub mend_end_at : MendStage → List (ℕ × Bool) → Reply → ℕ → Option Mend
mend_end_at Resolving [] answer faults = read_end answer faults
mend_end_at Resolving (intent ∷ later) answer faults = ends_unless (is_resolved answer) answer faults
mend_end_at stage left answer faults = step_end stage answer faults

-- how the reconciliation of the device ended by a reply, if it did
abbrev pub mender_end : MenderState → Reply → ℕ → Option Mend
mender_end mender answer faults = mend_end_at mender.stage mender.left answer faults

-- Laws ----------------------------------------------------------------------------------------------------------------

-- An operation is due for a mender except where it has ended.
abbrev pub MendingIsDue : Type 0
MendingIsDue = (mender : MenderState) → is_some (mender_order differences mender) ≡ is_mending mender.stage

-- A mender for which an operation is due says how it ended exactly by the reply after which it has ended.
abbrev pub EndsWhereItSays : Type 0
EndsWhereItSays =
    (mender : MenderState) (answer : Reply) (faults : ℕ) → IsTrue (is_mending mender.stage)
    → is_some (mender_end mender answer faults) ≡ not (is_mending (mender_took equal_configs mender answer).stage)
