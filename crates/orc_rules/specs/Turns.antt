-- How many turns of rounds are left under a hub at most: each operation, admission, decision and settling is one less.
use Rattle.std.specs.Prelude.{ℕ, ◌+◌, ◌*◌, Bool, true, false, Option, Some, None, List, [], ◌∷◌, length, zero, suc}
use Rattle.orc_device.specs.declared.kind.OpKind.{OpKind}
use Rattle.orc_device.specs.declared.reply.Reply.{Reply}
use Rattle.orc_recover.specs.declared.stage.MendStage.{MendStage}
use Rattle.orc_recover.specs.declared.stage.MendStage.TheVariants as mend_stage
use Rattle.orc_worker.specs.declared.stage.Stage.{Stage}
use Rattle.orc_worker.specs.declared.stage.Stage.TheVariants as stage
use Rattle.orc_rules.specs.Hubs.{Hub, duty_on}
use Rattle.orc_rules.specs.Kept.{heard}
use Rattle.orc_rules.specs.Worlds.{Link}
use Rattle.orc_rules.specs.declared.duty.Duty.{Duty}
use Rattle.orc_rules.specs.declared.duty.Duty.TheVariants as duty
use Rattle.orc_rules.specs.declared.event.Event.{Event}
use Rattle.orc_rules.specs.declared.event.Event.TheVariants as event
use Rattle.orc_rules.specs.declared.transaction.Phase.{Phase}
use Rattle.orc_rules.specs.declared.transaction.Phase.TheVariants as phase
use Rattle.orc_rules.specs.declared.transaction.Transaction.{Transaction}
use Rattle.orc_rules.specs.declared.transaction.Waiting.{Waiting}

-- operations

-- so many operations are left for a worker at most, those after the decision counted
abbrev pub work_left : Stage → ℕ
work_left stage.Opening = 10
work_left stage.LockingRunning = 9
work_left stage.LockingCandidate = 8
work_left stage.Editing = 7
work_left stage.Validating = 6
work_left stage.Committing = 5
work_left stage.Refusing = 1
work_left stage.Prepared = 4
work_left stage.Lost = 3
work_left stage.Confirming = 4
work_left stage.Cancelling = 4
work_left stage.Reopening = 3
work_left stage.Recancelling = 2
work_left stage.UnlockingCandidate = 3
work_left stage.UnlockingRunning = 2
work_left stage.Closing = 1
work_left stage.Over = 0

-- and so many for a mender that has so many transactions to resolve
abbrev pub mending_left : ℕ → MendStage → ℕ
mending_left count mend_stage.Opening = count + 10
mending_left count mend_stage.Resolving = count + 9
mending_left count (mend_stage.LockingRunning read) = 8
mending_left count (mend_stage.LockingCandidate read) = 7
mending_left count (mend_stage.Editing read) = 6
mending_left count mend_stage.Validating = 5
mending_left count mend_stage.Committing = 4
mending_left count mend_stage.UnlockingCandidate = 3
mending_left count mend_stage.UnlockingRunning = 2
mending_left count mend_stage.Closing = 1
mending_left count mend_stage.Over = 0

-- so many operations are left for what is done on a device at most
abbrev pub operations_left : Duty → ℕ
operations_left duty.Free = 0
operations_left (duty.Works worker) = work_left worker.stage
operations_left (duty.Mends mender) = mending_left (length mender.left) mender.stage

-- turns

-- a reply that is to be heard is a turn
abbrev pub hearings_left : Option (OpKind × Reply) → ℕ
hearings_left None = 0
hearings_left (Some one) = 1

-- on a device: each operation is performed, and heard
abbrev pub turns_on : Duty → Link → ℕ
turns_on duty link = 2 * operations_left (heard link.unheard link.faults duty) + hearings_left link.unheard

-- the sum over the first so many devices
abbrev pub total : (ℕ → ℕ) → ℕ → ℕ
total count zero = 0
total count (suc devices) = count devices + total count devices

-- the sum over a list
abbrev pub sum_of : {X : Type 0} → (X → ℕ) → List X → ℕ
sum_of count [] = 0
sum_of count (x ∷ xs) = count x + sum_of count xs

-- of a call that waits: its admission, decision and settling, and ten operations on each of its devices
abbrev pub turns_of_waiting : Waiting → ℕ
turns_of_waiting it = 20 * length it.plan.held.devices + 3

-- of one under way: its decision and settling
abbrev pub decisions_left : Phase → ℕ
decisions_left phase.Preparing = 2
decisions_left phase.Decided = 1
decisions_left phase.Aborted = 1
decisions_left phase.Settling = 1
decisions_left phase.Left = 0

-- all that are left under a hub at most
abbrev pub turns_left : Hub → (ℕ → Link) → ℕ
turns_left hub links =
    sum_of turns_of_waiting hub.waiting
    + (sum_of (λ it. decisions_left it.phase) hub.active
    + total (λ device. turns_on (duty_on hub.duties device) (links device)) (length hub.duties))

-- an event of a round: an admission, an operation or its report, a decision or a settling
abbrev pub is_of_round : Event → Bool
is_of_round (event.Admit t said) = true
is_of_round (event.Perform device op mark count) = true
is_of_round (event.Unsent device) = true
is_of_round (event.Report device op mark count) = true
is_of_round (event.Decide t said) = true
is_of_round (event.Settle t) = true
is_of_round other = false

-- the bound

-- the most turns of a transaction on so many devices: 24 for each of them, and 4 for it
abbrev pub most_turns : ℕ → ℕ
most_turns devices = 24 * devices + 4

-- the most turns of a transaction that is under way in a phase: none once a reconciliation is to settle it
abbrev pub most_of_active : Transaction → Phase → ℕ
most_of_active it phase.Left = 0
most_of_active it other = most_turns (length it.plan.held.devices)

-- the most turns until no call is left, those that wait and those under way
abbrev pub turns_at_most : Hub → ℕ
turns_at_most hub =
    sum_of (λ it. most_turns (length it.plan.held.devices)) hub.waiting
    + sum_of (λ it. most_of_active it it.phase) hub.active
