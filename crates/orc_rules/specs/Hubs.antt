-- The hub as a record: what is due, and what a report and a decision make of it.
use Rattle.std.specs.Prelude.{ℕ, Bool, true, false, not, ◌||◌, List, Option, Some, None, is_some, map, take, slice_get, slice_set, if◌then◌else◌}
use Rattle.std.specs.List.{list_all}
use Rattle.std.specs.Option.{option_map, option_map_or, option_or}
use Rattle.orc_call.specs.declared.answer.Answer.{Answer}
use Rattle.orc_call.specs.declared.answer.RecFault.{RecFault}
use Rattle.orc_call.specs.declared.answer.RecFault.TheVariants as fault
use Rattle.orc_call.specs.declared.answer.Why.{Why}
use Rattle.orc_device.specs.declared.op.Op.{Op}
use Rattle.orc_device.specs.declared.reply.Reply.{Reply}
use Rattle.orc_recover.specs.declared.ends.Mend.{Mend}
use Rattle.orc_recover.specs.declared.ends.Mend.TheVariants as mend
use Rattle.orc_rules.specs.Asked.{answered_at}
use Rattle.orc_rules.specs.Duties.{duty_end, duty_order, duty_told, duty_took, is_busy, stale_by}
use Rattle.orc_rules.specs.Transactions.{in_phase, retired}
use Rattle.orc_rules.specs.declared.asked.Asked.{Asked}
use Rattle.orc_rules.specs.declared.duty.Duty.{Duty}
use Rattle.orc_rules.specs.declared.duty.Duty.TheVariants as duty
use Rattle.orc_rules.specs.declared.transaction.Phase.{Phase}
use Rattle.orc_rules.specs.declared.transaction.Transaction.{Transaction}
use Rattle.orc_rules.specs.declared.transaction.Waiting.{Waiting}

-- A hub that is up: the calls that wait and those under way, each in its order; what is done on each device, and why it
-- is stale, if it is; who asked what; the numbers that it gave; and, where a reconciliation is begun and unfinished, the
-- failure that it met, if one.
pub record Hub : Type 0 where
  pub waiting : List Waiting
  pub active : List Transaction
  pub duties : List Duty
  pub stale : List (Option Why)
  pub asked : List Asked
  pub given : ℕ → Bool
  pub mends : Option (Option RecFault)

-- the operation that is next for what is done on a device
abbrev pub order_on : Hub → ℕ → Option Op
order_on hub device = option_map_or duty_order (slice_get hub.duties device) None

-- a reconciliation has met a failure
abbrev pub has_met_failure : Option (Option RecFault) → Bool
has_met_failure (Some (Some met)) = true
has_met_failure other = false

-- a reconciliation, where one is begun, has come to a device: nothing is left to do on the devices declared before it
abbrev pub has_come_to : Hub → ℕ → Bool
has_come_to hub device = not (is_some hub.mends) || list_all (λ duty. not (is_busy duty)) (take device hub.duties)

-- The operation that may be performed on a device: none where a reconciliation has met a failure, or hasn't come to the
-- device yet.
abbrev pub due_on : Hub → ℕ → Option Op
due_on hub device =
    if has_met_failure hub.mends then None else if has_come_to hub device then order_on hub device else None

-- an element of a list changed, where it is there
abbrev pub with_changed : {X : Type 0} → (X → X) → ℕ → List X → List X
with_changed change place xs = option_map_or (λ x. slice_set xs place (change x)) (slice_get xs place) xs

-- what is done on a device
abbrev pub duty_on : List Duty → ℕ → Duty
duty_on duties device = option_map_or (λ duty. duty) (slice_get duties device) duty.Free

-- the failure by which a reconciliation of a device ended, if it did by one
abbrev pub mend_fault : ℕ → Option Mend → Option RecFault
mend_fault device (Some (mend.LinkFault count)) = Some (fault.LinkFault device count)
mend_fault device (Some (mend.Refused tag)) = Some (fault.Refused device tag)
mend_fault device (Some mend.Memory) = Some fault.Memory
mend_fault device other = None

-- A report: what is done on the device took the reply, which may have made the device stale, or have reconciled it; a
-- transaction whose last worker ended is active no more; and a reconciliation may have met a failure. Nothing else
-- changes.
abbrev pub hub_reported : ℕ → Reply → ℕ → Hub → Hub
hub_reported device reply faults hub =
    let duties = with_changed (λ duty. duty_took duty reply faults) device hub.duties in
    let met_now = mend_fault device (duty_end (duty_on hub.duties device) reply faults) in
    record hub {
      duties = duties;
      stale = with_changed (stale_by (duty_on hub.duties device) reply faults) device hub.stale;
      active = map (retired duties) hub.active;
      mends = option_map (λ met. option_or met met_now) hub.mends;
    }

-- The decision on a transaction: it is in this phase, each of its workers that waits goes on, and where none has
-- anything to do it is active no more.
abbrev pub hub_told : ℕ → Phase → Bool → Hub → Hub
hub_told t phase commit hub =
    let duties = map (duty_told t commit) hub.duties in
    record hub { duties = duties; active = map (retired duties) (map (in_phase t phase) hub.active) }

-- the one who asked at this place is answered
abbrev pub answered : ℕ → Answer → Hub → Hub
answered place answer hub = record hub { asked = answered_at place answer hub.asked }
