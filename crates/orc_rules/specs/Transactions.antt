-- Transactions, and how far each is.
use Rattle.std.specs.Prelude.{ℕ, nat_eq, Bool, true, false, not, ◌&&◌, List, [], Option, Some, if◌then◌else◌}
use Rattle.std.specs.List.{list_all, list_any}
use Rattle.orc_queue.specs.declared.held.Held.{Held}
use Rattle.orc_worker.specs.declared.report.Outcome.{Outcome}
use Rattle.orc_worker.specs.declared.report.Outcome.TheVariants as outcome
use Rattle.orc_rules.specs.Duties.{is_over_on, outcome_on}
use Rattle.orc_rules.specs.declared.duty.Duty.{Duty}
use Rattle.orc_rules.specs.declared.transaction.Phase.{Phase}
use Rattle.orc_rules.specs.declared.transaction.Phase.TheVariants.{Preparing, Decided, Aborted, Settling, Left}
use Rattle.orc_rules.specs.declared.transaction.Transaction.{Transaction}

-- it has its Intent, and neither Decide nor Abort
abbrev pub is_preparing : Phase → Bool
is_preparing Preparing = true
is_preparing other = false

-- it was decided or aborted, and a worker may go on
abbrev pub is_told : Phase → Bool
is_told Decided = true
is_told Aborted = true
is_told other = false

-- all its workers have ended, none of them Lost, and its Settled is due
abbrev pub is_settling : Phase → Bool
is_settling Settling = true
is_settling other = false

-- the outcome is that the link failed
abbrev pub is_lost : Option Outcome → Bool
is_lost (Some (outcome.Lost count)) = true
is_lost other = false

-- the work of a transaction has ended on each of the devices
abbrev pub are_over : List Duty → ℕ → List ℕ → Bool
are_over duties t devices = list_all (is_over_on duties t) devices

-- on some of the devices the last outcome is that the link failed
abbrev pub has_lost : List Duty → ℕ → List ℕ → Bool
has_lost duties t devices = list_any (λ device. is_lost (outcome_on duties t device)) devices

-- what holds nothing fits with everything
abbrev pub nothing_held : Held
nothing_held = record { devices = []; services = []; reads = record { reads = [] }; targets = [] }

-- where all its workers have ended after the decision
abbrev pub transaction_ended : List Duty → Transaction → Transaction
transaction_ended duties it = record it {
  phase = if has_lost duties it.t it.plan.held.devices then Left else Settling;
  plan = record it.plan { held = nothing_held };
}

-- A transaction whose workers have all ended after its decision is active no more: it holds nothing, and its Settled is
-- due, unless one of them ended Lost.
abbrev pub retired : List Duty → Transaction → Transaction
retired duties it =
    if is_told it.phase && are_over duties it.t it.plan.held.devices then transaction_ended duties it else it

-- the transaction of this number is in this phase
abbrev pub in_phase : ℕ → Phase → Transaction → Transaction
in_phase t phase it = if nat_eq it.t t then record it { phase = phase } else it

-- it isn't the transaction of this number
abbrev pub is_other : ℕ → Transaction → Bool
is_other t it = not (nat_eq it.t t)
