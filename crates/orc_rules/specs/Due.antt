-- What is due in the journal: the decision of a transaction, or that it is settled.
use Rattle.std.specs.Prelude.{ℕ, Bool, ◌&&◌, ◌||◌, List, Option, Some, None, min, if◌then◌else◌}
use Rattle.std.specs.List.{fold}
use Rattle.orc_rules.specs.Transactions.{is_preparing, is_settling}
use Rattle.orc_rules.specs.Verdicts.{are_heard}
use Rattle.orc_rules.specs.declared.duty.Duty.{Duty}
use Rattle.orc_rules.specs.declared.transaction.Transaction.{Transaction}

-- it has neither Decide nor Abort, and each of its devices has its outcome of preparing
abbrev pub is_decision_due : List Duty → Transaction → Bool
is_decision_due duties it = is_preparing it.phase && are_heard duties it.t it.plan.held.devices

-- a decision or a Settled is due for the transaction
abbrev pub is_entry_due : List Duty → Transaction → Bool
is_entry_due duties it = is_settling it.phase || is_decision_due duties it

-- the lesser of a number found so far, if one was, and this one
abbrev pub lesser_number : Option ℕ → ℕ → Option ℕ
lesser_number None t = Some t
lesser_number (Some found) t = Some (min found t)

-- the least number so far of a transaction for which something is due
abbrev pub due_with : List Duty → Option ℕ → Transaction → Option ℕ
due_with duties found it = if is_entry_due duties it then lesser_number found it.t else found

-- the least number of a transaction for which something is due
abbrev pub least_due : List Duty → List Transaction → Option ℕ
least_due duties active = fold (due_with duties) None active
