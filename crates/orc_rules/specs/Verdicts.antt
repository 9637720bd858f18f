-- What the outcomes of preparing come to.
use Rattle.std.specs.Prelude.{ℕ, Bool, true, false, List, [], ◌∷◌, Option, Some, None, is_some, if◌then◌else◌}
use Rattle.std.specs.List.{list_all, list_any}
use Rattle.std.specs.Option.{option_or}
use Rattle.orc_call.specs.declared.answer.Answer.{Answer}
use Rattle.orc_call.specs.declared.answer.Answer.TheVariants as answer
use Rattle.orc_worker.specs.declared.report.Outcome.{Outcome}
use Rattle.orc_worker.specs.declared.report.Outcome.TheVariants as outcome
use Rattle.orc_rules.specs.Duties.{outcome_on}
use Rattle.orc_rules.specs.declared.duty.Duty.{Duty}

-- memory ran out on the device
abbrev pub is_short : Option Outcome → Bool
is_short (Some outcome.Short) = true
is_short other = false

-- the device refused
abbrev pub refused_by : ℕ → Option Outcome → Option Answer
refused_by device (Some (outcome.Refused tag)) = Some (answer.Refused device tag)
refused_by device other = None

-- its link failed
abbrev pub lost_answer : ℕ → Option Outcome → Option Answer
lost_answer device (Some (outcome.Lost count)) = Some (answer.LinkFault device count)
lost_answer device other = None

-- the first of these devices for which there is such an answer
abbrev pub first_answer : (ℕ → Option Outcome → Option Answer) → List Duty → ℕ → List ℕ → Option Answer
first_answer by duties t [] = None
first_answer by duties t (device ∷ devices) =
    option_or (by device (outcome_on duties t device)) (first_answer by duties t devices)

-- Why a transaction on these devices, which ascend, is given up, if it is: memory ran out on one, else the least that
-- refused, else the least whose link failed.
abbrev pub verdict : List Duty → ℕ → List ℕ → Option Answer
verdict duties t devices =
    if list_any (λ device. is_short (outcome_on duties t device)) devices then Some answer.Memory
    else option_or (first_answer refused_by duties t devices) (first_answer lost_answer duties t devices)

-- each of the devices has its outcome
abbrev pub are_heard : List Duty → ℕ → List ℕ → Bool
are_heard duties t devices = list_all (λ device. is_some (outcome_on duties t device)) devices
