-- Where a worker stands, and the outcome that it has there. (For proofs alone.)
use Rattle.std.specs.Prelude.{Bool, true, false, ◌||◌, Option, Some, None}
use Rattle.orc_worker.specs.declared.report.Outcome.{Outcome}
use Rattle.orc_worker.specs.declared.report.Outcome.TheVariants as outcome
use Rattle.orc_worker.specs.declared.stage.Stage.{Stage}
use Rattle.orc_worker.specs.declared.stage.Stage.TheVariants as stage
use Rattle.orc_rules.specs.Transactions.{is_lost}

-- there is no outcome yet
abbrev pub is_none : Option Outcome → Bool
is_none None = true
is_none (Some so_far) = false

-- the device refused, or memory ran out
abbrev pub is_hindered : Option Outcome → Bool
is_hindered (Some (outcome.Refused tag)) = true
is_hindered (Some outcome.Short) = true
is_hindered other = false

-- the device holds the change, under a confirmed commit
abbrev pub is_prepared : Option Outcome → Bool
is_prepared (Some outcome.Prepared) = true
is_prepared other = false

-- the device did what the decision asks
abbrev pub is_resolved_outcome : Option Outcome → Bool
is_resolved_outcome (Some outcome.Confirmed) = true
is_resolved_outcome (Some outcome.Gone) = true
is_resolved_outcome (Some outcome.Cancelled) = true
is_resolved_outcome other = false

-- nothing of the transaction can be pending on the device
abbrev pub is_clear : Option Outcome → Bool
is_clear so_far = is_hindered so_far || is_resolved_outcome so_far

-- the worker has ended with this outcome
abbrev pub is_final : Option Outcome → Bool
is_final so_far = is_lost so_far || is_clear so_far

-- a worker that stands there has this outcome
abbrev pub agrees : Stage → Option Outcome → Bool
agrees stage.Opening so_far = is_none so_far
agrees stage.LockingRunning so_far = is_none so_far
agrees stage.LockingCandidate so_far = is_none so_far
agrees stage.Editing so_far = is_none so_far
agrees stage.Validating so_far = is_none so_far
agrees stage.Committing so_far = is_none so_far
agrees stage.Refusing so_far = is_hindered so_far
agrees stage.Prepared so_far = is_prepared so_far
agrees stage.Lost so_far = is_lost so_far
agrees stage.Confirming so_far = is_prepared so_far
agrees stage.Cancelling so_far = is_prepared so_far
agrees stage.Reopening so_far = is_lost so_far
agrees stage.Recancelling so_far = is_lost so_far
agrees stage.UnlockingCandidate so_far = is_resolved_outcome so_far
agrees stage.UnlockingRunning so_far = is_resolved_outcome so_far
agrees stage.Closing so_far = is_resolved_outcome so_far
agrees stage.Over so_far = is_final so_far

-- one that no decision was told stands so
abbrev pub stands_undecided : Stage → Option Outcome → Bool
stands_undecided stage.Opening so_far = true
stands_undecided stage.LockingRunning so_far = true
stands_undecided stage.LockingCandidate so_far = true
stands_undecided stage.Editing so_far = true
stands_undecided stage.Validating so_far = true
stands_undecided stage.Committing so_far = true
stands_undecided stage.Refusing so_far = true
stands_undecided stage.Prepared so_far = true
stands_undecided stage.Lost so_far = true
stands_undecided stage.Confirming so_far = false
stands_undecided stage.Cancelling so_far = false
stands_undecided stage.Reopening so_far = false
stands_undecided stage.Recancelling so_far = false
stands_undecided stage.UnlockingCandidate so_far = false
stands_undecided stage.UnlockingRunning so_far = false
stands_undecided stage.Closing so_far = false
stands_undecided stage.Over so_far = is_hindered so_far
