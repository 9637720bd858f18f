-- A worker stands where its outcome says, whatever is replied and decided; and what a reply says of staleness.
use Rattle.std.proofs.Common.{◌≡◌, ◌⊎◌, inl, inr, ℕ, Bool, true, false, cond, not, ◌||◌, Option, Some, None, refl, sym, ap, ◌∙◌}
use Rattle.std.specs.Option.{option_or}
use Rattle.std.proofs.lemmas.Bool.{false≢true}
use Rattle.orc_device.specs.Operations.{is_fault, is_invalid_value, is_ok, is_resolved as is_good}
use Rattle.orc_device.specs.declared.reply.Reply.{Reply}
use Rattle.orc_device.specs.declared.reply.Reply.TheVariants as reply
use Rattle.orc_device.specs.declared.op.Op.{Op}
use Rattle.orc_tree.specs.declared.change.ChangeSet.{ChangeSet}
use Rattle.orc_worker.specs.Workers.{fault_by, hindered, is_due, order_at, outcome_by, prepares, reported, resolved_as, work_stage_after, told_stage}
use Rattle.orc_worker.specs.declared.report.Outcome.{Outcome}
use Rattle.orc_worker.specs.declared.report.Outcome.TheVariants as outcome
use Rattle.orc_worker.specs.declared.report.Report.{Report}
use Rattle.orc_worker.specs.declared.stage.Stage.{Stage}
use Rattle.orc_worker.specs.declared.stage.Stage.TheVariants as stage
use Rattle.orc_rules.specs.Courses.{agrees, stands_undecided, is_clear, is_final, is_hindered, is_none, is_prepared, is_resolved_outcome}
use Rattle.orc_rules.specs.Duties.{cause_by, is_over}
use Rattle.orc_rules.specs.Kept.{is_stale}
use Rattle.orc_rules.specs.Transactions.{is_lost}
use Rattle.orc_rules.specs.Works.{hinders, worker_clears, worker_spoils}

-- whether there is one more cause of staleness
abbrev Told : Option Report → ℕ → Bool
Told report t = is_stale (Some (cause_by t report))

or_false : (b : Bool) → (b || false) ≡ b
or_false true = refl
or_false false = refl

or_true : (b : Bool) → (b || true) ≡ true
or_true true = refl
or_true false = refl

-- outcomes of classes

final_lost : (o : Option Outcome) → is_lost o ≡ true → is_final o ≡ true
final_lost o h = ap (λ (b : Bool). b || is_clear o) h

final_clear : (o : Option Outcome) → is_clear o ≡ true → is_final o ≡ true
final_clear o h = ap (λ (b : Bool). is_lost o || b) h ∙ or_true (is_lost o)

clear_hindered : (o : Option Outcome) → is_hindered o ≡ true → is_clear o ≡ true
clear_hindered o h = ap (λ (b : Bool). b || is_resolved_outcome o) h

clear_resolved : (o : Option Outcome) → is_resolved_outcome o ≡ true → is_clear o ≡ true
clear_resolved o h = ap (λ (b : Bool). is_hindered o || b) h ∙ or_true (is_hindered o)

hindered_some : (o : Option Outcome) → is_hindered o ≡ true → is_none o ≡ false
hindered_some None h = cc
hindered_some (Some x) h = refl

prepared_some : (o : Option Outcome) → is_prepared o ≡ true → is_none o ≡ false
prepared_some None h = cc
prepared_some (Some x) h = refl

lost_some : (o : Option Outcome) → is_lost o ≡ true → is_none o ≡ false
lost_some None h = cc
lost_some (Some x) h = refl

resolved_some : (o : Option Outcome) → is_resolved_outcome o ≡ true → is_none o ≡ false
resolved_some None h = cc
resolved_some (Some x) h = refl

final_some : (o : Option Outcome) → is_final o ≡ true → is_none o ≡ false
final_some None h = cc
final_some (Some x) h = refl

-- one that has ended otherwise than lost is clear
pub final_clears : (o : Option Outcome) → is_final o ≡ true → is_lost o ≡ false → is_clear o ≡ true
final_clears o h unlost = ap (λ (b : Bool). b || is_clear o) (sym unlost) ∙ h

-- replies to what is due -----------------------------------------------------------------------------------------------

module _ (f : ℕ) where
  prepares_agree : (next : Stage) (o : Option Outcome) (r : Reply) → agrees next o ≡ true → agrees (prepares next r) (option_or (hindered None r f) o) ≡ true
  prepares_agree next o reply.Ok h = h
  prepares_agree next o (reply.Tree tree) h = refl
  prepares_agree next o (reply.Refused tag) h = refl
  prepares_agree next o reply.Fault h = refl
  prepares_agree next o reply.Memory h = refl

  commits_agree : (o : Option Outcome) (r : Reply) → agrees (prepares stage.Prepared r) (option_or (hindered (Some outcome.Prepared) r f) o) ≡ true
  commits_agree o reply.Ok = refl
  commits_agree o (reply.Tree tree) = refl
  commits_agree o (reply.Refused tag) = refl
  commits_agree o reply.Fault = refl
  commits_agree o reply.Memory = refl

  resolves_agree : (next : Stage) (good absent : Outcome) (r : Reply) → agrees next (Some good) ≡ true → agrees next (Some absent) ≡ true
      → agrees (cond (is_good r) next stage.Over) (Some (resolved_as good absent r f)) ≡ true
  resolves_agree next good absent reply.Ok h h' = h
  resolves_agree next good absent (reply.Tree tree) h h' = refl
  resolves_agree next good absent (reply.Refused tag) h h' = go (is_invalid_value tag)
    where
      go : (b : Bool) → agrees (cond b next stage.Over) (Some (cond b absent (outcome.Lost f))) ≡ true
      go true = h'
      go false = refl
  resolves_agree next good absent reply.Fault h h' = refl
  resolves_agree next good absent reply.Memory h h' = refl

  reopens_agree : (o : Option Outcome) (r : Reply) → is_lost o ≡ true
      → agrees (cond (is_ok r) stage.Recancelling stage.Over) (option_or (cond (is_ok r) None (Some (outcome.Lost f))) o) ≡ true
  reopens_agree o reply.Ok h = h
  reopens_agree o (reply.Tree tree) h = refl
  reopens_agree o (reply.Refused tag) h = refl
  reopens_agree o reply.Fault h = refl
  reopens_agree o reply.Memory h = refl

  pub took_agrees : (st : Stage) (o : Option Outcome) (r : Reply) → agrees st o ≡ true → agrees (work_stage_after st r) (option_or (outcome_by st r f) o) ≡ true
  took_agrees stage.Opening o r h = prepares_agree stage.LockingRunning o r h
  took_agrees stage.LockingRunning o r h = prepares_agree stage.LockingCandidate o r h
  took_agrees stage.LockingCandidate o r h = prepares_agree stage.Editing o r h
  took_agrees stage.Editing o r h = prepares_agree stage.Validating o r h
  took_agrees stage.Validating o r h = prepares_agree stage.Committing o r h
  took_agrees stage.Committing o r h = commits_agree o r
  took_agrees stage.Refusing o r h = final_clear o (clear_hindered o h)
  took_agrees stage.Prepared o r h = h
  took_agrees stage.Lost o r h = h
  took_agrees stage.Confirming o r h = resolves_agree stage.UnlockingCandidate outcome.Confirmed outcome.Gone r refl refl
  took_agrees stage.Cancelling o r h = resolves_agree stage.UnlockingCandidate outcome.Cancelled outcome.Cancelled r refl refl
  took_agrees stage.Reopening o r h = reopens_agree o r h
  took_agrees stage.Recancelling o r h = resolves_agree stage.Closing outcome.Cancelled outcome.Cancelled r refl refl
  took_agrees stage.UnlockingCandidate o r h = h
  took_agrees stage.UnlockingRunning o r h = h
  took_agrees stage.Closing o r h = final_clear o (clear_resolved o h)
  took_agrees stage.Over o r h = h

  -- and so does one that no decision was told

  prepares_before : (next : Stage) (by o : Option Outcome) (r : Reply) → ((x : Option Outcome) → stands_undecided next x ≡ true)
      → stands_undecided (prepares next r) (option_or (hindered by r f) o) ≡ true
  prepares_before next by o reply.Ok h = h (option_or by o)
  prepares_before next by o (reply.Tree tree) h = refl
  prepares_before next by o (reply.Refused tag) h = refl
  prepares_before next by o reply.Fault h = refl
  prepares_before next by o reply.Memory h = refl

  pub took_before : (st : Stage) (o : Option Outcome) (r : Reply) → agrees st o ≡ true → stands_undecided st o ≡ true
      → stands_undecided (work_stage_after st r) (option_or (outcome_by st r f) o) ≡ true
  took_before stage.Opening o r a h = prepares_before stage.LockingRunning None o r (λ x. refl)
  took_before stage.LockingRunning o r a h = prepares_before stage.LockingCandidate None o r (λ x. refl)
  took_before stage.LockingCandidate o r a h = prepares_before stage.Editing None o r (λ x. refl)
  took_before stage.Editing o r a h = prepares_before stage.Validating None o r (λ x. refl)
  took_before stage.Validating o r a h = prepares_before stage.Committing None o r (λ x. refl)
  took_before stage.Committing o r a h = prepares_before stage.Prepared (Some outcome.Prepared) o r (λ x. refl)
  took_before stage.Refusing o r a h = a
  took_before stage.Prepared o r a h = refl
  took_before stage.Lost o r a h = refl
  took_before stage.Confirming o r a h = cc
  took_before stage.Cancelling o r a h = cc
  took_before stage.Reopening o r a h = cc
  took_before stage.Recancelling o r a h = cc
  took_before stage.UnlockingCandidate o r a h = cc
  took_before stage.UnlockingRunning o r a h = cc
  took_before stage.Closing o r a h = cc
  took_before stage.Over o r a h = h

  -- where it clears

  prepares_clear : (o : Option Outcome) (r : Reply) → is_clear (option_or (hindered None r f) o) ≡ true → (hinders r ≡ true) ⊎ (is_clear o ≡ true)
  prepares_clear o reply.Ok h = inr h
  prepares_clear o (reply.Tree tree) h = inl refl
  prepares_clear o (reply.Refused tag) h = inl refl
  prepares_clear o reply.Fault h = absurd (false≢true h)
  prepares_clear o reply.Memory h = inl refl

  commits_clear : (o : Option Outcome) (r : Reply) → is_clear (option_or (hindered (Some outcome.Prepared) r f) o) ≡ true → (hinders r ≡ true) ⊎ (is_clear o ≡ true)
  commits_clear o reply.Ok h = absurd (false≢true h)
  commits_clear o (reply.Tree tree) h = inl refl
  commits_clear o (reply.Refused tag) h = inl refl
  commits_clear o reply.Fault h = absurd (false≢true h)
  commits_clear o reply.Memory h = inl refl

  resolves_clear : (good absent : Outcome) (o : Option Outcome) (r : Reply) → is_clear (Some (resolved_as good absent r f)) ≡ true → (is_good r ≡ true) ⊎ (is_clear o ≡ true)
  resolves_clear good absent o reply.Ok h = inl refl
  resolves_clear good absent o (reply.Tree tree) h = absurd (false≢true h)
  resolves_clear good absent o (reply.Refused tag) h = go (is_invalid_value tag) h
    where
      go : (b : Bool) → is_clear (Some (cond b absent (outcome.Lost f))) ≡ true → (b ≡ true) ⊎ (is_clear o ≡ true)
      go true h' = inl refl
      go false h' = absurd (false≢true h')
  resolves_clear good absent o reply.Fault h = absurd (false≢true h)
  resolves_clear good absent o reply.Memory h = absurd (false≢true h)

  reopens_clear : (o : Option Outcome) (r : Reply) → is_clear (option_or (cond (is_ok r) None (Some (outcome.Lost f))) o) ≡ true → (false ≡ true) ⊎ (is_clear o ≡ true)
  reopens_clear o reply.Ok h = inr h
  reopens_clear o (reply.Tree tree) h = inl h
  reopens_clear o (reply.Refused tag) h = inl h
  reopens_clear o reply.Fault h = inl h
  reopens_clear o reply.Memory h = inl h

  pub took_clear : (st : Stage) (o : Option Outcome) (r : Reply) → is_clear (option_or (outcome_by st r f) o) ≡ true → (worker_clears st r ≡ true) ⊎ (is_clear o ≡ true)
  took_clear stage.Opening o r h = prepares_clear o r h
  took_clear stage.LockingRunning o r h = prepares_clear o r h
  took_clear stage.LockingCandidate o r h = prepares_clear o r h
  took_clear stage.Editing o r h = prepares_clear o r h
  took_clear stage.Validating o r h = prepares_clear o r h
  took_clear stage.Committing o r h = commits_clear o r h
  took_clear stage.Refusing o r h = inr h
  took_clear stage.Prepared o r h = inr h
  took_clear stage.Lost o r h = inr h
  took_clear stage.Confirming o r h = resolves_clear outcome.Confirmed outcome.Gone o r h
  took_clear stage.Cancelling o r h = resolves_clear outcome.Cancelled outcome.Cancelled o r h
  took_clear stage.Reopening o r h = reopens_clear o r h
  took_clear stage.Recancelling o r h = resolves_clear outcome.Cancelled outcome.Cancelled o r h
  took_clear stage.UnlockingCandidate o r h = inr h
  took_clear stage.UnlockingRunning o r h = inr h
  took_clear stage.Closing o r h = inr h
  took_clear stage.Over o r h = inr h

  -- and what it says of staleness
  module _ (t : ℕ) where
    quiet_tells : (o : Option Outcome) → Told (reported None o None) t ≡ false
    quiet_tells None = refl
    quiet_tells (Some x) = refl

    prepares_tell : (o : Option Outcome) (r : Reply) → Told (reported (hindered None r f) o (cond (is_fault r) (Some f) None)) t ≡ is_fault r
    prepares_tell o reply.Ok = quiet_tells o
    prepares_tell o (reply.Tree tree) = refl
    prepares_tell o (reply.Refused tag) = refl
    prepares_tell o reply.Fault = refl
    prepares_tell o reply.Memory = refl

    commits_tell : (o : Option Outcome) (r : Reply) → Told (reported (hindered (Some outcome.Prepared) r f) o (cond (is_fault r) (Some f) None)) t ≡ is_fault r
    commits_tell o reply.Ok = refl
    commits_tell o (reply.Tree tree) = refl
    commits_tell o (reply.Refused tag) = refl
    commits_tell o reply.Fault = refl
    commits_tell o reply.Memory = refl

    later_tells : (o : Option Outcome) (r : Reply) → is_none o ≡ false → Told (reported None o (cond (is_fault r) (Some f) None)) t ≡ is_fault r
    later_tells None r h = cc
    later_tells (Some x) reply.Ok h = refl
    later_tells (Some x) (reply.Tree tree) h = refl
    later_tells (Some x) (reply.Refused tag) h = refl
    later_tells (Some x) reply.Fault h = refl
    later_tells (Some x) reply.Memory h = refl

    confirms_tell : (o : Option Outcome) (r : Reply)
        → Told (reported (Some (resolved_as outcome.Confirmed outcome.Gone r f)) o (cond (not (is_good r)) (Some f) None)) t ≡ not (is_ok r)
    confirms_tell o reply.Ok = refl
    confirms_tell o (reply.Tree tree) = refl
    confirms_tell o (reply.Refused tag) = go (is_invalid_value tag)
      where
        go : (b : Bool) → Told (reported (Some (cond b outcome.Gone (outcome.Lost f))) o (cond (not b) (Some f) None)) t ≡ true
        go true = refl
        go false = refl
    confirms_tell o reply.Fault = refl
    confirms_tell o reply.Memory = refl

    cancels_tell : (o : Option Outcome) (r : Reply)
        → Told (reported (Some (resolved_as outcome.Cancelled outcome.Cancelled r f)) o (cond (not (is_good r)) (Some f) None)) t ≡ not (is_good r)
    cancels_tell o reply.Ok = refl
    cancels_tell o (reply.Tree tree) = refl
    cancels_tell o (reply.Refused tag) = go (is_invalid_value tag)
      where
        go : (b : Bool) → Told (reported (Some (cond b outcome.Cancelled (outcome.Lost f))) o (cond (not b) (Some f) None)) t ≡ not b
        go true = refl
        go false = refl
    cancels_tell o reply.Fault = refl
    cancels_tell o reply.Memory = refl

    reopens_tell : (o : Option Outcome) (r : Reply)
        → Told (reported (cond (is_ok r) None (Some (outcome.Lost f))) o (cond (not (is_ok r)) (Some f) None)) t ≡ not (is_ok r)
    reopens_tell o reply.Ok = quiet_tells o
    reopens_tell o (reply.Tree tree) = refl
    reopens_tell o (reply.Refused tag) = refl
    reopens_tell o reply.Fault = refl
    reopens_tell o reply.Memory = refl

    -- a report makes the device stale exactly where the reply spoils it
    pub spoils_tell : (st : Stage) (o : Option Outcome) (r : Reply) → agrees st o ≡ true
        → Told (reported (outcome_by st r f) o (fault_by st r f)) t ≡ worker_spoils st r
    spoils_tell stage.Opening o r h = prepares_tell o r
    spoils_tell stage.LockingRunning o r h = prepares_tell o r
    spoils_tell stage.LockingCandidate o r h = prepares_tell o r
    spoils_tell stage.Editing o r h = prepares_tell o r
    spoils_tell stage.Validating o r h = prepares_tell o r
    spoils_tell stage.Committing o r h = commits_tell o r
    spoils_tell stage.Refusing o r h = later_tells o r (hindered_some o h)
    spoils_tell stage.Prepared o r h = later_tells o r (prepared_some o h)
    spoils_tell stage.Lost o r h = later_tells o r (lost_some o h)
    spoils_tell stage.Confirming o r h = confirms_tell o r
    spoils_tell stage.Cancelling o r h = cancels_tell o r
    spoils_tell stage.Reopening o r h = reopens_tell o r
    spoils_tell stage.Recancelling o r h = cancels_tell o r
    spoils_tell stage.UnlockingCandidate o r h = later_tells o r (resolved_some o h)
    spoils_tell stage.UnlockingRunning o r h = later_tells o r (resolved_some o h)
    spoils_tell stage.Closing o r h = later_tells o r (resolved_some o h)
    spoils_tell stage.Over o r h = later_tells o r (final_some o h)

-- decisions ------------------------------------------------------------------------------------------------------------

pub told_agrees : (st : Stage) (o : Option Outcome) (commit : Bool) → agrees st o ≡ true → agrees (told_stage st commit) o ≡ true
told_agrees stage.Prepared o true h = h
told_agrees stage.Prepared o false h = h
told_agrees stage.Lost o true h = final_lost o h
told_agrees stage.Lost o false h = h
told_agrees st o commit h = h

-- stages ---------------------------------------------------------------------------------------------------------------

pub not_over_before : (st : Stage) (r : Reply) → is_over (work_stage_after st r) ≡ false → is_over st ≡ false
not_over_before stage.Over r h = h
not_over_before st r h = refl

pub order_due : (t : ℕ) (set : ChangeSet) (st : Stage) (op : Op) → order_at t set st ≡ Some op → (is_due st ≡ true) × (is_over st ≡ false)
order_due t set stage.Prepared op e = cc
order_due t set stage.Lost op e = cc
order_due t set stage.Over op e = cc
order_due t set st op e = (refl, refl)

pub due_not_over : (st : Stage) → is_due st ≡ true → is_over st ≡ false
due_not_over stage.Over h = cc
due_not_over st h = refl
