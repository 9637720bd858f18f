-- Where a link's fault is known of, there was one.
use Rattle.std.proofs.Common.{◌≡◌, ◌⊎◌, inl, inr, ⊎_elim, ℕ, Bool, true, false, cond, nat_eq, Option, Some, None, List, [], ◌∷◌, map, refl, sym, ap, subst, ◌∙◌, eq-eqb, eqb-true, zero, suc}
use Rattle.std.specs.Prelude.{slice_get, slice_set}
use Rattle.std.specs.Option.{option_map, option_map_or, option_or}
use Rattle.std.proofs.lemmas.Bool.{false≢true}
use Rattle.std.proofs.lemmas.Option.{same_Some}
use Rattle.orc_call.specs.declared.answer.RecFault.TheVariants as fault
use Rattle.orc_call.specs.declared.answer.Tag.TheVariants as tag
use Rattle.orc_call.specs.declared.answer.Why.{Why}
use Rattle.orc_call.specs.declared.answer.Why.TheVariants as why
use Rattle.orc_device.specs.Links.{Way, Way as way, way_reply}
use Rattle.orc_device.specs.Listings.{kind_of_op, without_first}
use Rattle.orc_device.specs.Operations.{is_fault, is_invalid_value, is_ok, mark_of}
use Rattle.orc_device.specs.declared.kind.OpKind.{OpKind}
use Rattle.orc_device.specs.declared.kind.OpKind.TheVariants as kind
use Rattle.orc_device.specs.declared.kind.When.{When}
use Rattle.orc_device.specs.declared.op.Op.{Op}
use Rattle.orc_device.specs.declared.op.Op.TheVariants as ops
use Rattle.orc_device.specs.declared.reply.Mark.TheVariants as mark
use Rattle.orc_device.specs.declared.reply.Reply.{Reply}
use Rattle.orc_device.specs.declared.reply.Reply.TheVariants as reply
use Rattle.orc_journal.specs.declared.entry.Entry.{Entry}
use Rattle.orc_recover.specs.Menders.{MenderState, ends_unless, failed_by, mend_end_at, mender_end, read_end}
use Rattle.orc_recover.specs.declared.ends.Mend.{Mend}
use Rattle.orc_recover.specs.declared.ends.Mend.TheVariants as mend
use Rattle.orc_recover.specs.declared.stage.MendStage.{MendStage}
use Rattle.orc_recover.specs.declared.stage.MendStage.TheVariants as mend_stage
use Rattle.orc_tree.specs.declared.change.ChangeSet.{ChangeSet}
use Rattle.orc_worker.specs.Workers.{hindered, is_waiting, new_worker, order_at, outcome_by, resolved_as, worker_order, prepares, spoils, told_stage, work_stage_after, worker_report}
use Rattle.orc_worker.specs.Workers.{reported as report_of}
use Rattle.orc_worker.specs.declared.report.Outcome.{Outcome}
use Rattle.orc_worker.specs.declared.report.Outcome.TheVariants as outcome
use Rattle.orc_worker.specs.declared.report.Report.{Report}
use Rattle.orc_worker.specs.declared.stage.Stage.{Stage}
use Rattle.orc_worker.specs.declared.stage.Stage.TheVariants as stage
use Rattle.orc_worker.specs.declared.worker.Worker.{Worker}
use Rattle.orc_rules.specs.Acceptance.{IsHonest}
use Rattle.orc_rules.specs.Admissions.{Passes, started}
use Rattle.orc_rules.specs.Cells.{updated_at}
use Rattle.orc_rules.specs.Courses.{agrees, stands_undecided}
use Rattle.orc_rules.specs.Duties.{cause_by, duty_end, duty_order, duty_told, duty_took, gone_cause, is_busy, stale_by, stale_ended}
use Rattle.orc_rules.specs.Events.{DoesUnderHub, mender_freed, performed_with, unsent}
use Rattle.orc_rules.specs.Hubs.{Hub, due_on, duty_on, hub_reported, mend_fault, with_changed}
use Rattle.orc_rules.specs.Fits.{IsFirstFit, first_stale}
use Rattle.orc_rules.specs.Journals.{history_read}
use Rattle.orc_rules.specs.Worlds.{IsIdle, Link, Setting, World, declared}
use Rattle.orc_rules.specs.declared.transaction.Waiting.{Waiting}
use Rattle.orc_rules.proofs.Moving.{due_is, order_is}
use Rattle.orc_rules.specs.declared.duty.Duty.{Duty}
use Rattle.orc_rules.specs.declared.duty.Duty.TheVariants as duty
use Rattle.orc_rules.specs.declared.event.Event.{Event}
use Rattle.orc_rules.specs.declared.event.Event.TheVariants as event
use Rattle.orc_rules.proofs.Recording.{given_at, given_other}
use Rattle.orc_rules.proofs.Reporting.{get_changed, get_other}
use Rattle.orc_rules.proofs.Slots.{told_at, told_busy, told_works, took_here, took_there, took_works}

-- replies

fault_is : (r : Reply) → is_fault r ≡ true → r ≡ reply.Fault
fault_is reply.Ok h = absurd (false≢true h)
fault_is (reply.Tree tree) h = absurd (false≢true h)
fault_is (reply.Refused tag) h = absurd (false≢true h)
fault_is reply.Fault h = refl
fault_is reply.Memory h = absurd (false≢true h)

-- a reply by which a worker is lost in preparing, or it was lost before
abbrev IsLostBy : Stage → Option Outcome → Reply → ℕ → ℕ → Type 0
IsLostBy st o r f count = ((st ≡ stage.Lost) × (o ≡ Some (outcome.Lost count))) ⊎ ((r ≡ reply.Fault) × (count ≡ f))

prepares_lost : (st next : Stage) (by o : Option Outcome) (r : Reply) (f count : ℕ) → (next ≡ stage.Lost → ⊥) → prepares next r ≡ stage.Lost
    → option_or (hindered by r f) o ≡ Some (outcome.Lost count) → IsLostBy st o r f count
prepares_lost st next by o reply.Ok f count apart is h = absurd (apart is)
prepares_lost st next by o (reply.Tree tree) f count apart is h = absurd cc
prepares_lost st next by o (reply.Refused tag) f count apart is h = absurd cc
prepares_lost st next by o reply.Fault f count apart is h = inr (refl, (let same : ◌≡◌ {A = Option Outcome} (Some (outcome.Lost f)) (Some (outcome.Lost count)) = h in cc))
prepares_lost st next by o reply.Memory f count apart is h = absurd cc

not_lost : (b : Bool) (x : Stage) → (x ≡ stage.Lost → ⊥) → cond b x stage.Over ≡ stage.Lost → ⊥
not_lost true x apart h = apart h
not_lost false x apart h = cc

took_lost : (st : Stage) (o : Option Outcome) (r : Reply) (f count : ℕ) → work_stage_after st r ≡ stage.Lost → option_or (outcome_by st r f) o ≡ Some (outcome.Lost count) → IsLostBy st o r f count
took_lost stage.Opening o r f count is h = prepares_lost stage.Opening stage.LockingRunning None o r f count (λ e. cc) is h
took_lost stage.LockingRunning o r f count is h = prepares_lost stage.LockingRunning stage.LockingCandidate None o r f count (λ e. cc) is h
took_lost stage.LockingCandidate o r f count is h = prepares_lost stage.LockingCandidate stage.Editing None o r f count (λ e. cc) is h
took_lost stage.Editing o r f count is h = prepares_lost stage.Editing stage.Validating None o r f count (λ e. cc) is h
took_lost stage.Validating o r f count is h = prepares_lost stage.Validating stage.Committing None o r f count (λ e. cc) is h
took_lost stage.Committing o r f count is h = prepares_lost stage.Committing stage.Prepared (Some outcome.Prepared) o r f count (λ e. cc) is h
took_lost stage.Refusing o r f count is h = absurd cc
took_lost stage.Prepared o r f count is h = absurd cc
took_lost stage.Lost o r f count is h = inl (refl, h)
took_lost stage.Confirming o r f count is h = absurd (not_lost _ stage.UnlockingCandidate (λ e. cc) is)
took_lost stage.Cancelling o r f count is h = absurd (not_lost _ stage.UnlockingCandidate (λ e. cc) is)
took_lost stage.Reopening o r f count is h = absurd (not_lost _ stage.Recancelling (λ e. cc) is)
took_lost stage.Recancelling o r f count is h = absurd (not_lost _ stage.Closing (λ e. cc) is)
took_lost stage.UnlockingCandidate o r f count is h = absurd cc
took_lost stage.UnlockingRunning o r f count is h = absurd cc
took_lost stage.Closing o r f count is h = absurd cc
took_lost stage.Over o r f count is h = absurd cc

told_not_lost : (st : Stage) (commit : Bool) → is_waiting st ≡ true → told_stage st commit ≡ stage.Lost → ⊥
told_not_lost stage.Prepared true h e = cc
told_not_lost stage.Prepared false h e = cc
told_not_lost stage.Lost true h e = cc
told_not_lost stage.Lost false h e = cc
told_not_lost stage.Opening commit h e = cc
told_not_lost stage.LockingRunning commit h e = cc
told_not_lost stage.LockingCandidate commit h e = cc
told_not_lost stage.Editing commit h e = cc
told_not_lost stage.Validating commit h e = cc
told_not_lost stage.Committing commit h e = cc
told_not_lost stage.Refusing commit h e = cc
told_not_lost stage.Confirming commit h e = cc
told_not_lost stage.Cancelling commit h e = cc
told_not_lost stage.Reopening commit h e = cc
told_not_lost stage.Recancelling commit h e = cc
told_not_lost stage.UnlockingCandidate commit h e = cc
told_not_lost stage.UnlockingRunning commit h e = cc
told_not_lost stage.Closing commit h e = cc
told_not_lost stage.Over commit h e = cc

-- a worker that is lost, and that no decision reached, is at the stage Lost
pub lost_stage : (st : Stage) (count : ℕ) → agrees st (Some (outcome.Lost count)) ≡ true → stands_undecided st (Some (outcome.Lost count)) ≡ true → st ≡ stage.Lost
lost_stage stage.Opening count h g = absurd (false≢true h)
lost_stage stage.LockingRunning count h g = absurd (false≢true h)
lost_stage stage.LockingCandidate count h g = absurd (false≢true h)
lost_stage stage.Editing count h g = absurd (false≢true h)
lost_stage stage.Validating count h g = absurd (false≢true h)
lost_stage stage.Committing count h g = absurd (false≢true h)
lost_stage stage.Refusing count h g = absurd (false≢true h)
lost_stage stage.Prepared count h g = absurd (false≢true h)
lost_stage stage.Lost count h g = refl
lost_stage stage.Confirming count h g = absurd (false≢true g)
lost_stage stage.Cancelling count h g = absurd (false≢true g)
lost_stage stage.Reopening count h g = absurd (false≢true g)
lost_stage stage.Recancelling count h g = absurd (false≢true g)
lost_stage stage.UnlockingCandidate count h g = absurd (false≢true g)
lost_stage stage.UnlockingRunning count h g = absurd (false≢true g)
lost_stage stage.Closing count h g = absurd (false≢true g)
lost_stage stage.Over count h g = absurd (false≢true g)

-- a mender ends by a link's fault only where one was replied
failed_fault : (r : Reply) (f count : ℕ) → failed_by r f ≡ mend.LinkFault count → (r ≡ reply.Fault) × (count ≡ f)
failed_fault reply.Ok f count h = absurd cc
failed_fault (reply.Tree tree) f count h = absurd cc
failed_fault (reply.Refused tag) f count h = absurd cc
failed_fault reply.Fault f count h = (refl, (let same : mend.LinkFault f ≡ mend.LinkFault count = h in cc))
failed_fault reply.Memory f count h = absurd cc

some_failed : (r : Reply) (f count : ℕ) → ◌≡◌ {A = Option Mend} (Some (failed_by r f)) (Some (mend.LinkFault count)) → (r ≡ reply.Fault) × (count ≡ f)
some_failed r f count h = failed_fault r f count (same_Some (failed_by r f) (mend.LinkFault count) h)

unless_fault : (b : Bool) (r : Reply) (f count : ℕ) → ends_unless b r f ≡ Some (mend.LinkFault count) → (r ≡ reply.Fault) × (count ≡ f)
unless_fault true r f count h = absurd cc
unless_fault false r f count h = some_failed r f count h

closing_fault : (b : Bool) (r : Reply) (f count : ℕ) → cond b (Some mend.Done) (Some (failed_by r f)) ≡ Some (mend.LinkFault count) → (r ≡ reply.Fault) × (count ≡ f)
closing_fault true r f count h = absurd cc
closing_fault false r f count h = some_failed r f count h

reading_fault : (r : Reply) (f count : ℕ) → read_end r f ≡ Some (mend.LinkFault count) → (r ≡ reply.Fault) × (count ≡ f)
reading_fault reply.Ok f count h = some_failed reply.Ok f count h
reading_fault (reply.Tree tree) f count h = absurd cc
reading_fault (reply.Refused tag) f count h = some_failed (reply.Refused tag) f count h
reading_fault reply.Fault f count h = some_failed reply.Fault f count h
reading_fault reply.Memory f count h = some_failed reply.Memory f count h

pub end_fault : (at : MendStage) (left : List (ℕ × Bool)) (r : Reply) (f count : ℕ) → mend_end_at at left r f ≡ Some (mend.LinkFault count) → (r ≡ reply.Fault) × (count ≡ f)
end_fault mend_stage.Resolving [] r f count h = reading_fault r f count h
end_fault mend_stage.Resolving (one ∷ left) r f count h = unless_fault _ r f count h
end_fault mend_stage.Opening left r f count h = unless_fault _ r f count h
end_fault (mend_stage.LockingRunning read) left r f count h = unless_fault _ r f count h
end_fault (mend_stage.LockingCandidate read) left r f count h = unless_fault _ r f count h
end_fault (mend_stage.Editing read) left r f count h = unless_fault _ r f count h
end_fault mend_stage.Validating left r f count h = unless_fault _ r f count h
end_fault mend_stage.Committing left r f count h = unless_fault _ r f count h
end_fault mend_stage.UnlockingCandidate left r f count h = unless_fault _ r f count h
end_fault mend_stage.UnlockingRunning left r f count h = unless_fault _ r f count h
end_fault mend_stage.Closing left r f count h = closing_fault _ r f count h
end_fault mend_stage.Over left r f count h = absurd cc

pub duty_fault : (on : Duty) (r : Reply) (f count : ℕ) → duty_end on r f ≡ Some (mend.LinkFault count) → (r ≡ reply.Fault) × (count ≡ f)
duty_fault duty.Free r f count h = absurd cc
duty_fault (duty.Works worker) r f count h = absurd cc
duty_fault (duty.Mends mender) r f count h = end_fault mender.stage mender.left r f count h

-- a reconciliation meets a link's fault only where mending the device ended by it
pub met_fault : (device x : ℕ) (o : Option Mend) (count : ℕ) → mend_fault device o ≡ Some (fault.LinkFault x count) → (device ≡ x) × (o ≡ Some (mend.LinkFault count))
met_fault device x None count h = absurd cc
met_fault device x (Some (mend.LinkFault c)) count h =
    let same : fault.LinkFault device c ≡ fault.LinkFault x count = same_Some (fault.LinkFault device c) (fault.LinkFault x count) h in
    (cc, ap (λ n. Some (mend.LinkFault n)) (let one : c ≡ count = cc in one))
met_fault device x (Some (mend.Refused tag)) count h = absurd cc
met_fault device x (Some mend.Memory) count h = absurd cc
met_fault device x (Some mend.Done) count h = absurd cc

-- a device is stale by a fault only where a reply is one, or was so before
report_fault : (b o : Option Outcome) (f : Option ℕ) (report : Report) → report_of b o f ≡ Some report → report.fault ≡ f
report_fault (Some brought) o f report h = ap (λ (r : Report). r.fault) (sym (same_Some _ report h))
report_fault None (Some before) (Some count) report h = ap (λ (r : Report). r.fault) (sym (same_Some _ report h))
report_fault None (Some before) None report h = absurd cc
report_fault None None f report h = absurd cc

spoiled : (b : Bool) (f count : ℕ) → cond b (Some f) None ≡ Some count → (b ≡ true) × (count ≡ f)
spoiled true f count h = (refl, sym (same_Some f count h))
spoiled false f count h = absurd cc

cause_fault : (t : ℕ) (o : Option Report) (count : ℕ) → cause_by t o ≡ Some (why.Fault count) → (report : Report) × (o ≡ Some report) × (report.fault ≡ Some count)
cause_fault t None count h = absurd cc
cause_fault t (Some report) count h = (report, refl, on report.fault refl h)
  where
    gone : (one : Outcome) → gone_cause t one ≡ Some (why.Fault count) → ⊥
    gone outcome.Gone e = cc
    gone outcome.Prepared e = cc
    gone (outcome.Refused tag) e = cc
    gone (outcome.Lost n) e = cc
    gone outcome.Short e = cc
    gone outcome.Confirmed e = cc
    gone outcome.Cancelled e = cc

    on : (f : Option ℕ) → report.fault ≡ f → option_map_or (λ n. Some (why.Fault n)) f (gone_cause t report.outcome) ≡ Some (why.Fault count) → report.fault ≡ Some count
    on None is e = absurd (gone report.outcome e)
    on (Some n) is e = is ∙ ap Some (let same : ◌≡◌ {A = Option Why} (Some (why.Fault n)) (Some (why.Fault count)) = e in cc)

worker_fault : (worker : Worker) (r : Reply) (f count : ℕ) → (spoils worker.stage r ≡ true → is_fault r ≡ true) → cause_by worker.t (worker_report worker r f) ≡ Some (why.Fault count)
    → (r ≡ reply.Fault) × (count ≡ f)
worker_fault worker r f count honest h =
    let c = cause_fault worker.t (worker_report worker r f) count h in
    let s = spoiled (spoils worker.stage r) f count (sym (report_fault (outcome_by worker.stage r f) worker.outcome _ c.0 c.1) ∙ c.2) in
    (fault_is r (honest s.0), s.1)

pub or_some : {X : Type 0} (a b : Option X) (x : X) → option_or a b ≡ Some x → (a ≡ Some x) ⊎ (b ≡ Some x)
or_some None b x h = inr h
or_some (Some y) b x h = inl h

ended_fault : (before : Option Why) (o : Option Mend) (count : ℕ) → stale_ended before o ≡ Some (why.Fault count) → (before ≡ Some (why.Fault count)) ⊎ (o ≡ Some (mend.LinkFault count))
ended_fault before None count h = inl h
ended_fault before (Some mend.Done) count h = absurd cc
ended_fault before (Some (mend.LinkFault c)) count h = ⊎_elim (λ old. inl old)
    (λ new. inr (ap (λ n. Some (mend.LinkFault n)) (let same : ◌≡◌ {A = Option Why} (Some (why.Fault c)) (Some (why.Fault count)) = new in cc)))
    (or_some before (Some (why.Fault c)) (why.Fault count) h)
ended_fault before (Some (mend.Refused tag)) count h = inl h
ended_fault before (Some mend.Memory) count h = inl h

stale_fault : (on : Duty) (r : Reply) (f : ℕ) (before : Option Why) (count : ℕ) → IsHonest on r → stale_by on r f before ≡ Some (why.Fault count)
    → (before ≡ Some (why.Fault count)) ⊎ ((r ≡ reply.Fault) × (count ≡ f))
stale_fault duty.Free r f before count honest h = inl h
stale_fault (duty.Works worker) r f before count honest h = ⊎_elim (λ old. inl old) (λ new. inr (worker_fault worker r f count honest new))
    (or_some before (cause_by worker.t (worker_report worker r f)) (why.Fault count) h)
stale_fault (duty.Mends mender) r f before count honest h = ⊎_elim (λ old. inl old) (λ new. inr (end_fault mender.stage mender.left r f count new))
    (ended_fault before (mender_end mender r f) count h)

-- duties

-- after an admission a device does what it did, or a worker begins there
started_cases : (t : ℕ) (sets : List (ℕ × ChangeSet)) (duties : List Duty) (device : ℕ)
    → (duty_on (started t sets duties) device ≡ duty_on duties device) ⊎ ((set : ChangeSet) × (duty_on (started t sets duties) device ≡ duty.Works (new_worker t set)))
started_cases t [] duties device = inl refl
started_cases t (one ∷ sets) duties device = ⊎_elim
    (λ same. ⊎_elim
    (λ here. inr (one.1, same ∙ here))
    (λ there. inl (same ∙ there))
    (set_cases duties one.0 (duty.Works (new_worker t one.1)) device))
    (λ new. inr new)
    (started_cases t sets (slice_set duties one.0 (duty.Works (new_worker t one.1))) device)
  where
    set_cases : (xs : List Duty) (i : ℕ) (d : Duty) (j : ℕ) → (duty_on (slice_set xs i d) j ≡ d) ⊎ (duty_on (slice_set xs i d) j ≡ duty_on xs j)
    set_cases [] i d j = inr refl
    set_cases (x ∷ xs) zero d zero = inl refl
    set_cases (x ∷ xs) zero d (suc j) = inr refl
    set_cases (x ∷ xs) (suc i) d zero = inr refl
    set_cases (x ∷ xs) (suc i) d (suc j) = set_cases xs i d j

-- in a reconciliation no worker begins
all_mend : (f : ℕ → Duty) → ((d : ℕ) → (mender : MenderState) × (f d ≡ duty.Mends mender)) → (xs : List ℕ) (device : ℕ) (worker : Worker) → duty_on (map f xs) device ≡ duty.Works worker → ⊥
all_mend f mends [] device worker h = cc
all_mend f mends (x ∷ xs) zero worker h = let m = mends x in let no : duty.Mends m.0 ≡ duty.Works worker = sym m.1 ∙ h in cc
all_mend f mends (x ∷ xs) (suc device) worker h = all_mend f mends xs device worker h

freed_works : (xs : List Duty) (device : ℕ) (worker : Worker) → duty_on (map mender_freed xs) device ≡ duty.Works worker → duty_on xs device ≡ duty.Works worker
freed_works [] device worker h = h
freed_works (duty.Free ∷ xs) zero worker h = h
freed_works (duty.Works w ∷ xs) zero worker h = h
freed_works (duty.Mends m ∷ xs) zero worker h = absurd cc
freed_works (x ∷ xs) (suc device) worker h = freed_works xs device worker h

-- no reply in preparing says that
hindered_not : (next : Option Outcome) (r : Reply) (f : ℕ) → (next ≡ Some outcome.Gone → ⊥) → hindered next r f ≡ Some outcome.Gone → ⊥
hindered_not next reply.Ok f apart h = apart h
hindered_not next (reply.Tree tree) f apart h = cc
hindered_not next (reply.Refused tag) f apart h = cc
hindered_not next reply.Fault f apart h = cc
hindered_not next reply.Memory f apart h = cc

cancelled_not : (r : Reply) (f : ℕ) → resolved_as outcome.Cancelled outcome.Cancelled r f ≡ outcome.Gone → ⊥
cancelled_not reply.Ok f h = cc
cancelled_not (reply.Tree tree) f h = cc
cancelled_not (reply.Refused tag) f h = by (is_invalid_value tag) h
  where
    by : (b : Bool) → cond b outcome.Cancelled (outcome.Lost f) ≡ outcome.Gone → ⊥
    by true e = cc
    by false e = cc
cancelled_not reply.Fault f h = cc
cancelled_not reply.Memory f h = cc

opened_not : (b : Bool) (f : ℕ) → cond b None (Some (outcome.Lost f)) ≡ Some outcome.Gone → ⊥
opened_not true f h = cc
opened_not false f h = let no : outcome.Lost f ≡ outcome.Gone = same_Some (outcome.Lost f) outcome.Gone h in cc

ended_other : (before : Option Why) (o : Option Mend) (cause : Why) → ((n : ℕ) → why.Fault n ≡ cause → ⊥) → stale_ended before o ≡ Some cause → before ≡ Some cause
ended_other before None cause apart h = h
ended_other before (Some mend.Done) cause apart h = absurd cc
ended_other before (Some (mend.LinkFault c)) cause apart h = ⊎_elim (λ old. old) (λ new. absurd (apart c (same_Some (why.Fault c) cause new))) (or_some before (Some (why.Fault c)) cause h)
ended_other before (Some (mend.Refused tag)) cause apart h = h
ended_other before (Some mend.Memory) cause apart h = h

-- a worker finds its confirmed commit gone only as it confirms it, by invalid-value
gone_at : (st : Stage) (r : Reply) (f : ℕ) → outcome_by st r f ≡ Some outcome.Gone → (st ≡ stage.Confirming) × (r ≡ reply.Refused tag.InvalidValue)
gone_at stage.Confirming reply.Ok f h = absurd (let no : outcome.Confirmed ≡ outcome.Gone = same_Some outcome.Confirmed outcome.Gone h in cc)
gone_at stage.Confirming (reply.Tree tree) f h = absurd (let no : outcome.Lost f ≡ outcome.Gone = same_Some (outcome.Lost f) outcome.Gone h in cc)
gone_at stage.Confirming (reply.Refused tag.InvalidValue) f h = (refl, refl)
gone_at stage.Confirming (reply.Refused tag.LockDenied) f h = absurd (let no : outcome.Lost f ≡ outcome.Gone = same_Some (outcome.Lost f) outcome.Gone h in cc)
gone_at stage.Confirming (reply.Refused tag.InUse) f h = absurd (let no : outcome.Lost f ≡ outcome.Gone = same_Some (outcome.Lost f) outcome.Gone h in cc)
gone_at stage.Confirming (reply.Refused tag.OperationFailed) f h = absurd (let no : outcome.Lost f ≡ outcome.Gone = same_Some (outcome.Lost f) outcome.Gone h in cc)
gone_at stage.Confirming (reply.Refused tag.NoSession) f h = absurd (let no : outcome.Lost f ≡ outcome.Gone = same_Some (outcome.Lost f) outcome.Gone h in cc)
gone_at stage.Confirming reply.Fault f h = absurd (let no : outcome.Lost f ≡ outcome.Gone = same_Some (outcome.Lost f) outcome.Gone h in cc)
gone_at stage.Confirming reply.Memory f h = absurd (let no : outcome.Lost f ≡ outcome.Gone = same_Some (outcome.Lost f) outcome.Gone h in cc)
gone_at stage.Opening r f h = absurd (hindered_not None r f (λ e. cc) h)
gone_at stage.LockingRunning r f h = absurd (hindered_not None r f (λ e. cc) h)
gone_at stage.LockingCandidate r f h = absurd (hindered_not None r f (λ e. cc) h)
gone_at stage.Editing r f h = absurd (hindered_not None r f (λ e. cc) h)
gone_at stage.Validating r f h = absurd (hindered_not None r f (λ e. cc) h)
gone_at stage.Committing r f h = absurd (hindered_not (Some outcome.Prepared) r f (λ e. cc) h)
gone_at stage.Refusing r f h = absurd cc
gone_at stage.Prepared r f h = absurd cc
gone_at stage.Lost r f h = absurd cc
gone_at stage.Cancelling r f h = absurd (cancelled_not r f (same_Some _ outcome.Gone h))
gone_at stage.Reopening r f h = absurd (opened_not (is_ok r) f h)
gone_at stage.Recancelling r f h = absurd (cancelled_not r f (same_Some _ outcome.Gone h))
gone_at stage.UnlockingCandidate r f h = absurd cc
gone_at stage.UnlockingRunning r f h = absurd cc
gone_at stage.Closing r f h = absurd cc
gone_at stage.Over r f h = absurd cc

-- a report has the outcome Gone only where that was brought, or with a fault
report_gone : (b o : Option Outcome) (f : Option ℕ) (report : Report) → report_of b o f ≡ Some report → report.outcome ≡ outcome.Gone → (b ≡ Some outcome.Gone) ⊎ ((n : ℕ) × (report.fault ≡ Some n))
report_gone (Some brought) o f report h is = inl (ap (λ (x : Outcome). Some x) (ap (λ (r : Report). r.outcome) (same_Some _ report h) ∙ is))
report_gone None (Some before) (Some count) report h is = inr (count, ap (λ (r : Report). r.fault) (sym (same_Some _ report h)))
report_gone None (Some before) None report h is = absurd cc
report_gone None None f report h is = absurd cc

cause_gone : (t x : ℕ) (o : Option Report) → cause_by t o ≡ Some (why.Gone x) → (report : Report) × (o ≡ Some report) × (report.fault ≡ None) × (report.outcome ≡ outcome.Gone) × (t ≡ x)
cause_gone t x None h = absurd cc
cause_gone t x (Some report) h = let so = on report.fault refl h in (report, refl, so.0, so.1, so.2)
  where
    gone : (one : Outcome) → gone_cause t one ≡ Some (why.Gone x) → (one ≡ outcome.Gone) × (t ≡ x)
    gone outcome.Gone e = (refl, (let same : why.Gone t ≡ why.Gone x = same_Some (why.Gone t) (why.Gone x) e in cc))
    gone outcome.Prepared e = absurd cc
    gone (outcome.Refused tag) e = absurd cc
    gone (outcome.Lost n) e = absurd cc
    gone outcome.Short e = absurd cc
    gone outcome.Confirmed e = absurd cc
    gone outcome.Cancelled e = absurd cc

    on : (f : Option ℕ) → report.fault ≡ f → option_map_or (λ n. Some (why.Fault n)) f (gone_cause t report.outcome) ≡ Some (why.Gone x) → (report.fault ≡ None) × (report.outcome ≡ outcome.Gone) × (t ≡ x)
    on None is e = let g = gone report.outcome e in (is, g.0, g.1)
    on (Some n) is e = absurd (let no : why.Fault n ≡ why.Gone x = same_Some (why.Fault n) (why.Gone x) e in cc)

worker_gone : (worker : Worker) (r : Reply) (f x : ℕ) → cause_by worker.t (worker_report worker r f) ≡ Some (why.Gone x) → (outcome_by worker.stage r f ≡ Some outcome.Gone) × (worker.t ≡ x)
worker_gone worker r f x h =
    let c = cause_gone worker.t x (worker_report worker r f) h in (
      ⊎_elim
          (λ by. by)
          (λ faulted. absurd (let no : ◌≡◌ {A = Option ℕ} None (Some faulted.0) = sym c.2 ∙ faulted.1 in cc))
          (report_gone (outcome_by worker.stage r f) worker.outcome _ c.0 c.1 c.3),
      c.4,
    )

-- a report makes a device stale so only where a worker finds its confirmed commit gone, and never by a recovery
stale_gone : (on : Duty) (r : Reply) (f : ℕ) (before : Option Why) (x : ℕ) → stale_by on r f before ≡ Some (why.Gone x)
    → (before ≡ Some (why.Gone x)) ⊎ ((worker : Worker) × (on ≡ duty.Works worker) × (outcome_by worker.stage r f ≡ Some outcome.Gone) × (worker.t ≡ x))
stale_gone duty.Free r f before x h = inl h
stale_gone (duty.Works worker) r f before x h = ⊎_elim (λ old. inl old) (λ new. let g = worker_gone worker r f x new in inr (worker, refl, g.0, g.1))
    (or_some before (cause_by worker.t (worker_report worker r f)) (why.Gone x) h)
stale_gone (duty.Mends mender) r f before x h = inl (ended_other before (mender_end mender r f) (why.Gone x) (λ n e. cc) h)

stale_recovered : (on : Duty) (r : Reply) (f : ℕ) (before : Option Why) → stale_by on r f before ≡ Some why.Recovered → before ≡ Some why.Recovered
stale_recovered duty.Free r f before h = h
stale_recovered (duty.Works worker) r f before h = ⊎_elim (λ old. old) (λ new. absurd (never worker.t (worker_report worker r f) new))
    (or_some before (cause_by worker.t (worker_report worker r f)) why.Recovered h)
  where
    none : (t : ℕ) (one : Outcome) → gone_cause t one ≡ Some why.Recovered → ⊥
    none t outcome.Gone e = let no : why.Gone t ≡ why.Recovered = same_Some (why.Gone t) why.Recovered e in cc
    none t outcome.Prepared e = cc
    none t (outcome.Refused tag) e = cc
    none t (outcome.Lost n) e = cc
    none t outcome.Short e = cc
    none t outcome.Confirmed e = cc
    none t outcome.Cancelled e = cc

    on_fault : (t : ℕ) (o : Outcome) (f' : Option ℕ) → option_map_or (λ n. Some (why.Fault n)) f' (gone_cause t o) ≡ Some why.Recovered → ⊥
    on_fault t o None e = none t o e
    on_fault t o (Some n) e = let no : why.Fault n ≡ why.Recovered = same_Some (why.Fault n) why.Recovered e in cc

    never : (t : ℕ) (o : Option Report) → cause_by t o ≡ Some why.Recovered → ⊥
    never t None e = cc
    never t (Some report) e = on_fault t report.outcome report.fault e
stale_recovered (duty.Mends mender) r f before h = ended_other before (mender_end mender r f) why.Recovered (λ n e. cc) h

-- What is known of faults under a hub that is up, where this says why devices may be stale, and this by which faults workers
-- of a transaction were lost: so it is of each stale device and each lost worker, and will be once the hub has heard.
pub record UnderFaults (Came : ℕ → Why → Type 0) (Lost : ℕ → ℕ → ℕ → Type 0) (duties : List Duty) (stale : List (Option Why)) (links : ℕ → Link) : Type 0 where
  pub lost : (device : ℕ) (worker : Worker) (count : ℕ) → duty_on duties device ≡ duty.Works worker → worker.stage ≡ stage.Lost → worker.outcome ≡ Some (outcome.Lost count)
      → Lost worker.t device count
  pub stale_so : (device : ℕ) (cause : Why) → slice_get stale device ≡ Some (Some cause) → Came device cause
  pub loses : (device : ℕ) (op : OpKind) (worker : Worker) → (links device).unheard ≡ Some (op, reply.Fault) → duty_on duties device ≡ duty.Works worker → Lost worker.t device (links device).faults
  pub is_gone : (device : ℕ) (op : OpKind) (r : Reply) (worker : Worker) → (links device).unheard ≡ Some (op, r) → duty_on duties device ≡ duty.Works worker
      → outcome_by worker.stage r (links device).faults ≡ Some outcome.Gone → Came device (why.Gone worker.t)

abbrev pub UnheardFaults : (ℕ → ℕ → Type 0) → (ℕ → Link) → Type 0
UnheardFaults Came links = (device : ℕ) (op : OpKind) → (links device).unheard ≡ Some (op, reply.Fault) → Came device (links device).faults

-- a device may be stale by this fault of its link
abbrev pub by_fault : (ℕ → Why → Type 0) → ℕ → ℕ → Type 0
by_fault Came device count = Came device (why.Fault count)

-- causes and faults are known, of the hub's devices and of the links
pub record FaultsKnown {D : Type 0} (Came : ℕ → Why → Type 0) (Lost : ℕ → ℕ → ℕ → Type 0) (world : World D) : Type 0 where
  pub unheard : UnheardFaults (by_fault Came) world.links
  pub under : (hub : Hub) → world.hub ≡ Some hub → UnderFaults Came Lost hub.duties hub.stale world.links

-- more may have come, of what the hub's devices and workers report
pub more_known : {D : Type 0} (F G : ℕ → Why → Type 0) (L M : ℕ → ℕ → ℕ → Type 0) (world : World D) → ((device : ℕ) (cause : Why) → F device cause → G device cause)
    → ((hub : Hub) (device : ℕ) (worker : Worker) → world.hub ≡ Some hub → duty_on hub.duties device ≡ duty.Works worker → (x count : ℕ) → L worker.t x count → M worker.t x count)
    → FaultsKnown F L world → FaultsKnown G M world
more_known F G L M world more lost own = record {
  unheard = λ device op h. more device (why.Fault (world.links device).faults) (own.unheard device op h);
  under = λ hub up. let u = own.under hub up in record {
    lost = λ device worker count is at h. lost hub device worker up is device count (u.lost device worker count is at h);
    stale_so = λ device cause h. more device cause (u.stale_so device cause h);
    loses = λ device op worker h is. lost hub device worker up is device (world.links device).faults (u.loses device op worker h is);
    is_gone = λ device op r worker h is g. more device (why.Gone worker.t) (u.is_gone device op r worker h is g);
  };
}

module _ {D : Type 0} (here : Setting D) (Came : ℕ → Why → Type 0) (Lost : ℕ → ℕ → ℕ → Type 0) (world : World D) (hub : Hub) (up : world.hub ≡ Some hub) (own : FaultsKnown Came Lost world)
    (honest : (device : ℕ) (one : OpKind × Reply) → (world.links device).unheard ≡ Some one → IsHonest (duty_on hub.duties device) one.1)
    (busy : (device : ℕ) (one : OpKind × Reply) → (world.links device).unheard ≡ Some one → is_busy (duty_on hub.duties device) ≡ true) where
  abbrev u : UnderFaults Came Lost hub.duties hub.stale world.links
  u = own.under hub up

  behind : (next : World D) (hub' : Hub) → next.hub ≡ Some hub' → UnheardFaults (by_fault Came) next.links → UnderFaults Came Lost hub'.duties hub'.stale next.links → FaultsKnown Came Lost next
  behind next hub' is links so = record {
    unheard = links;
    under = λ other e. subst (λ (h : Hub). UnderFaults Came Lost h.duties h.stale next.links) (same_Some hub' other (sym is ∙ e)) so;
  }

  -- a report
  module _ (device : ℕ) (op : OpKind) (r : Reply) (heard : (world.links device).unheard ≡ Some (op, r)) where
    abbrev f : ℕ
    f = (world.links device).faults

    heard_fault : r ≡ reply.Fault → (world.links device).unheard ≡ Some (op, reply.Fault)
    heard_fault so = heard ∙ ap (λ (x : Reply). Some (op, x)) so

    abbrev duties' : List Duty
    duties' = with_changed (λ d. duty_took d r f) device hub.duties

    lost_then : (x : ℕ) (worker : Worker) (count : ℕ) → duty_on duties' x ≡ duty.Works worker → worker.stage ≡ stage.Lost → worker.outcome ≡ Some (outcome.Lost count) → Lost worker.t x count
    lost_then x worker count is at h = on (nat_eq device x) refl
      where
        on : (b : Bool) → nat_eq device x ≡ b → Lost worker.t x count
        on false e = u.lost x worker count (sym (took_there r f device x hub.duties e) ∙ is) at h
        on true e =
            let same : device ≡ x = eqb-true device x e in
            let old = took_works (duty_on hub.duties device) r f worker (sym (took_here r f device hub.duties) ∙ subst (λ (y : ℕ). duty_on duties' y ≡ duty.Works worker) (sym same) is) in
            subst (λ (y : ℕ). Lost worker.t y count) same
            (subst (λ (n : ℕ). Lost n device count) (ap (λ (w : Worker). w.t) (sym old.2))
            (⊎_elim
            (λ before. u.lost device old.0 count old.1 before.0 before.1)
            (λ now. subst (Lost old.0.t device) (sym now.1) (u.loses device op old.0 (heard_fault now.0) old.1))
            (took_lost old.0.stage old.0.outcome r f count (ap (λ (w : Worker). w.stage) (sym old.2) ∙ at) (ap (λ (w : Worker). w.outcome) (sym old.2) ∙ h))))

    -- the device itself
    stale_here : (before : Option Why) (cause : Why) → slice_get hub.stale device ≡ Some before → stale_by (duty_on hub.duties device) r f before ≡ Some cause → Came device cause
    stale_here before (why.Fault count) e h = ⊎_elim
        (λ old. u.stale_so device (why.Fault count) (e ∙ ap Some old))
        (λ now. subst (by_fault Came device) (sym now.1) (own.unheard device op (heard_fault now.0)))
        (stale_fault (duty_on hub.duties device) r f before count (honest device (op, r) heard) h)
    stale_here before (why.Gone t) e h = ⊎_elim
        (λ old. u.stale_so device (why.Gone t) (e ∙ ap Some old))
        (λ now. subst (λ (n : ℕ). Came device (why.Gone n)) now.3 (u.is_gone device op r now.0 heard now.1 now.2))
        (stale_gone (duty_on hub.duties device) r f before t h)
    stale_here before why.Recovered e h = u.stale_so device why.Recovered (e ∙ ap Some (stale_recovered (duty_on hub.duties device) r f before h))

    stale_then : (x : ℕ) (cause : Why) → slice_get (with_changed (stale_by (duty_on hub.duties device) r f) device hub.stale) x ≡ Some (Some cause) → Came x cause
    stale_then x cause is = on (nat_eq device x) refl
      where
        by : (slot : Option (Option Why)) → slice_get hub.stale device ≡ slot → option_map (stale_by (duty_on hub.duties device) r f) slot ≡ Some (Some cause) → Came device cause
        by None e h = absurd cc
        by (Some before) e h = stale_here before cause e (same_Some (stale_by (duty_on hub.duties device) r f before) (Some cause) h)

        on : (b : Bool) → nat_eq device x ≡ b → Came x cause
        on false e = u.stale_so x cause (sym (get_other (stale_by (duty_on hub.duties device) r f) device x hub.stale (λ same. false≢true (sym e ∙ eq-eqb device x same))) ∙ is)
        on true e =
            let same : device ≡ x = eqb-true device x e in
            subst (λ (y : ℕ). Came y cause) same
            (by (slice_get hub.stale device) refl
            (sym (get_changed (stale_by (duty_on hub.duties device) r f) device hub.stale)
            ∙ subst (λ (y : ℕ). slice_get (with_changed (stale_by (duty_on hub.duties device) r f) device hub.stale) y ≡ Some (Some cause)) (sym same) is))

    abbrev link' : Link
    link' = record (world.links device) { unheard = None }

    abbrev links' : ℕ → Link
    links' = updated_at world.links device link'

    -- what is not heard is of another device
    elsewhere : (x : ℕ) (one : OpKind × Reply) → (links' x).unheard ≡ Some one → (nat_eq device x ≡ false) × (links' x ≡ world.links x)
    elsewhere x one h = on (nat_eq device x) refl
      where
        on : (b : Bool) → nat_eq device x ≡ b → (nat_eq device x ≡ false) × (links' x ≡ world.links x)
        on true e = absurd (let none : ◌≡◌ {A = Option (OpKind × Reply)} None (Some one) = sym (ap (λ (b : Bool). (cond b link' (world.links x)).unheard) e) ∙ h in cc)
        on false e = (e, ap (λ (b : Bool). cond b link' (world.links x)) e)

    unheard_then : UnheardFaults (by_fault Came) links'
    unheard_then x op' h =
        let at = elsewhere x (op', reply.Fault) h in
        subst (λ (l : Link). Came x (why.Fault l.faults)) (sym at.1) (own.unheard x op' (ap (λ (l : Link). l.unheard) (sym at.1) ∙ h))

    reported_then : UnderFaults Came Lost duties' (with_changed (stale_by (duty_on hub.duties device) r f) device hub.stale) links'
    reported_then = record {
      lost = lost_then;
      stale_so = stale_then;
      loses = λ x op' worker h is.
          let at = elsewhere x (op', reply.Fault) h in
          subst (λ (l : Link). Lost worker.t x l.faults) (sym at.1)
          (u.loses x op' worker (ap (λ (l : Link). l.unheard) (sym at.1) ∙ h) (sym (took_there r f device x hub.duties at.0) ∙ is));
      is_gone = λ x op' r' worker h is g.
          let at = elsewhere x (op', r') h in
          u.is_gone x op' r' worker (ap (λ (l : Link). l.unheard) (sym at.1) ∙ h) (sym (took_there r f device x hub.duties at.0) ∙ is)
          (ap (λ (l : Link). outcome_by worker.stage r' l.faults) (sym at.1) ∙ g);
    }

  -- a decision
  told_then : (t : ℕ) (commit : Bool) → UnderFaults Came Lost (map (duty_told t commit) hub.duties) hub.stale world.links
  told_then t commit = record {
    lost = λ x worker count is at h.
        let was = told_works t commit (duty_on hub.duties x) worker (sym (told_at t commit x hub.duties) ∙ is) in
        ⊎_elim
        (λ told. absurd (told_not_lost was.old.stage commit told.1 (ap (λ (w : Worker). w.stage) (sym told.2) ∙ at)))
        (λ same. subst (λ (n : ℕ). Lost n x count) (ap (λ (w : Worker). w.t) (sym same.1))
        (u.lost x was.old count was.was (ap (λ (w : Worker). w.stage) (sym same.1) ∙ at) (ap (λ (w : Worker). w.outcome) (sym same.1) ∙ h)))
        was.now;
    stale_so = u.stale_so;
    loses = λ x op worker h is. u.loses x op worker h (untold x (op, reply.Fault) h ∙ is);
    is_gone = λ x op r worker h is g. u.is_gone x op r worker h (untold x (op, r) h ∙ is) g;
  }
    where
      untold : (x : ℕ) (one : OpKind × Reply) → (world.links x).unheard ≡ Some one → duty_on hub.duties x ≡ duty_on (map (duty_told t commit) hub.duties) x
      untold x one h = sym (told_at t commit x hub.duties ∙ told_busy t commit (duty_on hub.duties x) (busy x one h))

  -- where all is heard, and what workers do stays
  quiet_then : (duties : List Duty) → ((x : ℕ) → (world.links x).unheard ≡ None) → ((x : ℕ) (worker : Worker) → duty_on duties x ≡ duty.Works worker → duty_on hub.duties x ≡ duty.Works worker)
      → UnderFaults Came Lost duties hub.stale world.links
  quiet_then duties heard were = record {
    lost = λ x worker count is at h. u.lost x worker count (were x worker is) at h;
    stale_so = u.stale_so;
    loses = λ x op worker h is. absurd (let no : ◌≡◌ {A = Option (OpKind × Reply)} None (Some (op, reply.Fault)) = sym (heard x) ∙ h in cc);
    is_gone = λ x op r worker h is g. absurd (let no : ◌≡◌ {A = Option (OpKind × Reply)} None (Some (op, r)) = sym (heard x) ∙ h in cc);
  }

  -- an operation
  module _ (device : ℕ) (op : Op) (happened : Way) (listed : List (OpKind × When)) (due : due_on hub device ≡ Some op)
      (fault_now : (count : ℕ) → event.Perform device (kind_of_op op) (mark_of (way_reply (world.nodes device) op happened)) ((performed_with here world listed device op happened).links device).faults
      ≡ event.Perform device (kind_of_op op) mark.Fault count → Came device (why.Fault count) × ((t : ℕ) → Lost t device count))
      (gone_now : (t count : ℕ) → op ≡ ops.Confirm t → event.Perform device (kind_of_op op) (mark_of (way_reply (world.nodes device) op happened)) ((performed_with here world listed device op happened).links device).faults
      ≡ event.Perform device (kind_of_op (ops.Confirm t)) (mark.Refused tag.InvalidValue) count → Came device (why.Gone t)) where
    abbrev links_now : ℕ → Link
    links_now = (performed_with here world listed device op happened).links

    abbrev replied : Reply
    replied = way_reply (world.nodes device) op happened

    -- on the device, or on another
    at_device : (x : ℕ) → (device ≡ x) ⊎ (links_now x ≡ world.links x)
    at_device x = on (nat_eq device x) refl
      where
        on : (b : Bool) → nat_eq device x ≡ b → (device ≡ x) ⊎ (links_now x ≡ world.links x)
        on true e = inl (eqb-true device x e)
        on false e = inr (given_other world.links device _ x e)

    -- what was replied
    reply_is : (op' : OpKind) (r : Reply) → (links_now device).unheard ≡ Some (op', r) → replied ≡ r
    reply_is op' r h =
        ap (λ (p : OpKind × Reply). p.1) (same_Some (kind_of_op op, replied) (op', r) (sym (ap (λ (l : Link). l.unheard) (given_at world.links device _)) ∙ h))

    marked : (r : Reply) → replied ≡ r → event.Perform device (kind_of_op op) (mark_of replied) (links_now device).faults ≡ event.Perform device (kind_of_op op) (mark_of r) (links_now device).faults
    marked r is = ap (λ (x : Reply). event.Perform device (kind_of_op op) (mark_of x) (links_now device).faults) is

    unheard_now : UnheardFaults (by_fault Came) links_now
    unheard_now x op' h = ⊎_elim
        (λ same. subst (λ (y : ℕ). Came y (why.Fault (links_now y).faults)) same
        (fault_now (links_now device).faults (marked reply.Fault (reply_is op' reply.Fault (subst (λ (y : ℕ). (links_now y).unheard ≡ Some (op', reply.Fault)) (sym same) h)))).0)
        (λ same. subst (λ (l : Link). Came x (why.Fault l.faults)) (sym same) (own.unheard x op' (ap (λ (l : Link). l.unheard) (sym same) ∙ h)))
        (at_device x)

    loses_now : (x : ℕ) (op' : OpKind) (worker : Worker) → (links_now x).unheard ≡ Some (op', reply.Fault) → duty_on hub.duties x ≡ duty.Works worker → Lost worker.t x (links_now x).faults
    loses_now x op' worker h is = ⊎_elim
        (λ same. subst (λ (y : ℕ). Lost worker.t y (links_now y).faults) same
        ((fault_now (links_now device).faults (marked reply.Fault (reply_is op' reply.Fault (subst (λ (y : ℕ). (links_now y).unheard ≡ Some (op', reply.Fault)) (sym same) h)))).1 worker.t))
        (λ same. subst (λ (l : Link). Lost worker.t x l.faults) (sym same) (u.loses x op' worker (ap (λ (l : Link). l.unheard) (sym same) ∙ h) is))
        (at_device x)

    -- a worker that finds its confirmed commit gone was to confirm it
    gone_here : (op' : OpKind) (r : Reply) (worker : Worker) → (links_now device).unheard ≡ Some (op', r) → duty_on hub.duties device ≡ duty.Works worker
        → outcome_by worker.stage r (links_now device).faults ≡ Some outcome.Gone → Came device (why.Gone worker.t)
    gone_here op' r worker h is g =
        let at = gone_at worker.stage r (links_now device).faults g in
        let order : worker_order worker ≡ Some op = ap duty_order (sym is) ∙ sym (order_is hub device) ∙ due_is hub device op due in
        let confirms : op ≡ ops.Confirm worker.t =
        same_Some op (ops.Confirm worker.t) (sym order ∙ ap (λ (st : Stage). order_at worker.t worker.set st) at.0) in
        gone_now worker.t (links_now device).faults confirms
        (marked (reply.Refused tag.InvalidValue) (reply_is op' r h ∙ at.1)
        ∙ ap (λ (o : Op). event.Perform device (kind_of_op o) (mark.Refused tag.InvalidValue) (links_now device).faults) confirms)

    gone_then : (x : ℕ) (op' : OpKind) (r : Reply) (worker : Worker) → (links_now x).unheard ≡ Some (op', r) → duty_on hub.duties x ≡ duty.Works worker
        → outcome_by worker.stage r (links_now x).faults ≡ Some outcome.Gone → Came x (why.Gone worker.t)
    gone_then x op' r worker h is g = ⊎_elim
        (λ same. subst (λ (y : ℕ). Came y (why.Gone worker.t)) same
        (gone_here op' r worker (subst (λ (y : ℕ). (links_now y).unheard ≡ Some (op', r)) (sym same) h) (subst (λ (y : ℕ). duty_on hub.duties y ≡ duty.Works worker) (sym same) is)
        (subst (λ (y : ℕ). outcome_by worker.stage r (links_now y).faults ≡ Some outcome.Gone) (sym same) g)))
        (λ same. u.is_gone x op' r worker (ap (λ (l : Link). l.unheard) (sym same) ∙ h) is (ap (λ (l : Link). outcome_by worker.stage r l.faults) (sym same) ∙ g))
        (at_device x)

  -- Each event: an admission begins work only where all is heard, and a reconciliation begins where it is.
  pub does_faults : (meant : Event) (row : List Entry) (next : World D) → DoesUnderHub here world hub meant row next
      → ((it : Waiting) (sets : List (ℕ × ChangeSet)) (place : ℕ) → slice_get hub.waiting place ≡ Some it → IsFirstFit hub.active hub.waiting place → hub.mends ≡ None
      → Passes here.decls (history_read world.journal) it.call it.plan sets → first_stale it.plan.held.devices hub.stale ≡ None
      → (x : ℕ) → (duty_on (started it.t sets hub.duties) x ≡ duty_on hub.duties x) ⊎ ((world.links x).unheard ≡ None))
      → (IsIdle hub → (x : ℕ) → (world.links x).unheard ≡ None)
      → ((device : ℕ) (kind : OpKind) (count : ℕ) → meant ≡ event.Perform device kind mark.Fault count → Came device (why.Fault count) × ((t : ℕ) → Lost t device count))
      → ((device t count : ℕ) → due_on hub device ≡ Some (ops.Confirm t) → meant ≡ event.Perform device (kind_of_op (ops.Confirm t)) (mark.Refused tag.InvalidValue) count → Came device (why.Gone t))
      → FaultsKnown Came Lost next
  does_faults meant row next (DoesUnderHub.begins caller) free idle_heard now gone = behind next hub up own.unheard u
  does_faults meant row next (DoesUnderHub.answers call front said asked snap why keeps) free idle_heard now gone = behind next _ refl own.unheard u
  does_faults meant row next (DoesUnderHub.queues it front snap alike lawful closed apart fresh within made number slot) free idle_heard now gone = behind next _ refl own.unheard u
  does_faults meant row next (DoesUnderHub.turns_away place it said there first idle why) free idle_heard now gone = behind next _ refl own.unheard u
  does_faults meant row next (DoesUnderHub.admits place it sets there first idle passes fresh) free idle_heard now gone = behind next _ refl own.unheard (record {
    lost = λ x worker count is at h. ⊎_elim
        (λ same. u.lost x worker count (sym same ∙ is) at h)
        (λ new.
        let mine : new_worker it.t new.0 ≡ worker = works_same (new_worker it.t new.0) worker (sym new.1 ∙ is) in
        absurd (let no : stage.Opening ≡ stage.Lost = ap (λ (w : Worker). w.stage) mine ∙ at in cc))
        (started_cases it.t sets hub.duties x);
    stale_so = u.stale_so;
    loses = λ x op worker h is. ⊎_elim
        (λ same. u.loses x op worker h (sym same ∙ is))
        (λ heard. absurd (let no : ◌≡◌ {A = Option (OpKind × Reply)} None (Some (op, reply.Fault)) = sym heard ∙ h in cc))
        (free it sets place there first idle passes fresh x);
    is_gone = λ x op r worker h is g. ⊎_elim
        (λ same. u.is_gone x op r worker h (sym same ∙ is) g)
        (λ heard. absurd (let no : ◌≡◌ {A = Option (OpKind × Reply)} None (Some (op, r)) = sym heard ∙ h in cc))
        (free it sets place there first idle passes fresh x);
  })
    where
      works_same : (a b : Worker) → duty.Works a ≡ duty.Works b → a ≡ b
      works_same a b e = cc
  does_faults meant row next (DoesUnderHub.performs device op happened due unheard possible way) free idle_heard now gone =
      behind next hub up (unheard_now device op happened (without_first (kind_of_op op) (world.links device).listed) due fault_now gone_now)
      (record { lost = u.lost; stale_so = u.stale_so; loses = loses_now device op happened (without_first (kind_of_op op) (world.links device).listed) due fault_now gone_now; is_gone = gone_then device op happened (without_first (kind_of_op op) (world.links device).listed) due fault_now gone_now })
    where
      fault_now : (count : ℕ) → meant ≡ event.Perform device (kind_of_op op) mark.Fault count → Came device (why.Fault count) × ((t : ℕ) → Lost t device count)
      fault_now count e = now device (kind_of_op op) count e

      gone_now : (t count : ℕ) → op ≡ ops.Confirm t → meant ≡ event.Perform device (kind_of_op (ops.Confirm t)) (mark.Refused tag.InvalidValue) count → Came device (why.Gone t)
      gone_now t count is e = gone device t count (due ∙ ap (λ (o : Op). Some o) is) e
  does_faults meant row next (DoesUnderHub.leaves_unsent device changes due unheard) free idle_heard now gone =
      behind next hub up (unheard_now device (ops.Edit changes) way.NoMemory (world.links device).listed due fault_now gone_now)
      (record {
        lost = u.lost;
        stale_so = u.stale_so;
        loses = loses_now device (ops.Edit changes) way.NoMemory (world.links device).listed due fault_now gone_now;
        is_gone = gone_then device (ops.Edit changes) way.NoMemory (world.links device).listed due fault_now gone_now;
      })
    where
      mark_is : (n count : ℕ) → event.Perform device kind.Edit mark.Memory n ≡ event.Perform device kind.Edit mark.Fault count → mark.Memory ≡ mark.Fault
      mark_is n count e = cc

      fault_now : (count : ℕ) → event.Perform device kind.Edit mark.Memory ((unsent here world device changes).links device).faults ≡ event.Perform device kind.Edit mark.Fault count
          → Came device (why.Fault count) × ((t : ℕ) → Lost t device count)
      fault_now count e = absurd (let no : mark.Memory ≡ mark.Fault = mark_is ((unsent here world device changes).links device).faults count e in cc)

      gone_now : (t count : ℕ) → ops.Edit changes ≡ ops.Confirm t → event.Perform device kind.Edit mark.Memory ((unsent here world device changes).links device).faults
          ≡ event.Perform device (kind_of_op (ops.Confirm t)) (mark.Refused tag.InvalidValue) count → Came device (why.Gone t)
      gone_now t count same e = absurd cc
  does_faults meant row next (DoesUnderHub.reports device op r heard) free idle_heard now gone =
      behind next (hub_reported device r (world.links device).faults hub) refl (unheard_then device op r heard) (reported_then device op r heard)
  does_faults meant row next (DoesUnderHub.commits place it there least due prepared valid) free idle_heard now gone = behind next _ refl own.unheard (told_then it.t true)
  does_faults meant row next (DoesUnderHub.aborts place it said there least due why) free idle_heard now gone = behind next _ refl own.unheard (told_then it.t false)
  does_faults meant row next (DoesUnderHub.settles place it there least settling) free idle_heard now gone = behind next _ refl own.unheard u
  does_faults meant row next DoesUnderHub.stops free idle_heard now gone =
      record { unheard = λ device op h. absurd cc; under = λ h e. absurd (let none : ◌≡◌ {A = Option Hub} None (Some h) = e in cc) }
  does_faults meant row next (DoesUnderHub.mends numbers idle unsettled) free idle_heard now gone =
      behind next _ refl own.unheard (quiet_then _ (idle_heard idle) (λ x worker is. absurd (all_mend _ (λ d. (_, refl)) (declared here.decls) x worker is)))
  does_faults meant row next (DoesUnderHub.mended numbers met busy' heard unsettled) free idle_heard now gone =
      behind next _ refl own.unheard (quiet_then _ heard (λ x worker is. freed_works hub.duties x worker is))
  does_faults meant row next (DoesUnderHub.finds_no_memory met busy' heard) free idle_heard now gone =
      behind next _ refl own.unheard (quiet_then _ heard (λ x worker is. freed_works hub.duties x worker is))
  does_faults meant row next (DoesUnderHub.fails_to_mend met failed heard) free idle_heard now gone =
      behind next _ refl own.unheard (quiet_then _ heard (λ x worker is. freed_works hub.duties x worker is))
