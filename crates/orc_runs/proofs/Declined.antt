-- A device's refusal is answered only where it doesn't accept the tree that would be due.
use Rattle.std.proofs.Common.{[], ◌≡◌, ℕ, true, false, Option, Some, None, ◌∷◌, ◌++◌, nat_eq, refl, sym, ap, subst, ◌∙◌}
use Rattle.std.specs.Prelude.{slice_get}
use Rattle.std.specs.List.{list_any}
use Rattle.std.specs.Option.{option_or}
use Rattle.std.proofs.lemmas.Bool.{false≢true}
use Rattle.orc_call.specs.declared.answer.Tag.{Tag}
use Rattle.orc_call.specs.declared.answer.Tag.TheVariants as tag
use Rattle.orc_call.specs.declared.call.Call.{Call}
use Rattle.orc_device.specs.declared.kind.OpKind.{OpKind}
use Rattle.orc_device.specs.declared.reply.Reply.{Reply}
use Rattle.orc_worker.specs.Workers.{outcome_by}
use Rattle.orc_worker.specs.declared.report.Outcome.{Outcome}
use Rattle.orc_worker.specs.declared.report.Outcome.TheVariants as outcome
use Rattle.orc_worker.specs.declared.stage.Stage.{Stage}
use Rattle.orc_worker.specs.declared.stage.Stage.TheVariants as stage
use Rattle.orc_worker.specs.declared.worker.Worker.{Worker}
use Rattle.orc_rules.specs.Acceptance.{RepliesKept, Tells}
use Rattle.orc_rules.specs.Courses.{agrees}
use Rattle.orc_rules.specs.Duties.{outcome_on}
use Rattle.orc_rules.specs.Hubs.{Hub, duty_on}
use Rattle.orc_rules.specs.Journals.{entries_read, history_read}
use Rattle.orc_rules.specs.Kept.{heard}
use Rattle.orc_rules.specs.Transactions.{is_preparing}
use Rattle.orc_rules.specs.UnderHub.{Attends, DevicesKept}
use Rattle.orc_rules.specs.Worlds.{Setting, World, over}
use Rattle.orc_rules.specs.declared.duty.Duty.{Duty}
use Rattle.orc_rules.specs.declared.duty.Duty.TheVariants as duty
use Rattle.orc_rules.specs.declared.transaction.Transaction.{Transaction}
use Rattle.orc_rules.proofs.Slots.{outcome_at, outcome_worker}

-- a refusal stays what came of preparing
refused_stays : (st : Stage) (t : Tag) (r : Reply) (f : ℕ) → agrees st (Some (outcome.Refused t)) ≡ true → option_or (outcome_by st r f) (Some (outcome.Refused t)) ≡ Some (outcome.Refused t)
refused_stays stage.Opening t r f h = absurd (false≢true h)
refused_stays stage.LockingRunning t r f h = absurd (false≢true h)
refused_stays stage.LockingCandidate t r f h = absurd (false≢true h)
refused_stays stage.Editing t r f h = absurd (false≢true h)
refused_stays stage.Validating t r f h = absurd (false≢true h)
refused_stays stage.Committing t r f h = absurd (false≢true h)
refused_stays stage.Refusing t r f h = refl
refused_stays stage.Prepared t r f h = refl
refused_stays stage.Lost t r f h = refl
refused_stays stage.Confirming t r f h = absurd (false≢true h)
refused_stays stage.Cancelling t r f h = absurd (false≢true h)
refused_stays stage.Reopening t r f h = absurd (false≢true h)
refused_stays stage.Recancelling t r f h = absurd (false≢true h)
refused_stays stage.UnlockingCandidate t r f h = refl
refused_stays stage.UnlockingRunning t r f h = refl
refused_stays stage.Closing t r f h = refl
refused_stays stage.Over t r f h = refl

-- also where its last reply isn't heard
heard_refused : (u : Option (OpKind × Reply)) (f : ℕ) (worker : Worker) (t : Tag) → agrees worker.stage worker.outcome ≡ true → worker.outcome ≡ Some (outcome.Refused t)
    → (now : Worker) × (heard u f (duty.Works worker) ≡ duty.Works now) × (now.t ≡ worker.t) × (now.outcome ≡ Some (outcome.Refused t))
heard_refused None f worker t agree is = (worker, refl, refl, is)
heard_refused (Some one) f worker t agree is = (
  _,
  refl,
  refl,
  ap (λ (o : Option Outcome). option_or (outcome_by worker.stage one.1 f) o) is ∙ refused_stays worker.stage t one.1 f (subst (λ (o : Option Outcome). agrees worker.stage o ≡ true) is agree),
)

-- what is said of a device that refuses a call
abbrev pub RefusesSo : {D : Type 0} → Setting D → World D → Call → ℕ → Tag → Type 0
RefusesSo here world call device said =
    (said ≡ tag.OperationFailed) × ((here.kinds device).accepts (over here.decls device (history_read world.journal ++ call ∷ [])) ≡ false)

module _ {D : Type 0} (here : Setting D) (world : World D) (hub : Hub) (up : world.hub ≡ Some hub) (own : DevicesKept here.decls world) (replies : RepliesKept here world) where
  abbrev under : Attends here.decls own.shadow (entries_read world.journal) hub world.links
  under = own.under hub up

  pub tells_refused : (place : ℕ) (it : Transaction) → slice_get hub.active place ≡ Some it → is_preparing it.phase ≡ true → (device : ℕ) (said : Tag)
      → list_any (nat_eq device) it.plan.held.devices ≡ true → outcome_on hub.duties it.t device ≡ Some (outcome.Refused said) → RefusesSo here world it.call device said
  tells_refused place it there preparing device said named is =
      let w = outcome_worker it.t (duty_on hub.duties device) (outcome.Refused said) (sym (outcome_at hub.duties it.t device) ∙ is) in
      let now = heard_refused (world.links device).unheard (world.links device).faults w.0 said (under.agree device w.0 w.1) w.3 in
      subst (λ (o : Option Outcome). Tells o ((here.kinds device).accepts (over here.decls device (history_read world.journal ++ it.call ∷ [])))) now.3
      ((replies.under hub up).tells place it there preparing device now.0 named
      (ap (λ (d : Duty). heard (world.links device).unheard (world.links device).faults d) w.1 ∙ now.1) (now.2 ∙ w.2))
