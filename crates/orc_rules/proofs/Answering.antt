-- What is known of replies stays so, whatever an event does to the work on devices.
use Rattle.std.proofs.Common.{◌≡◌, inl, inr, ⊎_elim, ℕ, Bool, true, false, cond, ◌&&◌, nat_eq, List, [], ◌∷◌, ◌++◌, Option, Some, None, map, refl, sym, ap, subst, ◌∙◌}
use Rattle.std.specs.Prelude.{slice_get}
use Rattle.std.specs.List.{list_any}
use Rattle.std.proofs.lemmas.Bool.{false≢true}
use Rattle.orc_call.specs.declared.call.Call.{Call}
use Rattle.orc_decls.specs.declared.declarations.Decls.{Decls}
use Rattle.orc_device.specs.Nodes.{DeviceKind}
use Rattle.orc_device.specs.declared.kind.OpKind.{OpKind}
use Rattle.orc_device.specs.declared.reply.Reply.{Reply}
use Rattle.orc_path.specs.Configurations.{Config}
use Rattle.orc_tree.specs.declared.change.ChangeSet.{ChangeSet}
use Rattle.orc_worker.specs.Workers.{is_waiting, new_worker, told_stage, worker_told}
use Rattle.orc_worker.specs.declared.report.Outcome.{Outcome}
use Rattle.orc_worker.specs.declared.stage.Stage.{Stage}
use Rattle.orc_worker.specs.declared.stage.Stage.TheVariants as stage
use Rattle.orc_worker.specs.declared.worker.Worker.{Worker}
use Rattle.orc_rules.specs.Acceptance.{IsHonest, Replies, Tells, has_session, works_in_session}
use Rattle.orc_rules.specs.Cells.{updated_at}
use Rattle.orc_rules.specs.Duties.{duty_told, duty_took, is_busy}
use Rattle.orc_rules.specs.Hubs.{duty_on, with_changed}
use Rattle.orc_rules.specs.Kept.{heard as then_heard}
use Rattle.orc_rules.specs.Transactions.{in_phase, is_preparing, retired}
use Rattle.orc_rules.specs.Worlds.{Link, over}
use Rattle.orc_rules.specs.declared.duty.Duty.{Duty}
use Rattle.orc_rules.specs.declared.duty.Duty.TheVariants as duty
use Rattle.orc_rules.specs.declared.transaction.Phase.{Phase}
use Rattle.orc_rules.specs.declared.transaction.Transaction.{Transaction}
use Rattle.orc_rules.proofs.Legally.{push_cases}
use Rattle.orc_rules.proofs.Recording.{either, given_at, given_other}
use Rattle.orc_rules.proofs.Retiring.{was_other, was_there}
use Rattle.orc_rules.proofs.Slots.{told_at, told_busy, told_works, took_here, took_there}

-- a decision opens no session

stage_told : (st : Stage) (commit : Bool) → works_in_session (told_stage st commit) ≡ true → works_in_session st ≡ true
stage_told stage.Prepared commit h = refl
stage_told stage.Lost true h = h
stage_told stage.Lost false h = h
stage_told st commit h = h

told_session : (t : ℕ) (commit : Bool) (on : Duty) → has_session (duty_told t commit on) ≡ true → has_session on ≡ true
told_session t commit duty.Free h = h
told_session t commit (duty.Mends mender) h = h
told_session t commit (duty.Works worker) h = on (nat_eq worker.t t && is_waiting worker.stage) h
  where
    on : (b : Bool) → has_session (cond b (duty.Works (worker_told worker commit)) (duty.Works worker)) ≡ true → works_in_session worker.stage ≡ true
    on true h' = stage_told worker.stage commit h'
    on false h' = h'

none_one : (one : OpKind × Reply) → ◌≡◌ {A = Option (OpKind × Reply)} None (Some one) → ⊥
none_one one e = cc

same_worker : (a b : Worker) → duty.Works a ≡ duty.Works b → a ≡ b
same_worker a b e = cc

module _ (decls : Decls) (kinds : ℕ → DeviceKind) (history : List Call) (active : List Transaction) (duties : List Duty) (links : ℕ → Link)
    (own : Replies decls kinds history active duties links) where
  abbrev Accepted : ℕ → Transaction → Bool
  Accepted device it = (kinds device).accepts (over decls device (history ++ it.call ∷ []))

  -- transactions that have ended retire
  pub retired_replies : (ds : List Duty) → Replies decls kinds history (map (retired ds) active) duties links
  retired_replies ds = record {
    opened = own.opened;
    tells = λ place it there h. own.tells place it (was_there ds active place it there h) h;
    honest = own.honest;
  }

  -- a transaction comes to a phase past preparing
  pub phase_replies : (t : ℕ) (to : Phase) → is_preparing to ≡ false → Replies decls kinds history (map (in_phase t to) active) duties links
  phase_replies t to other = record {
    opened = own.opened;
    tells = λ place it there h. own.tells place it (was_other t to active place it other there h).0 h;
    honest = own.honest;
  }

  -- workers are told a decision
  pub told_replies : (t : ℕ) (commit : Bool) → ((device : ℕ) (one : OpKind × Reply) → (links device).unheard ≡ Some one → is_busy (duty_on duties device) ≡ true)
      → Replies decls kinds history active (map (duty_told t commit) duties) links
  told_replies t commit due = record {
    opened = λ device h. own.opened device (before device (links device).unheard refl h);
    tells = λ place it there h device worker named is same. tells place it there h device worker named same (links device).unheard refl is;
    honest = λ device one e. subst (λ (d : Duty). IsHonest d one.1) (sym (stays device one e)) (own.honest device one e);
  }
    where
      stays : (device : ℕ) (one : OpKind × Reply) → (links device).unheard ≡ Some one → duty_on (map (duty_told t commit) duties) device ≡ duty_on duties device
      stays device one e = told_at t commit device duties ∙ told_busy t commit (duty_on duties device) (due device one e)

      before : (device : ℕ) (u : Option (OpKind × Reply)) → (links device).unheard ≡ u
          → has_session (then_heard u (links device).faults (duty_on (map (duty_told t commit) duties) device)) ≡ true
          → has_session (then_heard u (links device).faults (duty_on duties device)) ≡ true
      before device None e h = told_session t commit (duty_on duties device) (ap has_session (sym (told_at t commit device duties)) ∙ h)
      before device (Some one) e h = ap (λ (d : Duty). has_session (then_heard (Some one) (links device).faults d)) (sym (stays device one e)) ∙ h

      tells : (place : ℕ) (it : Transaction) → slice_get active place ≡ Some it → is_preparing it.phase ≡ true → (device : ℕ) (worker : Worker)
          → list_any (nat_eq device) it.plan.held.devices ≡ true → worker.t ≡ it.t → (u : Option (OpKind × Reply)) → (links device).unheard ≡ u
          → then_heard u (links device).faults (duty_on (map (duty_told t commit) duties) device) ≡ duty.Works worker → Tells worker.outcome (Accepted device it)
      tells place it there h device worker named same None e is =
          let w = told_works t commit (duty_on duties device) worker (sym (told_at t commit device duties) ∙ is) in
          subst (λ (o : Option Outcome). Tells o (Accepted device it))
          (⊎_elim (λ so. sym (ap (λ (x : Worker). x.outcome) so.2)) (λ so. sym (ap (λ (x : Worker). x.outcome) so.1)) w.now)
          (own.tells place it there h device w.old named
          (ap (λ (v : Option (OpKind × Reply)). then_heard v (links device).faults (duty_on duties device)) e ∙ w.was)
          (⊎_elim (λ so. sym (ap (λ (x : Worker). x.t) so.2)) (λ so. sym (ap (λ (x : Worker). x.t) so.1)) w.now ∙ same))
      tells place it there h device worker named same (Some one) e is =
          own.tells place it there h device worker named
          (ap (λ (v : Option (OpKind × Reply)). then_heard v (links device).faults (duty_on duties device)) e
          ∙ ap (λ (d : Duty). then_heard (Some one) (links device).faults d) (sym (stays device one e)) ∙ is) same

  -- a call more is committed
  pub grown_replies : (call : Call)
      → ((place : ℕ) (it : Transaction) → slice_get active place ≡ Some it → is_preparing it.phase ≡ true → (device : ℕ) → list_any (nat_eq device) it.plan.held.devices ≡ true
      → over decls device ((history ++ call ∷ []) ++ it.call ∷ []) ≡ over decls device (history ++ it.call ∷ []))
      → Replies decls kinds (history ++ call ∷ []) active duties links
  grown_replies call stable = record {
    opened = own.opened;
    tells = λ place it there h device worker named is same.
        subst (λ (config : Config). Tells worker.outcome ((kinds device).accepts config)) (sym (stable place it there h device named))
        (own.tells place it there h device worker named is same);
    honest = own.honest;
  }

  -- a reply is heard
  pub report_replies : (device : ℕ) (op : OpKind) (r : Reply) → (links device).unheard ≡ Some (op, r)
      → Replies decls kinds history active (with_changed (λ duty. duty_took duty r (links device).faults) device duties)
      (updated_at links device (record (links device) { unheard = None }))
  report_replies device op r unheard = record {
    opened = λ x h. ap (λ (n : ℕ). nat_eq n 0) (session_same x) ∙ own.opened x (ap has_session (sym (heard_same x)) ∙ h);
    tells = λ place it there h x worker named is same. own.tells place it there h x worker named (sym (heard_same x) ∙ is) same;
    honest = λ x one e. elim (either device x) [
      | inl s ↦ absurd (none_one one (sym (ap (λ (l : Link). l.unheard) (given_at links device link')) ∙ ap (λ (y : ℕ). (updated_at links device link' y).unheard) s ∙ e))
      | inr ne ↦ subst (λ (d : Duty). IsHonest d one.1) (sym (took_there r (links device).faults device x duties ne))
          (own.honest x one (sym (ap (λ (l : Link). l.unheard) (given_other links device link' x ne)) ∙ e))
    ];
  }
    where
      link' : Link
      link' = record (links device) { unheard = None }

      duties' : List Duty
      duties' = with_changed (λ duty. duty_took duty r (links device).faults) device duties

      session_same : (x : ℕ) → (updated_at links device link' x).session ≡ (links x).session
      session_same x = elim (either device x) [
        | inl s ↦ subst (λ (y : ℕ). (updated_at links device link' y).session ≡ (links y).session) s (ap (λ (l : Link). l.session) (given_at links device link'))
        | inr ne ↦ ap (λ (l : Link). l.session) (given_other links device link' x ne)
      ]

      heard_same : (x : ℕ) → then_heard (updated_at links device link' x).unheard (updated_at links device link' x).faults (duty_on duties' x)
          ≡ then_heard (links x).unheard (links x).faults (duty_on duties x)
      heard_same x = elim (either device x) [
        | inl s ↦ subst (λ (y : ℕ). then_heard (updated_at links device link' y).unheard (updated_at links device link' y).faults (duty_on duties' y)
            ≡ then_heard (links y).unheard (links y).faults (duty_on duties y)) s
            (ap (λ (l : Link). then_heard l.unheard l.faults (duty_on duties' device)) (given_at links device link')
            ∙ took_here r (links device).faults device duties
            ∙ sym (ap (λ (u : Option (OpKind × Reply)). then_heard u (links device).faults (duty_on duties device)) unheard))
        | inr ne ↦ ap (λ (l : Link). then_heard l.unheard l.faults (duty_on duties' x)) (given_other links device link' x ne)
            ∙ ap (λ (d : Duty). then_heard (links x).unheard (links x).faults d) (took_there r (links device).faults device x duties ne)
      ]

  -- an operation is performed on a device
  pub perform_replies : (device : ℕ) (link : Link)
      → (has_session (then_heard link.unheard link.faults (duty_on duties device)) ≡ true → nat_eq link.session 0 ≡ false)
      → ((place : ℕ) (it : Transaction) → slice_get active place ≡ Some it → is_preparing it.phase ≡ true → (worker : Worker)
      → list_any (nat_eq device) it.plan.held.devices ≡ true → then_heard link.unheard link.faults (duty_on duties device) ≡ duty.Works worker → worker.t ≡ it.t
      → Tells worker.outcome (Accepted device it))
      → ((one : OpKind × Reply) → link.unheard ≡ Some one → IsHonest (duty_on duties device) one.1)
      → Replies decls kinds history active duties (updated_at links device link)
  perform_replies device link opened tells honest = record {
    opened = λ x. elim (either device x) [
      | inl s ↦ subst (λ (y : ℕ). has_session (then_heard (updated_at links device link y).unheard (updated_at links device link y).faults (duty_on duties y)) ≡ true
          → nat_eq (updated_at links device link y).session 0 ≡ false) s
          (subst (λ (l : Link). has_session (then_heard l.unheard l.faults (duty_on duties device)) ≡ true → nat_eq l.session 0 ≡ false) (sym (given_at links device link)) opened)
      | inr ne ↦ subst (λ (l : Link). has_session (then_heard l.unheard l.faults (duty_on duties x)) ≡ true → nat_eq l.session 0 ≡ false)
          (sym (given_other links device link x ne)) (own.opened x)
    ];
    tells = λ place it there h x worker named is same. elim (either device x) [
      | inl s ↦ subst (λ (y : ℕ). Tells worker.outcome (Accepted y it)) s
          (tells place it there h worker (ap (λ (y : ℕ). list_any (nat_eq y) it.plan.held.devices) s ∙ named)
          (ap (λ (l : Link). then_heard l.unheard l.faults (duty_on duties device)) (sym (given_at links device link))
          ∙ ap (λ (y : ℕ). then_heard (updated_at links device link y).unheard (updated_at links device link y).faults (duty_on duties y)) s ∙ is) same)
      | inr ne ↦ own.tells place it there h x worker named
          (ap (λ (l : Link). then_heard l.unheard l.faults (duty_on duties x)) (sym (given_other links device link x ne)) ∙ is) same
    ];
    honest = λ x one e. elim (either device x) [
      | inl s ↦ subst (λ (y : ℕ). IsHonest (duty_on duties y) one.1) s
          (honest one (sym (ap (λ (l : Link). l.unheard) (given_at links device link)) ∙ ap (λ (y : ℕ). (updated_at links device link y).unheard) s ∙ e))
      | inr ne ↦ own.honest x one (sym (ap (λ (l : Link). l.unheard) (given_other links device link x ne)) ∙ e)
    ];
  }

  -- a call is admitted
  pub admit_replies : (b : Transaction) (duties' : List Duty) (t : ℕ)
      → ((x : ℕ) → list_any (nat_eq x) b.plan.held.devices ≡ true → ((links x).unheard ≡ None) × ((set : ChangeSet) × (duty_on duties' x ≡ duty.Works (new_worker t set))))
      → ((x : ℕ) → list_any (nat_eq x) b.plan.held.devices ≡ false → duty_on duties' x ≡ duty_on duties x)
      → Replies decls kinds history (active ++ b ∷ []) duties' links
  admit_replies b duties' t fresh others = record {
    opened = λ x h. opened x (list_any (nat_eq x) b.plan.held.devices) refl h;
    tells = λ place it there h x worker named is same. tells place it there h x worker named is same (list_any (nat_eq x) b.plan.held.devices) refl;
    honest = λ x one e. honest x one e (list_any (nat_eq x) b.plan.held.devices) refl;
  }
    where
      new_there : (x : ℕ) (named : list_any (nat_eq x) b.plan.held.devices ≡ true)
          → then_heard (links x).unheard (links x).faults (duty_on duties' x) ≡ duty.Works (new_worker t (fresh x named).1.0)
      new_there x named =
          ap (λ (u : Option (OpKind × Reply)). then_heard u (links x).faults (duty_on duties' x)) (fresh x named).0 ∙ (fresh x named).1.1

      opened : (x : ℕ) (c : Bool) → list_any (nat_eq x) b.plan.held.devices ≡ c → has_session (then_heard (links x).unheard (links x).faults (duty_on duties' x)) ≡ true
          → nat_eq (links x).session 0 ≡ false
      opened x true e h = absurd (false≢true (sym (ap has_session (new_there x e)) ∙ h))
      opened x false e h = own.opened x (ap (λ (d : Duty). has_session (then_heard (links x).unheard (links x).faults d)) (sym (others x e)) ∙ h)

      tells : (place : ℕ) (it : Transaction) → slice_get (active ++ b ∷ []) place ≡ Some it → is_preparing it.phase ≡ true → (x : ℕ) (worker : Worker)
          → list_any (nat_eq x) it.plan.held.devices ≡ true → then_heard (links x).unheard (links x).faults (duty_on duties' x) ≡ duty.Works worker → worker.t ≡ it.t
          → (c : Bool) → list_any (nat_eq x) b.plan.held.devices ≡ c → Tells worker.outcome (Accepted x it)
      tells place it there h x worker named is same true e =
          subst (λ (w : Worker). Tells w.outcome (Accepted x it)) (same_worker (new_worker t (fresh x e).1.0) worker (sym (new_there x e) ∙ is)) tt
      tells place it there h x worker named is same false e = ⊎_elim
          (λ old. own.tells place it old h x worker named (ap (λ (d : Duty). then_heard (links x).unheard (links x).faults d) (sym (others x e)) ∙ is) same)
          (λ new. absurd (false≢true (sym e ∙ ap (λ (y : Transaction). list_any (nat_eq x) y.plan.held.devices) new.1 ∙ named)))
          (push_cases active b place it there)

      honest : (x : ℕ) (one : OpKind × Reply) → (links x).unheard ≡ Some one → (c : Bool) → list_any (nat_eq x) b.plan.held.devices ≡ c → IsHonest (duty_on duties' x) one.1
      honest x one e true named = absurd (none_one one (sym (fresh x named).0 ∙ e))
      honest x one e false unnamed = subst (λ (d : Duty). IsHonest d one.1) (sym (others x unnamed)) (own.honest x one e)

-- nothing is unheard, nothing prepares, and nobody has a session
pub quiet_replies : (decls : Decls) (kinds : ℕ → DeviceKind) (history : List Call) (active : List Transaction) (duties : List Duty) (links : ℕ → Link)
    → ((device : ℕ) → (links device).unheard ≡ None) → ((place : ℕ) (it : Transaction) → slice_get active place ≡ Some it → is_preparing it.phase ≡ false)
    → ((device : ℕ) → has_session (duty_on duties device) ≡ false) → Replies decls kinds history active duties links
quiet_replies decls kinds history active duties links heard idle closed = record {
  opened = λ device h. absurd (false≢true (sym (closed device)
      ∙ ap (λ (u : Option (OpKind × Reply)). has_session (then_heard u (links device).faults (duty_on duties device))) (sym (heard device)) ∙ h));
  tells = λ place it there h. absurd (false≢true (sym (idle place it there) ∙ h));
  honest = λ device one e. absurd (none_one one (sym (heard device) ∙ e));
}
