-- What is kept of the work on devices stays so, where an operation is performed, where it is reported, and where workers
-- have ended.
use Rattle.std.proofs.Common.{◌≡◌, inl, inr, ⊎_elim, ℕ, Bool, true, false, cond, ◌&&◌, nat_eq, nat_lt, List, [], ◌∷◌, Option, Some, None, map, length, refl, sym, ap, subst, ◌∙◌, eq-eqb}
use Rattle.std.specs.Prelude.{slice_get}
use Rattle.std.specs.List.{list_any}
use Rattle.std.specs.Option.{option_map, option_or}
use Rattle.std.proofs.lemmas.Bool.{false≢true}
use Rattle.std.proofs.lemmas.Option.{same_Some, slice_get-map}
use Rattle.orc_call.specs.declared.answer.RecFault.{RecFault}
use Rattle.orc_call.specs.declared.answer.Why.{Why}
use Rattle.orc_call.specs.declared.call.Call.{Call}
use Rattle.orc_decls.specs.declared.declarations.Decls.{Decls}
use Rattle.orc_device.specs.Nodes.{DeviceKind}
use Rattle.orc_device.specs.Operations.{is_fault, is_ok, is_resolved}
use Rattle.orc_tree.specs.Sameness.{equal_configs}
use Rattle.orc_device.specs.declared.kind.OpKind.{OpKind}
use Rattle.orc_device.specs.declared.reply.Reply.{Reply}
use Rattle.orc_device.specs.declared.reply.Reply.TheVariants as reply
use Rattle.orc_journal.specs.Laws.{HasIntent}
use Rattle.orc_journal.specs.declared.entry.Entry.{Entry}
use Rattle.orc_path.specs.Configurations.{Config}
use Rattle.orc_recover.specs.Menders.{MenderState, differences, failed_by, is_mending, mender_end, mender_took, read_end}
use Rattle.orc_recover.specs.declared.ends.Mend.{Mend as End}
use Rattle.orc_recover.specs.declared.ends.Mend.TheVariants as end
use Rattle.orc_recover.specs.declared.stage.MendStage.TheVariants as mend_stage
use Rattle.orc_worker.specs.Workers.{worker_took}
use Rattle.orc_worker.specs.declared.stage.Stage.{Stage}
use Rattle.orc_worker.specs.declared.stage.Stage.TheVariants as stage
use Rattle.orc_worker.specs.declared.worker.Worker.{Worker}
use Rattle.orc_rules.specs.Agreement.{HasCome, mender_of, mend_stage_of}
use Rattle.orc_rules.specs.Cells.{Mended, updated_at, mender_after, read_after}
use Rattle.orc_rules.specs.Cells.Mended.{Goes, Whole, Fails}
use Rattle.orc_rules.specs.Courses.{agrees, stands_undecided, is_clear}
use Rattle.orc_rules.specs.Duties.{duty_end, duty_outcome, duty_took, is_busy, is_over, is_over_for, is_over_on, outcome_on, stale_by, stale_ended}
use Rattle.orc_rules.specs.Hubs.{with_changed, duty_on, mend_fault}
use Rattle.orc_rules.specs.Kept.{Shadow, heard as then_heard, plan_of}
use Rattle.orc_rules.specs.Network.{Noted}
use Rattle.orc_rules.specs.Told.{told_by}
use Rattle.orc_rules.specs.Transactions.{are_over, transaction_ended, has_lost, is_lost, is_preparing, is_settling, is_told, retired}
use Rattle.orc_rules.specs.UnderHub.{IsMenderOf, IsOwned, MendingKept, UnderHub, is_under_way}
use Rattle.orc_rules.specs.Works.{Mend}
use Rattle.orc_rules.specs.Works.Mend.{Mclosing, Mcommitting, Mediting, MlockingCandidate, MlockingRunning, Mopening, Mresolving, MunlockingCandidate, MunlockingRunning, Mvalidating}
use Rattle.orc_rules.specs.Worlds.{Link, over}
use Rattle.orc_rules.specs.declared.duty.Duty.{Duty}
use Rattle.orc_rules.specs.declared.duty.Duty.TheVariants as duty
use Rattle.orc_rules.specs.declared.transaction.Phase.{Phase}
use Rattle.orc_rules.specs.declared.transaction.Phase.TheVariants as phase
use Rattle.orc_rules.specs.declared.transaction.Transaction.{Transaction}
use Rattle.orc_rules.proofs.Agreeing.{takes_agree}
use Rattle.orc_rules.proofs.Courses.{due_not_over, final_clears, not_over_before, took_agrees, took_before}
use Rattle.orc_rules.proofs.Recording.{either, given_at, given_other}
use Rattle.orc_rules.proofs.Reporting.{and_false, get_changed, get_other}
use Rattle.orc_rules.proofs.Retiring.{of_map, still_in}
use Rattle.orc_rules.proofs.Slots.{all_so, both_true, changed_length, get_in, mends_not_free, none_so, outcome_at, over_on, over_worker, slot_within, took_here, took_mends, took_there, took_works}

-- one that isn't changed: another number, or another device
apart_so : (a b : ℕ) → nat_eq a b ≡ false → a ≡ b → ⊥
apart_so a b other same = false≢true (sym other ∙ eq-eqb a b same)

-- An operation is performed: the link has a reply that isn't heard yet, and the device another shadow.
module _ (decls : Decls) (shadow : ℕ → Shadow) (entries : List Entry) (active : List Transaction) (duties : List Duty) (stale : List (Option Why))
    (mends : Option (Option RecFault)) (links : ℕ → Link) (own : UnderHub decls shadow entries active duties stale mends links) where
  pub performs_under : (device : ℕ) (link : Link) (sh : Shadow) → is_busy (duty_on duties device) ≡ true
      → ((worker : Worker) → then_heard link.unheard link.faults (duty_on duties device) ≡ duty.Works worker → is_clear worker.outcome ≡ true → sh.clear worker.t ≡ true)
      → ((t : ℕ) → (shadow device).clear t ≡ true → sh.clear t ≡ true)
      → UnderHub decls (updated_at shadow device sh) entries active duties stale mends (updated_at links device link)
  performs_under device link sh busy clears more = record {
    duties_sized = own.duties_sized;
    stale_sized = own.stale_sized;
    due = λ x one e. elim (either device x) [
      | inl s ↦ subst (λ (y : ℕ). is_busy (duty_on duties y) ≡ true) s busy
      | inr ne ↦ own.due x one (sym (ap (λ (l : Link). l.unheard) (given_other links device link x ne)) ∙ e)
    ];
    agree = own.agree;
    worked = own.worked;
    owned = own.owned;
    before = own.before;
    noted = own.noted;
    numbers = own.numbers;
    intent = own.intent;
    clear = λ x worker e h. elim (either device x) [
      | inl s ↦ subst (λ (y : ℕ). (updated_at shadow device sh y).clear worker.t ≡ true) s
          (subst (λ (z : Shadow). z.clear worker.t ≡ true) (sym (given_at shadow device sh))
          (clears worker
          (subst (λ (l : Link). then_heard l.unheard l.faults (duty_on duties device) ≡ duty.Works worker) (given_at links device link)
          (subst (λ (y : ℕ). then_heard (updated_at links device link y).unheard (updated_at links device link y).faults (duty_on duties y) ≡ duty.Works worker) (sym s) e)) h))
      | inr ne ↦ subst (λ (z : Shadow). z.clear worker.t ≡ true) (sym (given_other shadow device sh x ne))
          (own.clear x worker
          (subst (λ (l : Link). then_heard l.unheard l.faults (duty_on duties x) ≡ duty.Works worker) (given_other links device link x ne) e) h)
    ];
    settling = λ place it there h x b e named. elim (either device x) [
      | inl s ↦ subst (λ (y : ℕ). (updated_at shadow device sh y).clear it.t ≡ true) s
          (subst (λ (z : Shadow). z.clear it.t ≡ true) (sym (given_at shadow device sh))
          (more it.t (subst (λ (y : ℕ). (shadow y).clear it.t ≡ true) (sym s) (own.settling place it there h x b e named))))
      | inr ne ↦ subst (λ (z : Shadow). z.clear it.t ≡ true) (sym (given_other shadow device sh x ne)) (own.settling place it there h x b e named)
    ];
    mending = own.mending;
  }

  -- a link's listings say nothing of the work
  pub relinked_under : (links' : ℕ → Link) → ((device : ℕ) → (links' device).unheard ≡ (links device).unheard) → ((device : ℕ) → (links' device).faults ≡ (links device).faults)
      → UnderHub decls shadow entries active duties stale mends links'
  relinked_under links' unheards faults = record {
    duties_sized = own.duties_sized;
    stale_sized = own.stale_sized;
    due = λ device one h. own.due device one (sym (unheards device) ∙ h);
    agree = own.agree;
    worked = own.worked;
    owned = own.owned;
    before = own.before;
    noted = own.noted;
    numbers = own.numbers;
    intent = own.intent;
    clear = λ device worker is h. own.clear device worker
        (ap (λ (u : Option (OpKind × Reply)). then_heard u (links device).faults (duty_on duties device)) (sym (unheards device))
        ∙ ap (λ (count : ℕ). then_heard (links' device).unheard count (duty_on duties device)) (sym (faults device)) ∙ is) h;
    settling = own.settling;
    mending = own.mending;
  }

  -- Workers that have ended are let go.

  under_way_in : (it : Transaction) → is_under_way (retired duties it).phase ≡ true → retired duties it ≡ it
  under_way_in it h = on (is_told it.phase && are_over duties it.t it.plan.held.devices) refl
    where
      gone : (b : Bool) → is_under_way (cond b phase.Left phase.Settling) ≡ true → ⊥
      gone true e = false≢true e
      gone false e = false≢true e

      on : (b : Bool) → (is_told it.phase && are_over duties it.t it.plan.held.devices) ≡ b → retired duties it ≡ it
      on true is = absurd (gone (has_lost duties it.t it.plan.held.devices) (subst (λ (b : Bool). is_under_way (cond b (transaction_ended duties it) it).phase ≡ true) is h))
      on false is = ap (λ (b : Bool). cond b (transaction_ended duties it) it) is

  same_number : (it : Transaction) → (retired duties it).t ≡ it.t
  same_number it = on (is_told it.phase && are_over duties it.t it.plan.held.devices)
    where
      on : (b : Bool) → (cond b (transaction_ended duties it) it).t ≡ it.t
      on true = refl
      on false = refl

  told_under_way : (p : Phase) → is_told p ≡ true → is_under_way p ≡ true
  told_under_way phase.Preparing h = refl
  told_under_way phase.Decided h = refl
  told_under_way phase.Aborted h = refl
  told_under_way phase.Settling h = absurd (false≢true h)
  told_under_way phase.Left h = absurd (false≢true h)

  -- one whose worker hasn't ended stays
  works_in : (it : Transaction) (device : ℕ) (worker : Worker) → duty_on duties device ≡ duty.Works worker → is_over worker.stage ≡ false
      → list_any (nat_eq device) it.plan.held.devices ≡ true → retired duties it ≡ it
  works_in it device worker is goes names = on (is_told it.phase && are_over duties it.t it.plan.held.devices) refl
    where
      not_over : is_over_on duties it.t device ≡ false
      not_over = over_on duties it.t device ∙ ap (λ (d : Duty). is_over_for it.t d) is ∙ and_false (nat_eq worker.t it.t) (is_over worker.stage) goes

      on : (b : Bool) → (is_told it.phase && are_over duties it.t it.plan.held.devices) ≡ b → retired duties it ≡ it
      on true so = absurd (false≢true (sym not_over ∙ all_so (is_over_on duties it.t) it.plan.held.devices device (both_true (is_told it.phase) (are_over duties it.t it.plan.held.devices) so).1 names))
      on false so = ap (λ (b : Bool). cond b (transaction_ended duties it) it) so

  -- one that has ended otherwise than lost is resolved on each of its devices
  ended_clear : (place : ℕ) (it : Transaction) → slice_get active place ≡ Some it → is_told it.phase ≡ true → are_over duties it.t it.plan.held.devices ≡ true
      → has_lost duties it.t it.plan.held.devices ≡ false → (device : ℕ) (b : Noted Call) → (told_by entries).intents it.t ≡ Some b → b.plan.names device ≡ true
      → (shadow device).clear it.t ≡ true
  ended_clear place it there told all unlost device b e named =
      let known = own.noted place it there (told_under_way it.phase told) in
      let same : known.0 ≡ b = same_Some known.0 b (sym known.1 ∙ e) in
      let names : list_any (nat_eq device) it.plan.held.devices ≡ true = sym (ap (λ p. p.names device) known.2) ∙ ap (λ (n : Noted Call). n.plan.names device) same ∙ named in
      let is : is_over_for it.t (duty_on duties device) ≡ true = sym (over_on duties it.t device) ∙ all_so (is_over_on duties it.t) it.plan.held.devices device all names in
      let w = over_worker it.t (duty_on duties device) is in
      let lost : is_lost (outcome_on duties it.t device) ≡ false = none_so (λ d. is_lost (outcome_on duties it.t d)) it.plan.held.devices device unlost names in
      let outcome : outcome_on duties it.t device ≡ w.0.outcome = outcome_at duties it.t device ∙ ap (λ (d : Duty). duty_outcome it.t d) w.1
      ∙ ap (λ (b : Bool). cond b w.0.outcome None) (eq-eqb w.0.t it.t w.2) in
      let agree : agrees stage.Over w.0.outcome ≡ true = ap (λ (s : Stage). agrees s w.0.outcome) (sym (over_stage w.0.stage w.3)) ∙ own.agree device w.0 w.1 in
      ap (λ (t : ℕ). (shadow device).clear t) (sym w.2)
      ∙ own.clear device w.0 (unheard_over w.0 w.1 w.3) (final_clears w.0.outcome agree (sym (ap is_lost outcome) ∙ lost))
    where
      over_stage : (st : Stage) → is_over st ≡ true → st ≡ stage.Over
      over_stage stage.Over h = refl
      over_stage st h = absurd (false≢true h)

      unheard_over : (worker : Worker) → duty_on duties device ≡ duty.Works worker → is_over worker.stage ≡ true
          → then_heard (links device).unheard (links device).faults (duty_on duties device) ≡ duty.Works worker
      unheard_over worker is h = on (links device).unheard refl
        where
          on : (u : Option (OpKind × Reply)) → (links device).unheard ≡ u → then_heard u (links device).faults (duty_on duties device) ≡ duty.Works worker
          on None e' = is
          on (Some one) e' = absurd (false≢true (sym (due_not_over worker.stage (sym (ap is_busy is) ∙ own.due device one e')) ∙ h))

  pub retire_under : UnderHub decls shadow entries (map (retired duties) active) duties stale mends links
  retire_under = record {
    duties_sized = own.duties_sized;
    stale_sized = own.stale_sized;
    due = own.due;
    agree = own.agree;
    worked = own.worked;
    owned = λ device worker is goes.
        let o = own.owned device worker is goes in
        record {
          place = o.place;
          it = o.it;
          there = slice_get-map (retired duties) active o.place ∙ ap (option_map (retired duties)) o.there ∙ ap Some (works_in o.it device worker is goes o.names);
          number = o.number;
          under_way = o.under_way;
          names = o.names;
          noted = o.noted;
          known = o.known;
          plan = o.plan;
          set = o.set;
        };
    before = λ place it there h device worker is same.
        let one = of_map (retired duties) active place it there in
        let stays : retired duties one.0 ≡ one.0 = still_in duties one.0 (subst (λ (a : Transaction). is_preparing a.phase ≡ true) one.2 h) in
        own.before place one.0 one.1 (subst (λ (a : Transaction). is_preparing a.phase ≡ true) (one.2 ∙ stays) h) device worker is
        (same ∙ ap (λ (a : Transaction). a.t) (one.2 ∙ stays));
    noted = λ place it there h.
        let one = of_map (retired duties) active place it there in
        let stays : it ≡ one.0 = one.2 ∙ under_way_in one.0 (subst (λ (a : Transaction). is_under_way a.phase ≡ true) one.2 h) in
        subst (λ (a : Transaction). (b : Noted Call) × ((told_by entries).intents a.t ≡ Some b) × (b.plan ≡ plan_of a)) (sym stays)
        (own.noted place one.0 one.1 (subst (λ (a : Transaction). is_under_way a.phase ≡ true) stays h));
    numbers = λ i j it other there there' same.
        let one = of_map (retired duties) active i it there in
        let two = of_map (retired duties) active j other there' in
        own.numbers i j one.0 two.0 one.1 two.1
        (sym (same_number one.0) ∙ sym (ap (λ (a : Transaction). a.t) one.2) ∙ same ∙ ap (λ (a : Transaction). a.t) two.2 ∙ same_number two.0);
    intent = λ place it there.
        let one = of_map (retired duties) active place it there in
        subst (λ (t : ℕ). HasIntent entries t) (sym (ap (λ (a : Transaction). a.t) one.2 ∙ same_number one.0)) (own.intent place one.0 one.1);
    clear = own.clear;
    settling = λ place it there h device b e named.
        let one = of_map (retired duties) active place it there in
        subst (λ (t : ℕ). (shadow device).clear t ≡ true) (sym (ap (λ (a : Transaction). a.t) one.2 ∙ same_number one.0))
        (settled_so place one.0 one.1 (subst (λ (a : Transaction). is_settling a.phase ≡ true) one.2 h) device b
        (subst (λ (t : ℕ). (told_by entries).intents t ≡ Some b) (ap (λ (a : Transaction). a.t) one.2 ∙ same_number one.0) e) named);
    mending = mending_so mends own.mending;
  }
    where
      settled_so : (place : ℕ) (x : Transaction) → slice_get active place ≡ Some x → is_settling (retired duties x).phase ≡ true
          → (device : ℕ) (b : Noted Call) → (told_by entries).intents x.t ≡ Some b → b.plan.names device ≡ true → (shadow device).clear x.t ≡ true
      settled_so place x there h device b e named = on (is_told x.phase && are_over duties x.t x.plan.held.devices) refl
        where
          lost_not : (l : Bool) → is_settling (cond l phase.Left phase.Settling) ≡ true → l ≡ false
          lost_not true h' = absurd (false≢true h')
          lost_not false h' = refl

          on : (c : Bool) → (is_told x.phase && are_over duties x.t x.plan.held.devices) ≡ c → (shadow device).clear x.t ≡ true
          on true is =
              let so = both_true (is_told x.phase) (are_over duties x.t x.plan.held.devices) is in
              ended_clear place x there so.0 so.1
              (lost_not (has_lost duties x.t x.plan.held.devices) (subst (λ (b : Bool). is_settling (cond b (transaction_ended duties x) x).phase ≡ true) is h)) device b e named
          on false is = own.settling place x there (subst (λ (b : Bool). is_settling (cond b (transaction_ended duties x) x).phase ≡ true) is h) device b e named

      left_in : (x : Transaction) → x.phase ≡ phase.Left → retired duties x ≡ x
      left_in x left = ap (λ (b : Bool). cond b (transaction_ended duties x) x) (ap (λ (p : Phase). is_told p && are_over duties x.t x.plan.held.devices) left)

      mending_so : (m : Option (Option RecFault)) → MendingKept decls entries active duties stale m → MendingKept decls entries (map (retired duties) active) duties stale m
      mending_so None h = h
      mending_so (Some met) h = record {
        left = λ place it there.
            let one = of_map (retired duties) active place it there in
            ap (λ (a : Transaction). a.phase) (one.2 ∙ left_in one.0 (h.left place one.0 one.1)) ∙ h.left place one.0 one.1;
        all = h.all;
        stand = h.stand;
        done = h.done;
      }

-- How a mender ends is how the role does.

abbrev hub_kind : DeviceKind
hub_kind = record { same = equal_configs; accepts = λ c. true; fits = λ s. true; changed = λ s c. c; between = differences }

abbrev EndsAs : Option End → Mended → Reply → ℕ → Type 0
EndsAs e (Goes m) r f = e ≡ None
EndsAs e Whole r f = e ≡ Some end.Done
EndsAs e (Fails b) r f = e ≡ Some (failed_by r f)

fails_met : (device f : ℕ) (r : Reply) → mend_fault device (Some (failed_by r f)) ≡ None → ⊥
fails_met device f reply.Ok e = cc
fails_met device f (reply.Tree read) e = cc
fails_met device f (reply.Refused tag) e = cc
fails_met device f reply.Fault e = cc
fails_met device f reply.Memory e = cc

pub mends_on : (m : Mend) → is_mending (mend_stage_of m) ≡ true
mends_on (Mopening ts) = refl
mends_on (Mresolving ts) = refl
mends_on (MlockingRunning read) = refl
mends_on (MlockingCandidate read) = refl
mends_on (Mediting read) = refl
mends_on Mvalidating = refl
mends_on Mcommitting = refl
mends_on MunlockingCandidate = refl
mends_on MunlockingRunning = refl
mends_on Mclosing = refl

module _ (k : DeviceKind) (place : ℕ → Option ℕ) (due : Config) (f : ℕ) where
  goes_end : (b g : Bool) (r : Reply) (m : Mend) → EndsAs (cond b None (Some (failed_by r f))) (cond b (Goes m) (Fails g)) r f
  goes_end true g r m = refl
  goes_end false g r m = refl

  reads_end : (r : Reply) → EndsAs (read_end r f) (read_after k due r) r f
  reads_end reply.Ok = refl
  reads_end (reply.Tree read) = go (k.same read due)
    where
      go : (b : Bool) → EndsAs None (cond b (Goes Mclosing) (Goes (MlockingRunning read))) (reply.Tree read) f
      go true = refl
      go false = refl
  reads_end (reply.Refused tag) = refl
  reads_end reply.Fault = refl
  reads_end reply.Memory = refl

  closes_end : (b g : Bool) (r : Reply) → EndsAs (cond b (Some end.Done) (Some (failed_by r f))) (cond b Whole (Fails g)) r f
  closes_end true g r = refl
  closes_end false g r = refl

  ends_as : (m : Mend) (r : Reply) → EndsAs (mender_end (mender_of place due m) r f) (mender_after k due m r) r f
  ends_as (Mopening ts) r = goes_end (is_ok r) (is_fault r) r (Mresolving ts)
  ends_as (Mresolving []) r = reads_end r
  ends_as (Mresolving (t ∷ ts)) r = goes_end (is_resolved r) (is_fault r) r (Mresolving ts)
  ends_as (MlockingRunning read) r = goes_end (is_ok r) (is_fault r) r (MlockingCandidate read)
  ends_as (MlockingCandidate read) r = goes_end (is_ok r) (is_fault r) r (Mediting read)
  ends_as (Mediting read) r = goes_end (is_ok r) (is_fault r) r Mvalidating
  ends_as Mvalidating r = goes_end (is_ok r) (is_fault r) r Mcommitting
  ends_as Mcommitting r = goes_end (is_ok r) (is_fault r) r MunlockingCandidate
  ends_as MunlockingCandidate r = goes_end (is_ok r) (is_fault r) r MunlockingRunning
  ends_as MunlockingRunning r = goes_end (is_ok r) (is_fault r) r Mclosing
  ends_as Mclosing r = closes_end (is_ok r) (is_fault r) r

  -- where the mender has ended without a failure the device is done
  done_so : (device : ℕ) (e : Option End) (y : Mended) (n : MenderState) (r : Reply) → EndsAs e y r f → HasCome place due n y → is_mending n.stage ≡ false
      → mend_fault device e ≡ None → e ≡ Some end.Done
  done_so device e (Goes m) n r ends come over met = absurd (false≢true (sym over ∙ ap (λ (q : MenderState). is_mending q.stage) come ∙ mends_on m))
  done_so device e Whole n r ends come over met = ends
  done_so device e (Fails b) n r ends come over met = absurd (fails_met device f r (ap (mend_fault device) (sym ends) ∙ met))

or_parts : (a b : Option RecFault) → option_or a b ≡ None → (a ≡ None) × (b ≡ None)
or_parts None b e = (refl, e)
or_parts (Some x) b e = cc

-- An operation is reported.
module _ (decls : Decls) (shadow : ℕ → Shadow) (entries : List Entry) (active : List Transaction) (duties : List Duty) (stale : List (Option Why))
    (mends : Option (Option RecFault)) (links : ℕ → Link) (own : UnderHub decls shadow entries active duties stale mends links)
    (device : ℕ) (op : OpKind) (r : Reply) (unheard : (links device).unheard ≡ Some (op, r)) where
  abbrev f : ℕ
  f = (links device).faults

  abbrev on : Duty
  on = duty_on duties device

  abbrev duties' : List Duty
  duties' = with_changed (λ duty. duty_took duty r f) device duties

  abbrev stale' : List (Option Why)
  stale' = with_changed (stale_by on r f) device stale

  abbrev link' : Link
  link' = record (links device) { unheard = None }

  abbrev met_now : Option RecFault
  met_now = mend_fault device (duty_end on r f)

  abbrev place : ℕ → Option ℕ
  place = (told_by entries).place

  abbrev due : Config
  due = over decls device (told_by entries).history

  abbrev Stand : Type 0
  Stand = (mender : MenderState) → duty_on duties device ≡ duty.Mends mender → IsMenderOf decls entries device mender

  here : (on' : Duty) → duty_on duties' device ≡ on' → duty_took on r f ≡ on'
  here on' e = sym (took_here r f device duties) ∙ e

  there : (x : ℕ) → nat_eq device x ≡ false → duty_on duties' x ≡ duty_on duties x
  there x ne = took_there r f device x duties ne

  agree_here : (worker : Worker) → duty_on duties' device ≡ duty.Works worker → agrees worker.stage worker.outcome ≡ true
  agree_here worker e =
      let o = took_works on r f worker (here (duty.Works worker) e) in
      subst (λ (w : Worker). agrees w.stage w.outcome ≡ true) (sym o.2) (took_agrees f o.0.stage o.0.outcome r (own.agree device o.0 o.1))

  took_owned : (old : Worker) → IsOwned decls entries active device old → IsOwned decls entries active device (worker_took old r f)
  took_owned old o = record {
    place = o.place;
    it = o.it;
    there = o.there;
    number = o.number;
    under_way = o.under_way;
    names = o.names;
    noted = o.noted;
    known = o.known;
    plan = o.plan;
    set = o.set;
  }

  owned_here : (worker : Worker) → duty_on duties' device ≡ duty.Works worker → is_over worker.stage ≡ false → IsOwned decls entries active device worker
  owned_here worker e goes =
      let o = took_works on r f worker (here (duty.Works worker) e) in
      subst (IsOwned decls entries active device) (sym o.2)
      (took_owned o.0 (own.owned device o.0 o.1 (not_over_before o.0.stage r (subst (λ (w : Worker). is_over w.stage ≡ false) o.2 goes))))

  before_here : (at : ℕ) (it : Transaction) → slice_get active at ≡ Some it → is_preparing it.phase ≡ true → (worker : Worker)
      → duty_on duties' device ≡ duty.Works worker → worker.t ≡ it.t → stands_undecided worker.stage worker.outcome ≡ true
  before_here at it is h worker e same =
      let o = took_works on r f worker (here (duty.Works worker) e) in
      subst (λ (w : Worker). stands_undecided w.stage w.outcome ≡ true) (sym o.2)
      (took_before f o.0.stage o.0.outcome r (own.agree device o.0 o.1) (own.before at it is h device o.0 o.1 (sym (ap (λ (w : Worker). w.t) o.2) ∙ same)))

  come_stands : (y : Mended) (n : MenderState) → HasCome place due n y → IsMenderOf decls entries device n
  come_stands (Goes m) n h = inr (m, h)
  come_stands Whole n h = inl h
  come_stands (Fails b) n h = inl h

  -- the mender was under way
  was_busy : (old : MenderState) → on ≡ duty.Mends old → old.stage ≡ mend_stage.Over → ⊥
  was_busy old is over = false≢true (sym (ap is_mending over) ∙ sym (ap is_busy is) ∙ own.due device (op, r) unheard)

  come_from : (old : MenderState) (m : Mend) → old ≡ mender_of place due m → HasCome place due (mender_took equal_configs old r) (mender_after hub_kind due m r)
  come_from old m stands =
      subst (λ (n : MenderState). HasCome place due (mender_took equal_configs n r) (mender_after hub_kind due m r)) (sym stands) (takes_agree hub_kind place due m r)

  stand_here : Stand → (mender : MenderState) → duty_on duties' device ≡ duty.Mends mender → IsMenderOf decls entries device mender
  stand_here stand mender e =
      let o = took_mends on r f mender (here (duty.Mends mender) e) in
      subst (IsMenderOf decls entries device) (sym o.2)
      (⊎_elim (λ over. absurd (was_busy o.0 o.1 over)) (λ so. come_stands (mender_after hub_kind due so.0 r) (mender_took equal_configs o.0 r) (come_from o.0 so.0 so.1)) (stand o.0 o.1))

  done_here : Stand → met_now ≡ None → (mender : MenderState) → duty_on duties' device ≡ duty.Mends mender → is_mending mender.stage ≡ false
      → slice_get stale' device ≡ Some None
  done_here stand none mender e ended_now =
      let o = took_mends on r f mender (here (duty.Mends mender) e) in
      let within : nat_lt device (length decls.names) ≡ true = sym (ap (λ (n : ℕ). nat_lt device n) own.duties_sized) ∙ slot_within duties device (duty.Mends o.0) o.1 (mends_not_free o.0) in
      let slot = get_in stale device (length decls.names) own.stale_sized within in
      let finished : mender_end o.0 r f ≡ Some end.Done = ⊎_elim
      (λ over. absurd (was_busy o.0 o.1 over))
      (λ so. done_so hub_kind place due f device (mender_end o.0 r f) (mender_after hub_kind due so.0 r) (mender_took equal_configs o.0 r) r
      (subst (λ (n : MenderState). EndsAs (mender_end n r f) (mender_after hub_kind due so.0 r) r f) (sym so.1) (ends_as hub_kind place due f so.0 r))
      (come_from o.0 so.0 so.1) (subst (λ (n : MenderState). is_mending n.stage ≡ false) o.2 ended_now)
      (sym (ap (λ (d : Duty). mend_fault device (duty_end d r f)) o.1) ∙ none)) (stand o.0 o.1) in
      get_changed (stale_by on r f) device stale ∙ ap (option_map (stale_by on r f)) slot.1
      ∙ ap (λ (d : Duty). Some (stale_by d r f slot.0)) o.1 ∙ ap (λ (e : Option End). Some (stale_ended slot.0 e)) finished

  pub reports_under : UnderHub decls shadow entries active duties' stale' (option_map (λ met. option_or met met_now) mends) (updated_at links device link')
  reports_under = record {
    duties_sized = changed_length (λ duty. duty_took duty r f) device duties ∙ own.duties_sized;
    stale_sized = changed_length (stale_by on r f) device stale ∙ own.stale_sized;
    due = λ x one e. elim (either device x) [
      | inl s ↦ absurd (let no : None ≡ Some one =
          sym (ap (λ (l : Link). l.unheard) (given_at links device link')) ∙ ap (λ (y : ℕ). (updated_at links device link' y).unheard) s ∙ e in cc)
      | inr ne ↦ ap is_busy (there x ne) ∙ own.due x one (sym (ap (λ (l : Link). l.unheard) (given_other links device link' x ne)) ∙ e)
    ];
    agree = λ x worker e. elim (either device x) [
      | inl s ↦ agree_here worker (ap (duty_on duties') s ∙ e)
      | inr ne ↦ own.agree x worker (sym (there x ne) ∙ e)
    ];
    worked = λ x worker e. elim (either device x) [
      | inl s ↦ (let o = took_works on r f worker (here (duty.Works worker) (ap (duty_on duties') s ∙ e)) in
          subst (λ (w : Worker). HasIntent entries w.t) (sym o.2) (own.worked device o.0 o.1))
      | inr ne ↦ own.worked x worker (sym (there x ne) ∙ e)
    ];
    owned = λ x worker e goes. elim (either device x) [
      | inl s ↦ subst (λ (y : ℕ). IsOwned decls entries active y worker) s (owned_here worker (ap (duty_on duties') s ∙ e) goes)
      | inr ne ↦ own.owned x worker (sym (there x ne) ∙ e) goes
    ];
    before = λ at it is h x worker e same. elim (either device x) [
      | inl s ↦ before_here at it is h worker (ap (duty_on duties') s ∙ e) same
      | inr ne ↦ own.before at it is h x worker (sym (there x ne) ∙ e) same
    ];
    noted = own.noted;
    numbers = own.numbers;
    intent = own.intent;
    clear = λ x worker e h. elim (either device x) [
      | inl s ↦ subst (λ (y : ℕ). (shadow y).clear worker.t ≡ true) s (own.clear device worker
          (ap (λ (u : Option (OpKind × Reply)). then_heard u f on) unheard ∙ sym (took_here r f device duties)
          ∙ sym (ap (λ (l : Link). then_heard l.unheard l.faults (duty_on duties' device)) (given_at links device link'))
          ∙ ap (λ (y : ℕ). then_heard (updated_at links device link' y).unheard (updated_at links device link' y).faults (duty_on duties' y)) s ∙ e) h)
      | inr ne ↦ own.clear x worker
          (sym (ap (λ (d : Duty). then_heard (links x).unheard (links x).faults d) (there x ne))
          ∙ sym (ap (λ (l : Link). then_heard l.unheard l.faults (duty_on duties' x)) (given_other links device link' x ne)) ∙ e) h
    ];
    settling = own.settling;
    mending = mending_so mends own.mending;
  }
    where
      mending_so : (m : Option (Option RecFault)) → MendingKept decls entries active duties stale m
          → MendingKept decls entries active duties' stale' (option_map (λ met. option_or met met_now) m)
      mending_so None h = λ x mender e. elim (either device x) [
        | inl s ↦ (let o = took_mends on r f mender (here (duty.Mends mender) (ap (duty_on duties') s ∙ e)) in h device o.0 o.1)
        | inr ne ↦ h x mender (sym (there x ne) ∙ e)
      ]
      mending_so (Some met) h = record {
        left = h.left;
        all = λ x within. elim (either device x) [
          | inl s ↦ (let a = h.all x within in (
            mender_took equal_configs a.0 r,
            sym (ap (duty_on duties') s) ∙ took_here r f device duties ∙ ap (λ (d : Duty). duty_took d r f) (ap (duty_on duties) s ∙ a.1),
          ))
          | inr ne ↦ (let a = h.all x within in (a.0, there x ne ∙ a.1))
        ];
        stand = λ x mender e. elim (either device x) [
          | inl s ↦ subst (λ (y : ℕ). IsMenderOf decls entries y mender) s (stand_here (h.stand device) mender (ap (duty_on duties') s ∙ e))
          | inr ne ↦ h.stand x mender (sym (there x ne) ∙ e)
        ];
        done = λ none x mender e ended_now. let parts = or_parts met met_now none in elim (either device x) [
          | inl s ↦ sym (ap (slice_get stale') s) ∙ done_here (h.stand device) parts.1 mender (ap (duty_on duties') s ∙ e) ended_now
          | inr ne ↦ get_other (stale_by on r f) device x stale (apart_so device x ne) ∙ h.done parts.0 x mender (sym (there x ne) ∙ e) ended_now
        ];
      }
