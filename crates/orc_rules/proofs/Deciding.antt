-- A decision is written: the network moves by it, and what is kept of the work on devices stays so.
use Rattle.std.proofs.Common.{◌≡◌, ⊎_elim, ℕ, ◌+◌, Bool, true, false, cond, nat_eq, List, [], ◌∷◌, ◌++◌, Option, Some, None, map, length, refl, sym, ap, subst, ◌∙◌, eqb-true, suc}
use Rattle.std.specs.Prelude.{is_some, slice_get}
use Rattle.std.specs.List.{find, list_any}
use Rattle.std.specs.Option.{option_map}
use Rattle.std.proofs.Math.Path.{fun_ext}
use Rattle.std.proofs.lemmas.Bool.{false≢true}
use Rattle.std.proofs.lemmas.Option.{same_Some, slice_get-map}
use Rattle.orc_call.specs.declared.answer.RecFault.{RecFault}
use Rattle.orc_call.specs.declared.answer.Why.{Why}
use Rattle.orc_call.specs.declared.call.Call.{Call}
use Rattle.orc_decls.specs.declared.declarations.Decls.{Decls}
use Rattle.orc_device.specs.Nodes.{DeviceKind, NodeState}
use Rattle.orc_device.specs.declared.kind.OpKind.{OpKind}
use Rattle.orc_device.specs.declared.reply.Reply.{Reply}
use Rattle.orc_journal.specs.Committed.{as_calls, call_of}
use Rattle.orc_journal.specs.Laws.{HasIntent}
use Rattle.orc_journal.specs.declared.entry.Entry.{Entry}
use Rattle.orc_journal.specs.declared.entry.Entry.TheVariants as entry
use Rattle.orc_tree.specs.Sameness.{equal_configs}
use Rattle.orc_recover.specs.Menders.{MenderState, mender_took}
use Rattle.orc_worker.specs.Workers.{is_due}
use Rattle.orc_worker.specs.declared.report.Outcome.{Outcome}
use Rattle.orc_worker.specs.declared.stage.Stage.{Stage}
use Rattle.orc_worker.specs.declared.stage.Stage.TheVariants as stage
use Rattle.orc_worker.specs.declared.worker.Worker.{Worker}
use Rattle.orc_rules.specs.Cells.{DeviceRole, aborted_role, decided_role, updated_at}
use Rattle.orc_rules.specs.Cells.DeviceRole.{Free, Works}
use Rattle.orc_rules.specs.Courses.{agrees, stands_undecided, is_clear}
use Rattle.orc_rules.specs.Duties.{duty_told, is_busy, is_over, outcome_on}
use Rattle.orc_rules.specs.Hubs.{Hub, duty_on}
use Rattle.orc_rules.specs.Invariant.{IsLawful, is_preparing_stage as prepares}
use Rattle.orc_rules.specs.Kept.{FitAt, NetworkKept, Shadow, StandsAt, ValidAt, active_under, heard as then_heard, is_stale, mend_at, mends_at, network_of, plan_of, role_of, role_on, stale_on, stale_then, works_at}
use Rattle.orc_rules.specs.Network.{Local, Network, Noted, Plan as Named, Planning, intent_seen, seen_plan}
use Rattle.orc_rules.specs.Network.Happening.{Aborts, Decides}
use Rattle.orc_rules.specs.Told.{Told, told_by}
use Rattle.orc_rules.specs.Transactions.{in_phase, is_preparing, is_settling, retired}
use Rattle.orc_rules.specs.UnderHub.{IsOfHub, IsOwned, MendingKept, UnderHub, is_under_way}
use Rattle.orc_rules.specs.Verdicts.{are_heard, verdict}
use Rattle.orc_rules.specs.Works.{Intent, Mend}
use Rattle.orc_rules.specs.Worlds.{Link, over}
use Rattle.orc_rules.specs.declared.duty.Duty.{Duty}
use Rattle.orc_rules.specs.declared.duty.Duty.TheVariants as duty
use Rattle.orc_rules.specs.declared.transaction.Phase.{Phase}
use Rattle.orc_rules.specs.declared.transaction.Phase.TheVariants as phase
use Rattle.orc_rules.specs.declared.transaction.Transaction.{Transaction}
use Rattle.orc_rules.proofs.Courses.{told_agrees}
use Rattle.orc_rules.proofs.Entering.{intent_push}
use Rattle.orc_rules.proofs.Moving.{happening}
use Rattle.orc_rules.proofs.Reporting.{find_retired, is_of}
use Rattle.orc_rules.proofs.Retiring.{not_told, of_map}
use Rattle.orc_rules.proofs.Slots.{WasTold, all_so, outcome_at, outcome_worker, told_at, told_busy, told_mends, told_not_over, told_works}
use Rattle.orc_rules.proofs.Telling.{AtDecision, HeardStage, IsGood, MovesRole, aborted_moves, decided_moves, find_there, find_told, heard_at, net_at, prepared_at, role_told, seen_number, stale_told, told_push, verdict_none}

-- a transaction in another phase

abbrev In : ℕ → Phase → Transaction → Bool → Transaction
In t to x b = cond b (record x { phase = to }) x

phase_number : (t : ℕ) (to : Phase) (x : Transaction) → (in_phase t to x).t ≡ x.t
phase_number t to x = on (nat_eq x.t t)
  where
    on : (b : Bool) → (In t to x b).t ≡ x.t
    on true = refl
    on false = refl

phase_plan : (t : ℕ) (to : Phase) (x : Transaction) → (in_phase t to x).plan ≡ x.plan
phase_plan t to x = on (nat_eq x.t t)
  where
    on : (b : Bool) → (In t to x b).plan ≡ x.plan
    on true = refl
    on false = refl

phase_named : (t : ℕ) (to : Phase) (x : Transaction) → plan_of (in_phase t to x) ≡ plan_of x
phase_named t to x = on (nat_eq x.t t)
  where
    on : (b : Bool) → plan_of (In t to x b) ≡ plan_of x
    on true = refl
    on false = refl

preparing_under_way : (p : Phase) → is_preparing p ≡ true → is_under_way p ≡ true
preparing_under_way phase.Preparing h = refl
preparing_under_way phase.Decided h = absurd (false≢true h)
preparing_under_way phase.Aborted h = absurd (false≢true h)
preparing_under_way phase.Settling h = absurd (false≢true h)
preparing_under_way phase.Left h = absurd (false≢true h)

-- what is decided: a transaction in preparing, whose workers stand where they may
module _ (decls : Decls) (shadow : ℕ → Shadow) (entries : List Entry) (active : List Transaction) (duties : List Duty) (stale : List (Option Why))
    (mends : Option (Option RecFault)) (links : ℕ → Link) (own : UnderHub decls shadow entries active duties stale mends links)
    (place : ℕ) (it : Transaction) (there : slice_get active place ≡ Some it) (preparing : is_preparing it.phase ≡ true) where
  pub alone : (place' : ℕ) (other : Transaction) → slice_get active place' ≡ Some other → other.t ≡ it.t → place' ≡ place
  alone place' other there' same = own.numbers place' place other it there' there same

  is_it : (place' : ℕ) (other : Transaction) → slice_get active place' ≡ Some other → other.t ≡ it.t → other ≡ it
  is_it place' other there' same = same_Some other it (sym there' ∙ ap (slice_get active) (alone place' other there' same) ∙ there)

  -- a worker of it that hasn't ended is on one of its devices
  named_of : (device : ℕ) (worker : Worker) → duty_on duties device ≡ duty.Works worker → worker.t ≡ it.t → is_over worker.stage ≡ false
      → list_any (nat_eq device) it.plan.held.devices ≡ true
  named_of device worker is e goes =
      let o = own.owned device worker is goes in
      subst (λ (a : Transaction). list_any (nat_eq device) a.plan.held.devices ≡ true) (is_it o.place o.it o.there (o.number ∙ e)) o.names

  some_so : (o : Option Outcome) → is_some o ≡ true → (x : Outcome) × (o ≡ Some x)
  some_so None h = absurd (false≢true h)
  some_so (Some x) h = (x, refl)

  module _ (heard : are_heard duties it.t it.plan.held.devices ≡ true) where
    -- each of its devices has its outcome
    outcome_of : (device : ℕ) → list_any (nat_eq device) it.plan.held.devices ≡ true → (o : Outcome) × (outcome_on duties it.t device ≡ Some o)
    outcome_of device named = some_so (outcome_on duties it.t device) (all_so (λ d. is_some (outcome_on duties it.t d)) it.plan.held.devices device heard named)

    worker_of : (device : ℕ) (named : list_any (nat_eq device) it.plan.held.devices ≡ true)
        → (worker : Worker) × (duty_on duties device ≡ duty.Works worker) × (worker.t ≡ it.t) × (worker.outcome ≡ Some (outcome_of device named).0)
    worker_of device named =
        let o = outcome_of device named in
        outcome_worker it.t (duty_on duties device) o.0 (sym (outcome_at duties it.t device) ∙ o.1)

    over_stage : (st : Stage) → is_over st ≡ true → st ≡ stage.Over
    over_stage stage.Over h = refl
    over_stage st h = absurd (false≢true h)

    same_worker : (a b : Worker) → duty.Works a ≡ duty.Works b → a ≡ b
    same_worker a b e = cc

    -- the worker's outcome
    has_outcome : (device : ℕ) (worker : Worker) → duty_on duties device ≡ duty.Works worker → worker.t ≡ it.t → is_over worker.stage ≡ false
        → (o : Outcome) × (worker.outcome ≡ Some o) × (outcome_on duties it.t device ≡ Some o)
    has_outcome device worker is e goes =
        let named = named_of device worker is e goes in
        let w = worker_of device named in
        let same : w.0 ≡ worker = same_worker w.0 worker (sym w.1 ∙ is) in
        ((outcome_of device named).0, sym (ap (λ (x : Worker). x.outcome) same) ∙ w.3, (outcome_of device named).1)

    pub ready_abort : (device : ℕ) (worker : Worker) → duty_on duties device ≡ duty.Works worker → worker.t ≡ it.t → AtDecision false worker.stage
    ready_abort device worker is e = on (is_over worker.stage) refl
      where
        on : (b : Bool) → is_over worker.stage ≡ b → AtDecision false worker.stage
        on true h = subst (λ (s : Stage). AtDecision false s) (sym (over_stage worker.stage h)) AtDecision.ended
        on false h =
            let o = has_outcome device worker is e h in
            heard_at worker.stage o.0 (sym (ap (agrees worker.stage) o.1) ∙ own.agree device worker is)
            (sym (ap (stands_undecided worker.stage) o.1) ∙ own.before place it there preparing device worker is e)

    module _ (good : verdict duties it.t it.plan.held.devices ≡ None) where
      good_stage : (device : ℕ) (worker : Worker) → duty_on duties device ≡ duty.Works worker → worker.t ≡ it.t → is_over worker.stage ≡ false
          → worker.stage ≡ stage.Prepared
      good_stage device worker is e h =
          let o = has_outcome device worker is e h in
          prepared_at worker.stage o.0 (sym (ap (agrees worker.stage) o.1) ∙ own.agree device worker is)
          (sym (ap (stands_undecided worker.stage) o.1) ∙ own.before place it there preparing device worker is e)
          (subst (λ (x : Option Outcome). IsGood x) o.2 (verdict_none duties it.t it.plan.held.devices device good (named_of device worker is e h)))

      pub ready_commit : (device : ℕ) (worker : Worker) → duty_on duties device ≡ duty.Works worker → worker.t ≡ it.t → AtDecision true worker.stage
      ready_commit device worker is e = on (is_over worker.stage) refl
        where
          on : (b : Bool) → is_over worker.stage ≡ b → AtDecision true worker.stage
          on true h = subst (λ (s : Stage). AtDecision true s) (sym (over_stage worker.stage h)) AtDecision.ended
          on false h = subst (λ (s : Stage). AtDecision true s) (sym (good_stage device worker is e h)) AtDecision.prepared

      -- on each of its devices a worker of it is prepared
      pub prepared_of : (device : ℕ) → list_any (nat_eq device) it.plan.held.devices ≡ true
          → (worker : Worker) × (duty_on duties device ≡ duty.Works worker) × (worker.t ≡ it.t) × (worker.stage ≡ stage.Prepared)
      prepared_of device named =
          let w = worker_of device named in
          let o = outcome_of device named in (
            w.0,
            w.1,
            w.2,
            prepared_at w.0.stage o.0 (sym (ap (agrees w.0.stage) w.3) ∙ own.agree device w.0 w.1)
                (sym (ap (stands_undecided w.0.stage) w.3) ∙ own.before place it there preparing device w.0 w.1 w.2)
                (subst (λ (x : Option Outcome). IsGood x) o.1 (verdict_none duties it.t it.plan.held.devices device good named)),
          )

  -- what is kept of the work on devices
  module _ (e : Entry) (to : Phase) (commit : Bool) (other : is_preparing to ≡ false) (goes_on : is_under_way to ≡ true) (unsettled : is_settling to ≡ false)
      (intents : (told_by (entries ++ e ∷ [])).intents ≡ (told_by entries).intents) where
    abbrev t : ℕ
    t = it.t

    abbrev duties' : List Duty
    duties' = map (duty_told t commit) duties

    was : (device : ℕ) (worker : Worker) → duty_on duties' device ≡ duty.Works worker → WasTold t commit (duty_on duties device) worker
    was device worker is = told_works t commit (duty_on duties device) worker (sym (told_at t commit device duties) ∙ is)

    same_t : {on : Duty} {worker : Worker} (w : WasTold t commit on worker) → w.old.t ≡ worker.t
    same_t w = ⊎_elim (λ so. sym (ap (λ (x : Worker). x.t) so.2)) (λ so. sym (ap (λ (x : Worker). x.t) so.1)) w.now

    same_set : {on : Duty} {worker : Worker} (w : WasTold t commit on worker) → worker.set ≡ w.old.set
    same_set w = ⊎_elim (λ so. ap (λ (x : Worker). x.set) so.2) (λ so. ap (λ (x : Worker). x.set) so.1) w.now

    same_outcome : {on : Duty} {worker : Worker} (w : WasTold t commit on worker) → worker.outcome ≡ w.old.outcome
    same_outcome w = ⊎_elim (λ so. ap (λ (x : Worker). x.outcome) so.2) (λ so. ap (λ (x : Worker). x.outcome) so.1) w.now

    still_goes : {on : Duty} {worker : Worker} (w : WasTold t commit on worker) → is_over worker.stage ≡ false → is_over w.old.stage ≡ false
    still_goes w h = ⊎_elim
        (λ so. told_not_over w.old.stage commit (subst (λ (x : Worker). is_over x.stage ≡ false) so.2 h))
        (λ so. subst (λ (x : Worker). is_over x.stage ≡ false) so.1 h) w.now

    under_way_told : (x : Transaction) → is_under_way x.phase ≡ true → is_under_way (in_phase t to x).phase ≡ true
    under_way_told x h = on (nat_eq x.t t)
      where
        on : (b : Bool) → is_under_way (In t to x b).phase ≡ true
        on true = goes_on
        on false = h

    under_way_before : (place' : ℕ) (x : Transaction) → slice_get active place' ≡ Some x → is_under_way (in_phase t to x).phase ≡ true → is_under_way x.phase ≡ true
    under_way_before place' x there' h = on (nat_eq x.t t) refl
      where
        on : (b : Bool) → nat_eq x.t t ≡ b → is_under_way x.phase ≡ true
        on true is = preparing_under_way x.phase (ap (λ (a : Transaction). is_preparing a.phase) (is_it place' x there' (eqb-true x.t t is)) ∙ preparing)
        on false is = ap (λ (b : Bool). is_under_way (In t to x b).phase) (sym is) ∙ h

    settling_before : (x : Transaction) → is_settling (in_phase t to x).phase ≡ true → is_settling x.phase ≡ true
    settling_before x h = on (nat_eq x.t t) refl
      where
        on : (b : Bool) → nat_eq x.t t ≡ b → is_settling x.phase ≡ true
        on true is = absurd (false≢true (sym unsettled ∙ ap (λ (b : Bool). is_settling (In t to x b).phase) (sym is) ∙ h))
        on false is = ap (λ (b : Bool). is_settling (In t to x b).phase) (sym is) ∙ h

    mending_none : (m : Option (Option RecFault)) → MendingKept decls entries active duties stale m → MendingKept decls (entries ++ e ∷ []) (map (in_phase t to) active) duties' stale m
    mending_none None h = λ device mender is. h device mender (told_mends t commit (duty_on duties device) mender (sym (told_at t commit device duties) ∙ is))
    mending_none (Some met) h = absurd (false≢true (sym (ap is_preparing (h.left place it there)) ∙ preparing))

    pub told_under : UnderHub decls shadow (entries ++ e ∷ []) (map (in_phase t to) active) duties' stale mends links
    told_under = record {
      duties_sized = map_length (duty_told t commit) duties ∙ own.duties_sized;
      stale_sized = own.stale_sized;
      due = λ device one h.
          let busy = own.due device one h in
          ap is_busy (told_at t commit device duties ∙ told_busy t commit (duty_on duties device) busy) ∙ busy;
      agree = λ device worker is.
          let w = was device worker is in
          ⊎_elim
          (λ so. subst (λ (x : Worker). agrees x.stage x.outcome ≡ true) (sym so.2) (told_agrees w.old.stage w.old.outcome commit (own.agree device w.old w.was)))
          (λ so. subst (λ (x : Worker). agrees x.stage x.outcome ≡ true) (sym so.1) (own.agree device w.old w.was)) w.now;
      worked = λ device worker is.
          let w = was device worker is in
          subst (λ (n : ℕ). HasIntent (entries ++ e ∷ []) n) (same_t w) (intent_push w.old.t entries e (own.worked device w.old w.was));
      owned = λ device worker is goes.
          let w = was device worker is in
          let o = own.owned device w.old w.was (still_goes w goes) in
          record {
            place = o.place;
            it = in_phase t to o.it;
            there = slice_get-map (in_phase t to) active o.place ∙ ap (option_map (in_phase t to)) o.there;
            number = phase_number t to o.it ∙ o.number ∙ same_t w;
            under_way = under_way_told o.it o.under_way;
            names = ap (λ p. list_any (nat_eq device) p.held.devices) (phase_plan t to o.it) ∙ o.names;
            noted = o.noted;
            known = ap (λ (f : ℕ → Option (Noted Call)). f worker.t) intents ∙ ap (told_by entries).intents (sym (same_t w)) ∙ o.known;
            plan = o.plan ∙ sym (phase_named t to o.it);
            set = same_set w ∙ o.set;
          };
      before = λ place' it' there' h device worker is same.
          let one = of_map (in_phase t to) active place' it' there' in
          let stays = not_told t to one.0 other (subst (λ (a : Transaction). is_preparing a.phase ≡ true) one.2 h) in
          let w = was device worker is in
          let number : w.old.t ≡ one.0.t = same_t w ∙ same ∙ ap (λ (a : Transaction). a.t) (one.2 ∙ stays.0) in
          ⊎_elim
          (λ so. absurd (false≢true (sym stays.1 ∙ ap (λ (n : ℕ). nat_eq n t) (sym number) ∙ so.0)))
          (λ so. subst (λ (x : Worker). stands_undecided x.stage x.outcome ≡ true) (sym so.1)
          (own.before place' one.0 one.1 (subst (λ (a : Transaction). is_preparing a.phase ≡ true) (one.2 ∙ stays.0) h) device w.old w.was number)) w.now;
      noted = λ place' it' there' h.
          let one = of_map (in_phase t to) active place' it' there' in
          let known = own.noted place' one.0 one.1 (under_way_before place' one.0 one.1 (subst (λ (a : Transaction). is_under_way a.phase ≡ true) one.2 h)) in (
            known.0,
            ap (λ (f : ℕ → Option (Noted Call)). f it'.t) intents ∙ ap (told_by entries).intents (ap (λ (a : Transaction). a.t) one.2 ∙ phase_number t to one.0) ∙ known.1,
            known.2 ∙ sym (phase_named t to one.0) ∙ ap plan_of (sym one.2),
          );
      numbers = λ i j x y there' there'' same.
          let one = of_map (in_phase t to) active i x there' in
          let two = of_map (in_phase t to) active j y there'' in
          own.numbers i j one.0 two.0 one.1 two.1
          (sym (phase_number t to one.0) ∙ sym (ap (λ (a : Transaction). a.t) one.2) ∙ same ∙ ap (λ (a : Transaction). a.t) two.2 ∙ phase_number t to two.0);
      intent = λ place' it' there'.
          let one = of_map (in_phase t to) active place' it' there' in
          subst (λ (n : ℕ). HasIntent (entries ++ e ∷ []) n) (sym (ap (λ (a : Transaction). a.t) one.2 ∙ phase_number t to one.0))
          (intent_push one.0.t entries e (own.intent place' one.0 one.1));
      clear = λ device worker is h. cleared device worker h (links device).unheard refl is;
      settling = λ place' it' there' h device b known named.
          let one = of_map (in_phase t to) active place' it' there' in
          let number : it'.t ≡ one.0.t = ap (λ (a : Transaction). a.t) one.2 ∙ phase_number t to one.0 in
          ap (shadow device).clear number
          ∙ own.settling place' one.0 one.1 (settling_before one.0 (subst (λ (a : Transaction). is_settling a.phase ≡ true) one.2 h)) device b
          (ap (told_by entries).intents (sym number) ∙ sym (ap (λ (f : ℕ → Option (Noted Call)). f it'.t) intents) ∙ known) named;
      mending = mending_none mends own.mending;
    }
      where
        map_length : {X Y : Type 0} (f : X → Y) (xs : List X) → length (map f xs) ≡ length xs
        map_length f [] = refl
        map_length f (x ∷ xs) = ap suc (map_length f xs)

        cleared : (device : ℕ) (worker : Worker) → is_clear worker.outcome ≡ true → (u : Option (OpKind × Reply)) → (links device).unheard ≡ u
            → then_heard u (links device).faults (duty_on duties' device) ≡ duty.Works worker → (shadow device).clear worker.t ≡ true
        cleared device worker h None u is =
            let w = was device worker is in
            ap (shadow device).clear (sym (same_t w))
            ∙ own.clear device w.old (ap (λ (v : Option (OpKind × Reply)). then_heard v (links device).faults (duty_on duties device)) u ∙ w.was)
            (ap is_clear (sym (same_outcome w)) ∙ h)
        cleared device worker h (Some one) u is =
            own.clear device worker
            (ap (λ (v : Option (OpKind × Reply)). then_heard v (links device).faults (duty_on duties device)) u
            ∙ ap (λ (d : Duty). then_heard (Some one) (links device).faults d)
            (sym (told_at t commit device duties ∙ told_busy t commit (duty_on duties device) (own.due device one u))) ∙ is) h

-- what a worker's device sees of its intent
pub owned_seen : (decls : Decls) (entries : List Entry) (active : List Transaction) (device : ℕ) (worker : Worker) → IsOwned decls entries active device worker
    → (o : Intent Call) × (intent_seen (over decls device) device worker.t ((told_by entries).intents worker.t) ≡ Some o) × (o.t ≡ worker.t)
owned_seen decls entries active device worker own =
    (o, ap (intent_seen (over decls device) device worker.t) own.known ∙ named (own.noted.plan.names device) (ap (λ p. p.names device) own.plan ∙ own.names), refl)
  where
    o : Intent Call
    o = record { t = worker.t; call = own.noted.plan.call; before = over decls device own.noted.base; due = over decls device (own.noted.base ++ own.noted.plan.call ∷ []) }

    named : (n : Bool) → n ≡ true → seen_plan (over decls device) worker.t own.noted n ≡ Some o
    named true e = refl
    named false e = absurd (false≢true e)

-- a role is that of the same intents
same_role : (decls : Decls) (device : ℕ) (old new : Told) (on : Duty) → old.intents ≡ new.intents → role_of (over decls device) old device on ≡ role_of (over decls device) new device on
same_role decls device old new duty.Free e = refl
same_role decls device old new (duty.Works worker) e = ap (λ (f : ℕ → Option (Noted Call)). works_at (intent_seen (over decls device) device worker.t (f worker.t)) worker.stage) e
same_role decls device old new (duty.Mends mender) e = refl

module _ (decls : Decls) (kinds : ℕ → DeviceKind) (are : (device : ℕ) → IsOfHub (kinds device)) (lawful : (device : ℕ) → IsLawful (kinds device) (over decls device))
    (planning : Planning (over decls) (StandsAt decls) (FitAt decls) (ValidAt decls))
    (shadow : ℕ → Shadow) (entries : List Entry) (hub : Hub) (nodes : ℕ → NodeState) (links : ℕ → Link)
    (own : UnderHub decls shadow entries hub.active hub.duties hub.stale hub.mends links) (kept : NetworkKept decls (network_of decls shadow entries (Some hub) nodes links))
    (place : ℕ) (it : Transaction) (there : slice_get hub.active place ≡ Some it) (preparing : is_preparing it.phase ≡ true)
    (heard : are_heard hub.duties it.t it.plan.held.devices ≡ true) where
  abbrev net : Network Call
  net = network_of decls shadow entries (Some hub) nodes links

  abbrev now : Told
  now = told_by entries

  abbrev unheard_due : (device : ℕ) → (one : OpKind × Reply) → (links device).unheard ≡ Some one → is_busy (duty_on hub.duties device) ≡ true
  unheard_due device one e = own.due device one e

  is_active : active_under (Some hub) it.t ≡ Some (plan_of it)
  is_active = ap (option_map plan_of) (find_there hub.active place it there preparing
      (λ place' other there' same. own.numbers place' place other it there' there same))

  -- the network of the decision, made by the happening, is the one of the hub after it
  module _ (e : Entry) (to : Phase) (commit : Bool) (move : DeviceRole Call → DeviceRole Call) (moves : MovesRole it.t commit move) (other : is_preparing to ≡ false)
      (ready : (device : ℕ) (worker : Worker) → duty_on hub.duties device ≡ duty.Works worker → worker.t ≡ it.t → AtDecision commit worker.stage)
      (next : Told) (told_is : told_by (entries ++ e ∷ []) ≡ next) (same : next.intents ≡ now.intents) (hub' : Hub)
      (actives : hub'.active ≡ map (retired (map (duty_told it.t commit) hub.duties)) (map (in_phase it.t to) hub.active))
      (duties : hub'.duties ≡ map (duty_told it.t commit) hub.duties) (stales : hub'.stale ≡ hub.stale) where
    abbrev moved : ℕ → Local Call
    moved device = record {
      node = nodes device;
      session = (links device).session;
      clear = (shadow device).clear;
      role = move (role_on decls shadow entries (Some hub) device (links device));
      stale = stale_on decls shadow entries (Some hub) device (links device);
      at = (shadow device).at;
    }

    decision_keeps : NetworkKept decls (record {
      history = next.history;
      place = next.place;
      intents = next.intents;
      active = updated_at (active_under (Some hub)) it.t None;
      locals = moved;
    })
        → NetworkKept decls (network_of decls shadow (entries ++ e ∷ []) (Some hub') nodes links)
    decision_keeps so =
        subst (λ (x : Told). NetworkKept decls (net_at decls shadow x hub' nodes links)) (sym told_is)
        (subst (λ (a : ℕ → Option (Named Call)). NetworkKept decls (record (net_at decls shadow next hub' nodes links) { active = a })) (fun_ext active_so)
        (subst (λ (l : ℕ → Local Call). NetworkKept decls (record (net_at decls shadow next hub' nodes links) { active = updated_at (active_under (Some hub)) it.t None; locals = l }))
        (fun_ext local_so) so))
      where
        active_so : (u : ℕ) → updated_at (active_under (Some hub)) it.t None u ≡ active_under (Some hub') u
        active_so u =
            find_told it.t to other hub.active u
            ∙ sym (find_retired (map (duty_told it.t commit) hub.duties) u (map (in_phase it.t to) hub.active))
            ∙ ap (λ (xs : List Transaction). option_map plan_of (find (is_of u) xs)) (sym actives)

        duty_so : (device : ℕ) → duty_told it.t commit (duty_on hub.duties device) ≡ duty_on hub'.duties device
        duty_so device = sym (told_at it.t commit device hub.duties) ∙ ap (λ (ds : List Duty). duty_on ds device) (sym duties)

        role_so : (device : ℕ) → move (role_on decls shadow entries (Some hub) device (links device))
            ≡ role_of (over decls device) next device (then_heard (links device).unheard (links device).faults (duty_on hub'.duties device))
        role_so device =
            role_told decls now it.t commit move moves device (links device).unheard (links device).faults (duty_on hub.duties device) (unheard_due device)
            (λ worker is same'. ready device worker is same')
            ∙ ap (λ (d : Duty). role_of (over decls device) now device (then_heard (links device).unheard (links device).faults d)) (duty_so device)
            ∙ same_role decls device now next (then_heard (links device).unheard (links device).faults (duty_on hub'.duties device)) (sym same)

        stale_so : (device : ℕ) → stale_on decls shadow entries (Some hub) device (links device)
            ≡ is_stale (option_map (stale_then (links device).unheard (links device).faults (duty_on hub'.duties device)) (slice_get hub'.stale device))
        stale_so device =
            stale_told decls now it.t commit move moves device (links device).unheard (links device).faults (duty_on hub.duties device) (slice_get hub.stale device) (unheard_due device)
            ∙ ap (λ (d : Duty). is_stale (option_map (stale_then (links device).unheard (links device).faults d) (slice_get hub.stale device))) (duty_so device)
            ∙ ap (λ (ss : List (Option Why)). is_stale (option_map (stale_then (links device).unheard (links device).faults (duty_on hub'.duties device)) (slice_get ss device))) (sym stales)

        local_so : (device : ℕ) → moved device ≡ (net_at decls shadow next hub' nodes links).locals device
        local_so device =
            ap (λ (r : DeviceRole Call). record (moved device) { role = r }) (role_so device)
            ∙ ap (λ (b : Bool). record (moved device) { role = ((net_at decls shadow next hub' nodes links).locals device).role; stale = b }) (stale_so device)

  -- Abort
  pub aborts_keep : (hub' : Hub) → hub'.active ≡ map (retired (map (duty_told it.t false) hub.duties)) (map (in_phase it.t phase.Aborted) hub.active)
      → hub'.duties ≡ map (duty_told it.t false) hub.duties → hub'.stale ≡ hub.stale
      → NetworkKept decls (network_of decls shadow (entries ++ entry.Abort it.t ∷ []) (Some hub') nodes links)
  aborts_keep hub' actives duties stales =
      decision_keeps (entry.Abort it.t) phase.Aborted false (λ r. aborted_role it.t r) (aborted_moves it.t) refl ready
      now (told_push entries (entry.Abort it.t)) refl hub' actives duties stales
      (happening decls kinds are lawful planning net (Aborts it.t) kept may)
    where
      ready : (device : ℕ) (worker : Worker) → duty_on hub.duties device ≡ duty.Works worker → worker.t ≡ it.t → AtDecision false worker.stage
      ready = ready_abort decls shadow entries hub.active hub.duties hub.stale hub.mends links own place it there preparing heard

      past : (s : Option (Intent Call)) (u : Option (OpKind × Reply)) (st at : Stage) (o : Intent Call) → AtDecision false st
          → works_at s (HeardStage u st) ≡ Works o at → prepares at ≡ false
      past None u st at o ready e = cc
      past (Some q) None st at o AtDecision.prepared e = let z : stage.Prepared ≡ at = cc in ap prepares (sym z)
      past (Some q) None st at o (AtDecision.lost given_up) e = let z : stage.Lost ≡ at = cc in ap prepares (sym z)
      past (Some q) None st at o AtDecision.refusing e = let z : stage.Refusing ≡ at = cc in ap prepares (sym z)
      past (Some q) None st at o AtDecision.ended e = cc
      past (Some q) (Some one) st at o AtDecision.prepared e = let z : stage.Prepared ≡ at = cc in ap prepares (sym z)
      past (Some q) (Some one) st at o (AtDecision.lost given_up) e = let z : stage.Lost ≡ at = cc in ap prepares (sym z)
      past (Some q) (Some one) st at o AtDecision.refusing e = cc
      past (Some q) (Some one) st at o AtDecision.ended e = cc

      intent_so : (s : Option (Intent Call)) (st at : Stage) (o : Intent Call) → works_at s st ≡ Works o at → s ≡ Some o
      intent_so None st at o e = cc
      intent_so (Some q) st at o e = on (is_over st) e
        where
          on : (b : Bool) → cond b Free (Works q st) ≡ Works o at → Some q ≡ Some o
          on true e' = cc
          on false e' = let z : q ≡ o = cc in ap Some z

      mends_not : (m : Option Mend) (o : Intent Call) (at : Stage) → mends_at m ≡ Works o at → ⊥
      mends_not None o at e = cc
      mends_not (Some m) o at e = cc

      worker_so : (device : ℕ) (o : Intent Call) (at : Stage) → nat_eq it.t o.t ≡ true → (worker : Worker) → duty_on hub.duties device ≡ duty.Works worker
          → (u : Option (OpKind × Reply)) → works_at (intent_seen (over decls device) device worker.t (now.intents worker.t)) (HeardStage u worker.stage) ≡ Works o at → prepares at ≡ false
      worker_so device o at mine worker is u e =
          let s : intent_seen (over decls device) device worker.t (now.intents worker.t) ≡ Some o = intent_so (intent_seen (over decls device) device worker.t (now.intents worker.t)) (HeardStage u worker.stage) at o e in
          past (intent_seen (over decls device) device worker.t (now.intents worker.t)) u worker.stage at o
          (ready device worker is (sym (eqb-true it.t o.t mine ∙ seen_number (over decls device) device worker.t (now.intents worker.t) o s))) e

      -- who works for it is past preparing
      by_duty : (device : ℕ) (o : Intent Call) (at : Stage) → nat_eq it.t o.t ≡ true → (on : Duty) → duty_on hub.duties device ≡ on → (u : Option (OpKind × Reply)) (f : ℕ)
          → role_of (over decls device) now device (then_heard u f on) ≡ Works o at → prepares at ≡ false
      by_duty device o at mine duty.Free is None f e = cc
      by_duty device o at mine duty.Free is (Some one) f e = cc
      by_duty device o at mine (duty.Mends mender) is None f e = absurd (mends_not (mend_at (map (λ one. one.0) mender.left) mender.stage) o at e)
      by_duty device o at mine (duty.Mends mender) is (Some one) f e =
          let m : MenderState = mender_took equal_configs mender one.1 in absurd (mends_not (mend_at (map (λ one. one.0) m.left) m.stage) o at e)
      by_duty device o at mine (duty.Works worker) is None f e = worker_so device o at mine worker is None e
      by_duty device o at mine (duty.Works worker) is (Some one) f e = worker_so device o at mine worker is (Some one) e

      may : (device : ℕ) (o : Intent Call) (at : Stage) → role_on decls shadow entries (Some hub) device (links device) ≡ Works o at → nat_eq it.t o.t ≡ true → prepares at ≡ false
      may device o at is mine = by_duty device o at mine (duty_on hub.duties device) refl (links device).unheard (links device).faults is

  -- Decide
  pub commits_keep : (hub' : Hub) → call_of it.t entries ≡ Some it.call → ValidAt decls now.history (plan_of it) → verdict hub.duties it.t it.plan.held.devices ≡ None
      → hub'.active ≡ map (retired (map (duty_told it.t true) hub.duties)) (map (in_phase it.t phase.Decided) hub.active)
      → hub'.duties ≡ map (duty_told it.t true) hub.duties → hub'.stale ≡ hub.stale
      → NetworkKept decls (network_of decls shadow (entries ++ entry.Decide it.t ∷ []) (Some hub') nodes links)
  commits_keep hub' called valid good actives duties stales =
      decision_keeps (entry.Decide it.t) phase.Decided true (λ r. decided_role it.t r) (decided_moves it.t) refl
      (ready_commit decls shadow entries hub.active hub.duties hub.stale hub.mends links own place it there preparing heard good)
      next next_is refl hub' actives duties stales
      (happening decls kinds are lawful planning net (Decides it.t (plan_of it)) kept (record { active = is_active; valid = valid; prepared = prepared }))
    where
      next : Told
      next = record now { history = now.history ++ it.call ∷ []; place = updated_at now.place it.t (Some (length now.history + 1)) }

      next_is : told_by (entries ++ entry.Decide it.t ∷ []) ≡ next
      next_is =
          told_push entries (entry.Decide it.t)
          ∙ ap (λ (c : Option Call). record now { history = now.history ++ as_calls c; place = updated_at now.place it.t (Some (length now.history + 1)) }) called

      none_unheard : (device : ℕ) (worker : Worker) → duty_on hub.duties device ≡ duty.Works worker → worker.stage ≡ stage.Prepared → (links device).unheard ≡ None
      none_unheard device worker is at = on (links device).unheard refl
        where
          on : (u : Option (OpKind × Reply)) → (links device).unheard ≡ u → (links device).unheard ≡ None
          on None e = e
          on (Some one) e = absurd (false≢true (sym (ap is_due at) ∙ sym (ap is_busy is) ∙ own.due device one e))

      prepared : (device : ℕ) → list_any (nat_eq device) it.plan.held.devices ≡ true
          → (o : Intent Call) × (role_on decls shadow entries (Some hub) device (links device) ≡ Works o stage.Prepared) × (o.t ≡ it.t)
      prepared device named =
          let w = prepared_of decls shadow entries hub.active hub.duties hub.stale hub.mends links own place it there preparing heard good device named in
          let s = owned_seen decls entries hub.active device w.0 (own.owned device w.0 w.1 (ap is_over w.3)) in (
            s.0,
            ap (λ (u : Option (OpKind × Reply)). role_of (over decls device) now device (then_heard u (links device).faults (duty_on hub.duties device))) (none_unheard device w.0 w.1 w.3)
                ∙ ap (λ (d : Duty). role_of (over decls device) now device d) w.1
                ∙ ap (λ (x : Option (Intent Call)). works_at x w.0.stage) s.1
                ∙ ap (λ (st : Stage). works_at (Some s.0) st) w.3,
            s.2 ∙ w.2,
          )
