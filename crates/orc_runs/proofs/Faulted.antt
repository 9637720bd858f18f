-- Over whole runs it is known before each turn which faults of links came.
use Rattle.std.proofs.Common.{zero, suc, eqb-true, nat_eq, ◌||◌, eq-eqb, ◌≡◌, ℕ, Bool, true, false, cond, Option, Some, None, List, [], ◌∷◌, ◌++◌, map, refl, sym, ap, subst, ◌∙◌}
use Rattle.std.specs.Prelude.{All, Contains, length, nat_lt, slice_get, ◌⊎◌}
use Rattle.std.proofs.Common.{inl, inr, lt-ltb, ne_eqb}
use Rattle.std.specs.List.{fold, list_any}
use Rattle.std.specs.Option.{option_map, option_map_or, option_or}
use Rattle.std.proofs.lemmas.List.Elements.{Contains-append_left, Contains-push}
use Rattle.std.proofs.lemmas.Option.{same_Some, slice_get_within}
use Rattle.orc_call.specs.declared.answer.Answer.{Answer}
use Rattle.orc_call.specs.declared.answer.Answer.TheVariants as answer
use Rattle.orc_call.specs.declared.answer.RecFault.{RecFault}
use Rattle.orc_call.specs.declared.answer.Tag.{Tag}
use Rattle.orc_call.specs.declared.answer.Tag.TheVariants as tag
use Rattle.orc_call.specs.declared.answer.Why.{Why}
use Rattle.orc_call.specs.declared.answer.Why.TheVariants as why
use Rattle.orc_call.specs.declared.call.Call.{Call}
use Rattle.orc_device.specs.declared.kind.OpKind.{OpKind}
use Rattle.orc_device.specs.Listings.{kind_of_op}
use Rattle.orc_device.specs.declared.op.Op.TheVariants as ops
use Rattle.orc_device.specs.declared.reply.Mark.TheVariants as mark
use Rattle.orc_device.specs.declared.reply.Reply.{Reply}
use Rattle.orc_device.specs.declared.reply.Reply.TheVariants as reply
use Rattle.orc_journal.specs.Committed.{history_of}
use Rattle.orc_journal.specs.Laws.{IsUnnamed}
use Rattle.orc_journal.specs.declared.entry.Entry.{Entry}
use Rattle.orc_datastore.specs.Legal.{IsLegal}
use Rattle.orc_queue.specs.Fitting.{FitTogether}
use Rattle.orc_tree.specs.declared.change.ChangeSet.{ChangeSet}
use Rattle.orc_rules.specs.Admissions.{Passes, started}
use Rattle.orc_rules.specs.Duties.{is_busy}
use Rattle.orc_rules.specs.Events.{DoesUnderHub}
use Rattle.orc_rules.specs.Fits.{IsFirstFit}
use Rattle.orc_rules.specs.Hubs.{due_on}
use Rattle.orc_rules.specs.Kept.{HubKept, NetworkKept, network_of}
use Rattle.orc_rules.specs.Standing.{IsWaiting}
use Rattle.orc_rules.specs.UnderHub.{AreMending, MendingKept, is_under_way}
use Rattle.orc_rules.specs.Worlds.{IsIdle}
use Rattle.orc_rules.specs.declared.event.Event.TheVariants as event
use Rattle.orc_rules.specs.declared.transaction.Waiting.{Waiting}
use Rattle.orc_rules.proofs.Admitting.{none_unheard as held_heard, others}
use Rattle.orc_rules.proofs.Entering.{All-at, named_by}
use Rattle.orc_rules.proofs.Moves.{all_left, mended_in_step}
use Rattle.orc_rules.proofs.Reconciling.{all_heard}
use Rattle.orc_rules.proofs.Slots.{slot_within}
use Rattle.orc_rules.proofs.Tracking.{known_at}
use Rattle.orc_worker.specs.Workers.{outcome_by}
use Rattle.orc_worker.specs.declared.report.Outcome.{Outcome}
use Rattle.orc_worker.specs.declared.report.Outcome.TheVariants as outcome
use Rattle.orc_worker.specs.declared.worker.Worker.{Worker}
use Rattle.orc_rules.specs.Courses.{agrees, stands_undecided}
use Rattle.orc_rules.specs.Duties.{outcome_on}
use Rattle.orc_rules.specs.Events.{DoesAnyway, Steps, Turn}
use Rattle.orc_rules.specs.Fits.{first_stale}
use Rattle.orc_rules.specs.Hubs.{Hub, duty_on}
use Rattle.orc_rules.specs.Journals.{entries_read, history_read}
use Rattle.orc_rules.specs.Transactions.{is_preparing}
use Rattle.orc_rules.specs.UnderHub.{Attends, DevicesKept}
use Rattle.orc_rules.specs.Verdicts.{first_answer, is_short, lost_answer, refused_by, verdict}
use Rattle.orc_rules.specs.Worlds.{Setting, World}
use Rattle.orc_rules.specs.declared.duty.Duty.{Duty}
use Rattle.orc_rules.specs.declared.duty.Duty.TheVariants as duty
use Rattle.orc_rules.specs.declared.event.Event.{Event}
use Rattle.orc_rules.specs.declared.transaction.Transaction.{Transaction}
use Rattle.orc_rules.proofs.Slots.{outcome_at, outcome_worker}
use Rattle.orc_decls.specs.Declarations.{AreDecls}
use Rattle.orc_device.specs.declared.kind.When.{When}
use Rattle.orc_journal.specs.Laws.{KeepsOrder}
use Rattle.orc_plans.specs.Plans.{LegalStands, PlanStands}
use Rattle.orc_rules.specs.Acceptance.{Replies, RepliesKept, has_session}
use Rattle.orc_rules.specs.Cells.{updated_at}
use Rattle.orc_rules.specs.Events.{Comes}
use Rattle.orc_rules.specs.Invariant.{IsLawful}
use Rattle.orc_rules.specs.Kept.{FitAt, HistoryKept, StandsAt, ValidAt, heard}
use Rattle.orc_rules.specs.Network.{Planning}
use Rattle.orc_rules.specs.UnderHub.{IsOfHub}
use Rattle.orc_rules.specs.Worlds.{Link, declared, over, unheard_of}
use Rattle.orc_rules.proofs.Tracking.{steps_devices}
use Rattle.orc_rules.proofs.Turning.{steps_keep}
use Rattle.orc_runs.specs.Runs.{Run, turns_of}
use Rattle.orc_runs.specs.Scripts.{set_by}
use Rattle.orc_script.specs.declared.step.ScriptStep.{ScriptStep}
use Rattle.orc_script.specs.declared.step.ScriptStep.TheVariants as step
use Rattle.orc_runs.proofs.Faulting.{UnheardFaults, by_fault, does_faults, more_known}
use Rattle.orc_runs.proofs.Forward.{run_forward}
use Rattle.orc_runs.proofs.InStep.{set_devices}
use Rattle.orc_runs.proofs.Lasting.{set_kept}
use Rattle.orc_runs.specs.Headline.{HasFault, IsStaleBecause, WasGone, is_admission, is_mended, since_admitted, since_mended}
use Rattle.orc_runs.proofs.Faulting.{FaultsKnown, UnderFaults, lost_stage}

-- a stale device is named with its cause
pub record IsStaleAt (stale : List (Option Why)) (said : Answer) : Type 0 where
  pub device : ℕ
  pub cause : Why
  pub said_is : said ≡ answer.OutOfSync device cause
  pub there : slice_get stale device ≡ Some (Some cause)

pub stale_at : (devices : List ℕ) (stale : List (Option Why)) (said : Answer) → first_stale devices stale ≡ Some said → IsStaleAt stale said
stale_at [] stale said h = absurd cc
stale_at (device ∷ devices) stale said h = on (slice_get stale device) refl h (stale_at devices stale said)
  where
    on : (slot : Option (Option Why)) → slice_get stale device ≡ slot
        → option_or (option_map_or (option_map (λ w. answer.OutOfSync device w)) slot None) (first_stale devices stale) ≡ Some said
        → (first_stale devices stale ≡ Some said → IsStaleAt stale said) → IsStaleAt stale said
    on None is e rest = rest e
    on (Some None) is e rest = rest e
    on (Some (Some w)) is e rest = record { device = device; cause = w; said_is = sym (same_Some (answer.OutOfSync device w) said e); there = is }

-- what a transaction is given up for, where its devices say so
pub data GivenUpBy (duties : List Duty) (t : ℕ) (devices : List ℕ) (said : Answer) : Type 0 where
  by_memory : said ≡ answer.Memory → GivenUpBy duties t devices said
  by_refusal : (device : ℕ) (tag : Tag) → list_any (nat_eq device) devices ≡ true → said ≡ answer.Refused device tag → outcome_on duties t device ≡ Some (outcome.Refused tag)
      → GivenUpBy duties t devices said
  by_loss : (device count : ℕ) → list_any (nat_eq device) devices ≡ true → said ≡ answer.LinkFault device count → outcome_on duties t device ≡ Some (outcome.Lost count)
      → GivenUpBy duties t devices said

-- the device whose outcome is answered
pub record FirstOf (by : ℕ → Option Outcome → Option Answer) (duties : List Duty) (t : ℕ) (devices : List ℕ) (said : Answer) : Type 0 where
  pub device : ℕ
  pub named : list_any (nat_eq device) devices ≡ true
  pub says : by device (outcome_on duties t device) ≡ Some said

first_of : (by : ℕ → Option Outcome → Option Answer) (duties : List Duty) (t : ℕ) (devices : List ℕ) (said : Answer) → first_answer by duties t devices ≡ Some said → FirstOf by duties t devices said
first_of by duties t [] said h = absurd cc
first_of by duties t (device ∷ devices) said h = on (by device (outcome_on duties t device)) refl h (first_of by duties t devices said)
  where
    or_more : (a b : Bool) → b ≡ true → (a || b) ≡ true
    or_more true b e = refl
    or_more false b e = e

    on : (o : Option Answer) → by device (outcome_on duties t device) ≡ o → option_or o (first_answer by duties t devices) ≡ Some said
        → (first_answer by duties t devices ≡ Some said → FirstOf by duties t devices said) → FirstOf by duties t (device ∷ devices) said
    on None is e rest = let f = rest e in record { device = f.device; named = or_more (nat_eq f.device device) (list_any (nat_eq f.device) devices) f.named; says = f.says }
    on (Some x) is e rest = record { device = device; named = ap (λ (b : Bool). b || list_any (nat_eq device) devices) (eq-eqb device device refl); says = is ∙ e }

refusal_said : (device : ℕ) (o : Option Outcome) (said : Answer) → refused_by device o ≡ Some said → (tag : Tag) × (o ≡ Some (outcome.Refused tag)) × (said ≡ answer.Refused device tag)
refusal_said device (Some (outcome.Refused tag)) said h = (tag, refl, sym (same_Some (answer.Refused device tag) said h))
refusal_said device None said h = absurd cc
refusal_said device (Some outcome.Prepared) said h = absurd cc
refusal_said device (Some (outcome.Lost count)) said h = absurd cc
refusal_said device (Some outcome.Short) said h = absurd cc
refusal_said device (Some outcome.Confirmed) said h = absurd cc
refusal_said device (Some outcome.Gone) said h = absurd cc
refusal_said device (Some outcome.Cancelled) said h = absurd cc

loss_said : (device : ℕ) (o : Option Outcome) (said : Answer) → lost_answer device o ≡ Some said → (count : ℕ) × (o ≡ Some (outcome.Lost count)) × (said ≡ answer.LinkFault device count)
loss_said device (Some (outcome.Lost count)) said h = (count, refl, sym (same_Some (answer.LinkFault device count) said h))
loss_said device None said h = absurd cc
loss_said device (Some outcome.Prepared) said h = absurd cc
loss_said device (Some (outcome.Refused tag)) said h = absurd cc
loss_said device (Some outcome.Short) said h = absurd cc
loss_said device (Some outcome.Confirmed) said h = absurd cc
loss_said device (Some outcome.Gone) said h = absurd cc
loss_said device (Some outcome.Cancelled) said h = absurd cc

pub given_up_by : (duties : List Duty) (t : ℕ) (devices : List ℕ) (said : Answer) → verdict duties t devices ≡ Some said → GivenUpBy duties t devices said
given_up_by duties t devices said h = on (list_any (λ device. is_short (outcome_on duties t device)) devices) h
  where
    on : (b : Bool) → cond b (Some answer.Memory) (option_or (first_answer refused_by duties t devices) (first_answer lost_answer duties t devices)) ≡ Some said → GivenUpBy duties t devices said
    on true e = GivenUpBy.by_memory (sym (same_Some answer.Memory said e))
    on false e = by (first_answer refused_by duties t devices) refl e
      where
        by : (o : Option Answer) → first_answer refused_by duties t devices ≡ o → option_or o (first_answer lost_answer duties t devices) ≡ Some said → GivenUpBy duties t devices said
        by (Some x) is e' =
            let f = first_of refused_by duties t devices said (is ∙ e') in
            let r = refusal_said f.device (outcome_on duties t f.device) said f.says in
            GivenUpBy.by_refusal f.device r.0 f.named r.2 r.1
        by None is e' =
            let f = first_of lost_answer duties t devices said e' in
            let l = loss_said f.device (outcome_on duties t f.device) said f.says in
            GivenUpBy.by_loss f.device l.0 f.named l.2 l.1

module _ {D : Type 0} (here : Setting D) (Came : ℕ → Why → Type 0) (Lost : ℕ → ℕ → ℕ → Type 0) where
  module _ (world : World D) (hub : Hub) (up : world.hub ≡ Some hub) (devices : DevicesKept here.decls world) (own : FaultsKnown Came Lost world) where
    abbrev under : Attends here.decls devices.shadow (entries_read world.journal) hub world.links
    under = devices.under hub up

    abbrev u : UnderFaults Came Lost hub.duties hub.stale world.links
    u = own.under hub up

    pub lost_by : (place : ℕ) (it : Transaction) → slice_get hub.active place ≡ Some it → is_preparing it.phase ≡ true → (device count : ℕ)
        → outcome_on hub.duties it.t device ≡ Some (outcome.Lost count) → Lost it.t device count
    lost_by place it there preparing device count h =
        let w = outcome_worker it.t (duty_on hub.duties device) (outcome.Lost count) (sym (outcome_at hub.duties it.t device) ∙ h) in
        let agree = subst (λ (o : Option Outcome). agrees w.0.stage o ≡ true) w.3 (under.agree device w.0 w.1) in
        let undecided = subst (λ (o : Option Outcome). stands_undecided w.0.stage o ≡ true) w.3 (under.before place it there preparing device w.0 w.1 w.2) in
        subst (λ (n : ℕ). Lost n device count) w.2 (u.lost device w.0 count w.1 (lost_stage w.0.stage count agree undecided) w.3)

-- what a line sets leaves of a link what the hub learns from it
pub record SameLink (l m : Link) : Type 0 where
  pub unheard : l.unheard ≡ m.unheard
  pub faults : l.faults ≡ m.faults
  pub session : l.session ≡ m.session

pub listed_same : (links : ℕ → Link) (device : ℕ) (op : OpKind) (at : When) (x : ℕ)
    → SameLink (updated_at links device (record (links device) { listed = (links device).listed ++ (op, at) ∷ [] }) x) (links x)
listed_same links device op at x = on (nat_eq device x) refl
  where
    mine : Link
    mine = record (links device) { listed = (links device).listed ++ (op, at) ∷ [] }

    on : (b : Bool) → nat_eq device x ≡ b → SameLink (cond b mine (links x)) (links x)
    on true is = subst (λ (y : ℕ). SameLink mine (links y)) (eqb-true device x is) (record { unheard = refl; faults = refl; session = refl })
    on false is = record { unheard = refl; faults = refl; session = refl }

module _ {D : Type 0} (here : Setting D) where
  relinked_replies : (history : List Call) (active : List Transaction) (duties : List Duty) (links links' : ℕ → Link) → ((x : ℕ) → SameLink (links' x) (links x))
      → Replies here.decls here.kinds history active duties links → Replies here.decls here.kinds history active duties links'
  relinked_replies history active duties links links' same own = record {
    opened = λ x h. ap (λ (n : ℕ). nat_eq n 0) (same x).session ∙ own.opened x (ap has_session (sym (heard_same x)) ∙ h);
    tells = λ place it there preparing x worker named is number. own.tells place it there preparing x worker named (sym (heard_same x) ∙ is) number;
    honest = λ x one h. own.honest x one (sym (same x).unheard ∙ h);
  }
    where
      heard_same : (x : ℕ) → heard (links' x).unheard (links' x).faults (duty_on duties x) ≡ heard (links x).unheard (links x).faults (duty_on duties x)
      heard_same x =
          ap (λ (u : Option (OpKind × Reply)). heard u (links' x).faults (duty_on duties x)) (same x).unheard
          ∙ ap (λ (f : ℕ). heard (links x).unheard f (duty_on duties x)) (same x).faults

  pub set_replies : (at : ScriptStep) (world : World D) → RepliesKept here world → RepliesKept here (set_by at world)
  set_replies (step.StopAt count bytes) world own = on world.hub
    where
      on : (hub : Option Hub) → RepliesKept here (option_map_or (λ h. record world { journal = record world.journal { armed = count; bytes = bytes } }) hub world)
      on None = own
      on (Some hub) = record { nodes = own.nodes; under = own.under }
  set_replies (step.Fault device op at) world own = record {
    nodes = own.nodes;
    under = λ hub up. relinked_replies (history_read world.journal) hub.active hub.duties world.links _ (listed_same world.links device op at) (own.under hub up);
  }
  set_replies other world own = own

  set_faults : (Came : ℕ → Why → Type 0) (Lost : ℕ → ℕ → ℕ → Type 0) (at : ScriptStep) (world : World D) → FaultsKnown Came Lost world → FaultsKnown Came Lost (set_by at world)
  set_faults Came Lost (step.StopAt count bytes) world own = on world.hub
    where
      on : (hub : Option Hub) → FaultsKnown Came Lost (option_map_or (λ h. record world { journal = record world.journal { armed = count; bytes = bytes } }) hub world)
      on None = own
      on (Some hub) = record { unheard = own.unheard; under = own.under }
  set_faults Came Lost (step.Fault device op at) world own = record {
    unheard = λ x op' h.
        let same = listed_same world.links device op at x in
        subst (λ (n : ℕ). Came x (why.Fault n)) (sym same.faults) (own.unheard x op' (sym same.unheard ∙ h));
    under = λ hub up. let u = own.under hub up in record {
      lost = u.lost;
      stale_so = u.stale_so;
      loses = λ x op' worker h is.
          let same = listed_same world.links device op at x in
          subst (Lost worker.t x) (sym same.faults) (u.loses x op' worker (sym same.unheard ∙ h) is);
      is_gone = λ x op' r worker h is g.
          let same = listed_same world.links device op at x in
          u.is_gone x op' r worker (sym same.unheard ∙ h) is (ap (λ (n : ℕ). outcome_by worker.stage r n) (sym same.faults) ∙ g);
    };
  }
  set_faults Came Lost other world own = own

-- a split of turns to which one was added
pub data SplitPush {X : Type 0} (xs : List X) (x : X) (earlier : List X) (y : X) : Type 0 where
  at_last : earlier ≡ xs → y ≡ x → SplitPush xs x earlier y
  before_last : (later : List X) → xs ≡ earlier ++ y ∷ later → SplitPush xs x earlier y

pub nil_none : {X : Type 0} (xs : List X) (y : X) (later : List X) → [] ≡ xs ++ y ∷ later → ⊥
nil_none [] y later e = cc
nil_none (x ∷ xs) y later e = cc

pub split_push : {X : Type 0} (xs : List X) (x : X) (earlier : List X) (y : X) (later : List X) → xs ++ x ∷ [] ≡ earlier ++ y ∷ later → SplitPush xs x earlier y
split_push [] x [] y later e = SplitPush.at_last refl (let same : x ≡ y = cc in sym same)
split_push {X = X} [] x (z ∷ earlier) y later e = absurd (nil_none earlier y later (let rest : ◌≡◌ {A = List X} [] (earlier ++ y ∷ later) = cc in rest))
split_push (w ∷ xs) x [] y later e = SplitPush.before_last xs (let same : w ≡ y = cc in ap (λ z. z ∷ xs) same)
split_push (w ∷ xs) x (z ∷ earlier) y later e = on (split_push xs x earlier y later (let rest : xs ++ x ∷ [] ≡ earlier ++ y ∷ later = cc in rest)) (let same : w ≡ z = cc in same)
  where
    on : SplitPush xs x earlier y → w ≡ z → SplitPush (w ∷ xs) x (z ∷ earlier) y
    on (SplitPush.at_last front same) head = SplitPush.at_last (ap (λ l. z ∷ l) front ∙ ap (λ a. a ∷ xs) (sym head)) same
    on (SplitPush.before_last later' rest) head = SplitPush.before_last later' (ap (λ a. a ∷ xs) head ∙ ap (λ l. z ∷ l) rest)

-- folds

pub fold_push : {X Y : Type 0} (f : Y → X → Y) (a : Y) (xs : List X) (x : X) → fold f a (xs ++ x ∷ []) ≡ f (fold f a xs) x
fold_push f a [] x = refl
fold_push f a (y ∷ xs) x = fold_push f (f a y) xs x

-- a fault stays among more
more_fault : {D : Type 0} (ts : List (Turn D)) (turn : Turn D) (device number : ℕ) → HasFault ts device number → HasFault (ts ++ turn ∷ []) device number
more_fault ts turn device number h = (h.0, h.1, Contains-append_left ts (turn ∷ []) h.0 h.2, h.3)

module _ {D : Type 0} (first : World D) (ts : List (Turn D)) (turn : Turn D) where
  mended_push : is_mended turn.seen ≡ false → since_mended (ts ++ turn ∷ []) ≡ since_mended ts ++ turn ∷ []
  mended_push none = fold_push (λ so_far t. cond (is_mended t.seen) [] (so_far ++ t ∷ [])) [] ts turn ∙ ap (λ (b : Bool). cond b [] (since_mended ts ++ turn ∷ [])) none

  admitted_push : (t : ℕ) → is_admission t turn.seen ≡ false → since_admitted t (ts ++ turn ∷ []) ≡ since_admitted t ts ++ turn ∷ []
  admitted_push t none =
      fold_push (λ so_far x. cond (is_admission t x.seen) [] (so_far ++ x ∷ [])) [] ts turn ∙ ap (λ (b : Bool). cond b [] (since_admitted t ts ++ turn ∷ [])) none

  -- where it ends no reconciliation well a cause stays
  more_cause : is_mended turn.seen ≡ false → (device : ℕ) (cause : Why) → IsStaleBecause first ts device cause → IsStaleBecause first (ts ++ turn ∷ []) device cause
  more_cause none device (why.Fault number) h = subst (λ (l : List (Turn D)). HasFault l device number) (sym (mended_push none)) (more_fault (since_mended ts) turn device number h)
  more_cause none device (why.Gone t) h = subst (λ (l : List (Turn D)). WasGone l device t) (sym (mended_push none)) (record {
    turn = h.turn;
    among = Contains-append_left (since_mended ts) (turn ∷ []) h.turn h.among;
    hub = h.hub;
    up = h.up;
    due = h.due;
    count = h.count;
    seen = h.seen;
  })
  more_cause none device why.Recovered (inl h) =
      inl (h.0, subst (λ (l : List (Turn D)). Contains l h.0) (sym (mended_push none)) (Contains-append_left (since_mended ts) (turn ∷ []) h.0 h.1), h.2)
  more_cause none device why.Recovered (inr h) = inr (mended_push none ∙ ap (λ (l : List (Turn D)). l ++ turn ∷ []) h.0, h.1)

  -- where it doesn't admit the call a fault since then stays
  more_lost : (t : ℕ) → is_admission t turn.seen ≡ false → (device number : ℕ) → HasFault (since_admitted t ts) device number → HasFault (since_admitted t (ts ++ turn ∷ [])) device number
  more_lost t none device number h = subst (λ (l : List (Turn D)). HasFault l device number) (sym (admitted_push t none)) (more_fault (since_admitted t ts) turn device number h)

  -- what comes in it
  fault_now : is_mended turn.seen ≡ false → (device number : ℕ) (kind : OpKind) → turn.seen ≡ Some (event.Perform device kind mark.Fault number) → HasFault (since_mended (ts ++ turn ∷ [])) device number
  fault_now none device number kind e = subst (λ (l : List (Turn D)). HasFault l device number) (sym (mended_push none)) (turn, kind, Contains-push (since_mended ts) turn, e)

  lost_now : (t : ℕ) → is_admission t turn.seen ≡ false → (device number : ℕ) (kind : OpKind) → turn.seen ≡ Some (event.Perform device kind mark.Fault number)
      → HasFault (since_admitted t (ts ++ turn ∷ [])) device number
  lost_now t none device number kind e = subst (λ (l : List (Turn D)). HasFault l device number) (sym (admitted_push t none)) (turn, kind, Contains-push (since_admitted t ts) turn, e)

  gone_now : is_mended turn.seen ≡ false → (hub : Hub) → turn.before.hub ≡ Some hub → (device t count : ℕ) → due_on hub device ≡ Some (ops.Confirm t)
      → turn.seen ≡ Some (event.Perform device (kind_of_op (ops.Confirm t)) (mark.Refused tag.InvalidValue) count) → WasGone (since_mended (ts ++ turn ∷ [])) device t
  gone_now none hub up device t count due e = subst (λ (l : List (Turn D)). WasGone l device t) (sym (mended_push none)) (record {
    turn = turn;
    among = Contains-push (since_mended ts) turn;
    hub = hub;
    up = up;
    due = due;
    count = count;
    seen = e;
  })

-- over a whole run
module _ {D : Type 0} (here : Setting D) (are : AreDecls here.decls) (plans : PlanStands) (legally : LegalStands) (order : KeepsOrder)
    (kinds : (device : ℕ) → IsOfHub (here.kinds device)) (lawful : (device : ℕ) → IsLawful (here.kinds device) (over here.decls device))
    (planning : Planning (over here.decls) (StandsAt here.decls) (FitAt here.decls) (ValidAt here.decls))
    (replies_steps : (old new : World D) (meant : Event) (seen : Option Event) → HistoryKept here old → DevicesKept here.decls old → RepliesKept here old → Steps here old meant seen new → RepliesKept here new)
    (first : World D) where
  -- why a device may be stale after these turns, and by which faults workers of a transaction were lost
  abbrev pub CameIn : List (Turn D) → ℕ → Why → Type 0
  CameIn ts = IsStaleBecause first ts

  abbrev pub LostIn : List (Turn D) → ℕ → ℕ → ℕ → Type 0
  LostIn ts t = HasFault (since_admitted t ts)

  -- the causes and the faults were known before each turn
  abbrev pub AllKnown : List (Turn D) → Type 0
  AllKnown ts = (earlier later : List (Turn D)) (turn : Turn D) → ts ≡ earlier ++ turn ∷ later → FaultsKnown (CameIn earlier) (LostIn earlier) turn.before

  pub record FaultsSoFar (ts : List (Turn D)) (world : World D) : Type 0 where
    pub history : HistoryKept here world
    pub devices : DevicesKept here.decls world
    pub replies : RepliesKept here world
    pub known : FaultsKnown (CameIn ts) (LostIn ts) world
    pub knew : AllKnown ts

  -- no hub is up
  down_known : (F : ℕ → Why → Type 0) (L : ℕ → ℕ → ℕ → Type 0) (world old : World D) → world.hub ≡ None → world.links ≡ (λ device. unheard_of (old.links device)) → FaultsKnown F L world
  down_known F L world old down is = record {
    unheard = subst (UnheardFaults (by_fault F)) (sym is) (λ device op h. absurd cc);
    under = λ hub up. absurd (let none : ◌≡◌ {A = Option Hub} None (Some hub) = sym down ∙ up in cc);
  }

  -- under a hub that is up
  module _ (ts : List (Turn D)) (old : World D) (hub : Hub) (up : old.hub ≡ Some hub) (kept : HistoryKept here old) (devices : DevicesKept here.decls old) (own : FaultsKnown (CameIn ts) (LostIn ts) old) where
    abbrev attends : Attends here.decls devices.shadow (entries_read old.journal) hub old.links
    attends = devices.under hub up

    abbrev of_hub : HubKept here.decls (entries_read old.journal) (history_of (entries_read old.journal)) hub.active hub.waiting hub.given
        × IsLegal here.decls (history_of (entries_read old.journal))
    of_hub = known_at here are plans kinds lawful planning old hub kept up

    -- an admission begins work only where all is heard
    free : (it : Waiting) (sets : List (ℕ × ChangeSet)) (place : ℕ) → slice_get hub.waiting place ≡ Some it → IsFirstFit hub.active hub.waiting place → hub.mends ≡ None
        → Passes here.decls (history_read old.journal) it.call it.plan sets → first_stale it.plan.held.devices hub.stale ≡ None
        → (x : ℕ) → (duty_on (started it.t sets hub.duties) x ≡ duty_on hub.duties x) ⊎ ((old.links x).unheard ≡ None)
    free it sets place there first idle passes fresh x = on (list_any (nat_eq x) it.plan.held.devices) refl
      where
        is : first.it ≡ it
        is = same_Some first.it it (sym first.fits.there ∙ there)

        unused : IsUnnamed (entries_read old.journal) it.t
        unused = All-at (λ (one : Waiting). IsUnnamed (entries_read old.journal) one.t) hub.waiting place it of_hub.0.unused there

        waits : IsWaiting here.decls (history_of (entries_read old.journal)) it
        waits = All-at (IsWaiting here.decls (history_of (entries_read old.journal))) hub.waiting place it of_hub.0.waits there

        fits : All (λ (other : Transaction). FitTogether it.plan.held other.plan.held) hub.active
        fits = subst (λ (w : Waiting). All (λ (other : Transaction). FitTogether w.plan.held other.plan.held) hub.active) is first.fits.active_ones

        net_kept : NetworkKept here.decls (network_of here.decls devices.shadow (entries_read old.journal) (Some hub) old.nodes old.links)
        net_kept = subst (λ (h : Option Hub). NetworkKept here.decls (network_of here.decls devices.shadow (entries_read old.journal) h old.nodes old.links)) up devices.kept

        on : (b : Bool) → list_any (nat_eq x) it.plan.held.devices ≡ b → (duty_on (started it.t sets hub.duties) x ≡ duty_on hub.duties x) ⊎ ((old.links x).unheard ≡ None)
        on true named = inr (held_heard here.decls are plans here.kinds kinds lawful planning devices.shadow (entries_read old.journal) hub old.nodes old.links attends net_kept of_hub.0.admitted of_hub.1
            it sets (length (history_read old.journal)) unused idle fits passes waits.lawful fresh x named)
        on false unnamed = inl (others here.decls are plans here.kinds kinds lawful planning devices.shadow (entries_read old.journal) hub old.nodes old.links attends net_kept of_hub.0.admitted of_hub.1
            it sets (length (history_read old.journal)) unused idle fits passes waits.lawful fresh x unnamed)

    -- a reconciliation begins where all is heard
    idle_heard : IsIdle hub → (x : ℕ) → (old.links x).unheard ≡ None
    idle_heard idle x =
        all_heard here.decls devices.shadow (entries_read old.journal) hub.active hub.duties hub.stale hub.mends old.links attends (λ place it there. ap is_under_way (all_left hub.active idle.1 place it there))
        (subst (λ (n : Option (Option RecFault)). MendingKept here.decls (entries_read old.journal) hub.active hub.duties hub.stale n) idle.2 attends.mending) x

    -- as a reconciliation ends well nothing is to be known
    nothing_known : (F : ℕ → Why → Type 0) (L : ℕ → ℕ → ℕ → Type 0) → hub.mends ≡ Some None → All (λ duty. is_busy duty ≡ false) hub.duties → ((device : ℕ) → (old.links device).unheard ≡ None)
        → FaultsKnown F L old
    nothing_known F L met busy heard = record {
      unheard = λ x op h. absurd (let no : ◌≡◌ {A = Option (OpKind × Reply)} None (Some (op, reply.Fault)) = sym (heard x) ∙ h in cc);
      under = λ h e. subst (λ (y : Hub). UnderFaults F L y.duties y.stale old.links) (same_Some hub h (sym up ∙ e)) (record {
        lost = λ x worker count is at o. absurd (no_worker x worker is);
        stale_so = λ x cause is. absurd (none_stale x cause is);
        loses = λ x op worker h' is. absurd (no_worker x worker is);
        is_gone = λ x op r worker h' is g. absurd (no_worker x worker is);
      });
    }
      where
        mending : AreMending here.decls (entries_read old.journal) hub.active hub.duties hub.stale None
        mending = subst (λ (n : Option (Option RecFault)). MendingKept here.decls (entries_read old.journal) hub.active hub.duties hub.stale n) met attends.mending

        no_worker : (x : ℕ) (worker : Worker) → duty_on hub.duties x ≡ duty.Works worker → ⊥
        no_worker x worker is =
            let within = ap (λ (n : ℕ). nat_lt x n) (sym attends.duties_sized) ∙ slot_within hub.duties x (duty.Works worker) is (λ e. cc) in
            let m = mending.all x within in
            let no : duty.Mends m.0 ≡ duty.Works worker = sym m.1 ∙ is in cc

        none_stale : (x : ℕ) (cause : Why) → slice_get hub.stale x ≡ Some (Some cause) → ⊥
        none_stale x cause is =
            let within : nat_lt x (length here.decls.names) ≡ true = ap (λ (n : ℕ). nat_lt x n) (sym attends.stale_sized) ∙ lt-ltb x (length hub.stale) (slice_get_within hub.stale x (Some cause) is) in
            let fresh = (mended_in_step here are plans kinds lawful planning old hub kept devices up of_hub.0 of_hub.1 met heard busy x within).0 in
            let no : ◌≡◌ {A = Option (Option Why)} (Some None) (Some (Some cause)) = sym fresh ∙ is in cc

    -- what was known stays so, unless a reconciliation ends well: then there is nothing
    still_known : (turn : Turn D) (meant : Event) (row : List Entry) (next : World D) → DoesUnderHub here old hub meant row next → turn.seen ≡ Some meant
        → FaultsKnown (CameIn (ts ++ turn ∷ [])) (LostIn (ts ++ turn ∷ [])) old
    still_known turn meant row next (DoesUnderHub.mended numbers met busy heard unsettled) seen = nothing_known (CameIn (ts ++ turn ∷ [])) (LostIn (ts ++ turn ∷ [])) met busy heard
    still_known turn meant row next (DoesUnderHub.admits place it sets there first_fit idle passes fresh) seen =
        more_known (CameIn ts) (CameIn (ts ++ turn ∷ [])) (LostIn ts) (LostIn (ts ++ turn ∷ [])) old (more_cause first ts turn (ap is_mended seen))
        (λ h x worker e is. more_lost first ts turn worker.t (ap (is_admission worker.t) seen ∙ ne_eqb it.t worker.t (other h x worker e is)))
        own
      where
        other : (h : Hub) (x : ℕ) (worker : Worker) → old.hub ≡ Some h → duty_on h.duties x ≡ duty.Works worker → it.t ≡ worker.t → ⊥
        other h x worker e is same =
            named_by worker.t it.t (entries_read old.journal) ((devices.under h e).worked x worker is)
            (All-at (λ (one : Waiting). IsUnnamed (entries_read old.journal) one.t) hub.waiting place it of_hub.0.unused there) (sym same)
    still_known turn meant row next does seen =
        more_known (CameIn ts) (CameIn (ts ++ turn ∷ [])) (LostIn ts) (LostIn (ts ++ turn ∷ [])) old (more_cause first ts turn (ap is_mended seen))
        (λ h x worker e is. more_lost first ts turn worker.t (ap (is_admission worker.t) seen))
        own

  steps_known : (ts : List (Turn D)) (old new : World D) (meant : Event) (seen : Option Event) → HistoryKept here old → DevicesKept here.decls old → RepliesKept here old
      → FaultsKnown (CameIn ts) (LostIn ts) old → Steps here old meant seen new
      → FaultsKnown (CameIn (ts ++ record { before = old; meant = meant; seen = seen; behind = new } ∷ [])) (LostIn (ts ++ record { before = old; meant = meant; seen = seen; behind = new } ∷ [])) new
  steps_known ts old new meant seen kept devices replies own (Steps.done hub row next _ up does appends is) =
      subst (λ (w : World D). FaultsKnown (CameIn (ts ++ turn ∷ [])) (LostIn (ts ++ turn ∷ [])) w) (sym is) (record { unheard = known.unheard; under = known.under })
    where
      turn : Turn D
      turn = record { before = old; meant = meant; seen = Some meant; behind = new }

      known : FaultsKnown (CameIn (ts ++ turn ∷ [])) (LostIn (ts ++ turn ∷ [])) next
      known = does_faults here (CameIn (ts ++ turn ∷ [])) (LostIn (ts ++ turn ∷ [])) old hub up (still_known ts old hub up kept devices own turn meant row next does refl)
          (replies.under hub up).honest (devices.under hub up).due meant row next does (free ts old hub up kept devices own) (idle_heard ts old hub up kept devices own)
          (λ device kind count e. (
            fault_now first ts turn (ap (λ (m : Event). is_mended (Some m)) e) device count kind (ap (λ (m : Event). Some m) e),
            λ t. lost_now first ts turn t (ap (λ (m : Event). is_admission t (Some m)) e) device count kind (ap (λ (m : Event). Some m) e),
          ))
          (λ device t count due e. gone_now first ts turn (ap (λ (m : Event). is_mended (Some m)) e) hub up device t count due (ap (λ (m : Event). Some m) e))
  steps_known ts old new meant seen kept devices replies own (Steps.cut hub row next _ up does appends is) =
      down_known _ _ new old (ap (λ (w : World D). w.hub) is) (ap (λ (w : World D). w.links) is)
  steps_known ts old new meant seen kept devices replies own (Steps.failed hub row next _ up does appends is) =
      down_known _ _ new old (ap (λ (w : World D). w.hub) is) (ap (λ (w : World D). w.links) is)
  steps_known ts old new meant seen kept devices replies own (Steps.full hub row next len _ up does appends is) =
      down_known _ _ new old (ap (λ (w : World D). w.hub) is) (ap (λ (w : World D). w.links) is)
  steps_known ts old new meant seen kept devices replies own (Steps.anyway _ does) =
      anyway_known (record { before = old; meant = meant; seen = Some meant; behind = new }) meant new does refl
    where
      more : (turn : Turn D) → is_mended turn.seen ≡ false → ((t : ℕ) → is_admission t turn.seen ≡ false) → FaultsKnown (CameIn (ts ++ turn ∷ [])) (LostIn (ts ++ turn ∷ [])) old
      more turn none other = more_known (CameIn ts) (CameIn (ts ++ turn ∷ [])) (LostIn ts) (LostIn (ts ++ turn ∷ [])) old (more_cause first ts turn none)
          (λ h x worker e is. more_lost first ts turn worker.t (other worker.t)) own

      anyway_known : (turn : Turn D) (one : Event) (next : World D) → DoesAnyway old one next → turn.seen ≡ Some one → FaultsKnown (CameIn (ts ++ turn ∷ [])) (LostIn (ts ++ turn ∷ [])) next
      anyway_known turn one next (DoesAnyway.ticks seconds) seen' = let k = more turn (ap is_mended seen') (λ t. ap (is_admission t) seen') in record { unheard = k.unheard; under = k.under }
      anyway_known turn one next (DoesAnyway.restarts x) seen' = let k = more turn (ap is_mended seen') (λ t. ap (is_admission t) seen') in record { unheard = k.unheard; under = k.under }
      anyway_known turn one next (DoesAnyway.answers_down call front down) seen' = more turn (ap is_mended seen') (λ t. ap (is_admission t) seen')
  steps_known ts old new meant seen kept devices replies own (Steps.unopened _ down recover stays is) =
      let turn : Turn D = record { before = old; meant = meant; seen = None; behind = new } in
      let k = more_known (CameIn ts) (CameIn (ts ++ turn ∷ [])) (LostIn ts) (LostIn (ts ++ turn ∷ [])) old (more_cause first ts turn refl)
      (λ h x worker e is'. more_lost first ts turn worker.t refl) own in
      subst (λ (w : World D). FaultsKnown (CameIn (ts ++ turn ∷ [])) (LostIn (ts ++ turn ∷ [])) w) (sym is) (record { unheard = k.unheard; under = k.under })
  steps_known ts old new meant seen kept devices replies own (Steps.recovers _ down recover reopens is) =
      subst (λ (w : World D). FaultsKnown (CameIn (ts ++ turn ∷ [])) (LostIn (ts ++ turn ∷ [])) w) (sym is) (record {
        unheard = λ device op h. absurd (unheard_none device op h);
        under = λ hub up. subst (λ (h : Hub). UnderFaults (CameIn (ts ++ turn ∷ [])) (LostIn (ts ++ turn ∷ [])) h.duties h.stale old.links) (same_Some _ hub up) new_known;
      })
    where
      turn : Turn D
      turn = record { before = old; meant = meant; seen = Some meant; behind = new }

      unheard_none : (device : ℕ) (op : OpKind) → (old.links device).unheard ≡ Some (op, reply.Fault) → ⊥
      unheard_none device op h = let no : ◌≡◌ {A = Option (OpKind × Reply)} None (Some (op, reply.Fault)) = sym (devices.silent down device) ∙ h in cc

      none_works : (xs : List ℕ) (device : ℕ) (worker : Worker) → duty_on (map (λ d. duty.Free) xs) device ≡ duty.Works worker → ⊥
      none_works [] device worker h = cc
      none_works (x ∷ xs) zero worker h = cc
      none_works (x ∷ xs) (suc device) worker h = none_works xs device worker h

      recovered : (xs : List ℕ) (device : ℕ) (cause : Why) → slice_get (map (λ d. Some why.Recovered) xs) device ≡ Some (Some cause) → why.Recovered ≡ cause
      recovered [] device cause h = absurd cc
      recovered (x ∷ xs) zero cause h = same_Some why.Recovered cause (same_Some (Some why.Recovered) (Some cause) h)
      recovered (x ∷ xs) (suc device) cause h = recovered xs device cause h

      none_mended : is_mended (Some meant) ≡ false
      none_mended = ap (λ (m : Event). is_mended (Some m)) recover

      now : (device : ℕ) → IsStaleBecause first (ts ++ turn ∷ []) device why.Recovered
      now device = inl (turn, subst (λ (l : List (Turn D)). Contains l turn) (sym (mended_push first ts turn none_mended)) (Contains-push (since_mended ts) turn), ap (λ (m : Event). Some m) recover)

      new_known : UnderFaults (CameIn (ts ++ turn ∷ [])) (LostIn (ts ++ turn ∷ [])) (map (λ d. duty.Free) (declared here.decls)) (map (λ d. Some why.Recovered) (declared here.decls)) old.links
      new_known = record {
        lost = λ device worker count h. absurd (none_works (declared here.decls) device worker h);
        stale_so = λ device cause h. subst (IsStaleBecause first (ts ++ turn ∷ []) device) (recovered (declared here.decls) device cause h) (now device);
        loses = λ device op worker h is'. absurd (none_works (declared here.decls) device worker is');
        is_gone = λ device op r worker h is' g. absurd (none_works (declared here.decls) device worker is');
      }

  turn_known : (ts : List (Turn D)) (turn : Turn D) → FaultsSoFar ts turn.before → Comes here turn → FaultsSoFar (ts ++ turn ∷ []) turn.behind
  turn_known ts turn own comes = record {
    history = steps_keep here are plans legally order turn.before turn.behind turn.meant turn.seen own.history comes;
    devices = steps_devices here are plans kinds lawful planning turn.before turn.behind turn.meant turn.seen own.history own.devices comes;
    replies = replies_steps turn.before turn.behind turn.meant turn.seen own.history own.devices own.replies comes;
    known = steps_known ts turn.before turn.behind turn.meant turn.seen own.history own.devices own.replies own.known comes;
    knew = λ earlier later other parts. before earlier later other (split_push ts turn earlier other later parts);
  }
    where
      before : (earlier later : List (Turn D)) (other : Turn D) → SplitPush ts turn earlier other → FaultsKnown (CameIn earlier) (LostIn earlier) other.before
      before earlier later other (SplitPush.before_last later' parts) = own.knew earlier later' other parts
      before earlier later other (SplitPush.at_last front same) =
          subst (λ (l : List (Turn D)). FaultsKnown (CameIn l) (LostIn l) other.before) (sym front) (subst (λ (t : Turn D). FaultsKnown (CameIn ts) (LostIn ts) t.before) (sym same) own.known)

  set_known : (ts : List (Turn D)) (at : ScriptStep) (world : World D) → FaultsSoFar ts world → FaultsSoFar ts (set_by at world)
  set_known ts at world own = record {
    history = set_kept here at world own.history;
    devices = set_devices here at world own.devices;
    replies = set_replies here at world own.replies;
    known = set_faults here (CameIn ts) (LostIn ts) at world own.known;
    knew = own.knew;
  }

  pub known_before : (script : List ScriptStep) (last : World D) (run : Run here script first last) → HistoryKept here first → DevicesKept here.decls first → RepliesKept here first
      → FaultsKnown (CameIn []) (LostIn []) first → AllKnown (turns_of run)
  known_before script last run history devices replies known =
      (run_forward here FaultsSoFar turn_known set_known script first last run
      (record { history = history; devices = devices; replies = replies; known = known; knew = λ earlier later turn parts. absurd (nil_none earlier turn later parts) })).knew
