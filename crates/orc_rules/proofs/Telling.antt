-- A decision is told: what each device does for the transaction goes on, and what others do stays.
use Rattle.std.proofs.Common.{◌≡◌, ℕ, Bool, true, false, cond, ◌&&◌, ◌||◌, nat_eq, List, [], ◌∷◌, ◌++◌, Option, Some, None, map, refl, sym, ap, subst, ◌∙◌, append-nil, append_assoc, eq-eqb, eqb-true, zero, suc, arith}
use Rattle.std.specs.Prelude.{slice_get}
use Rattle.std.specs.List.{find, list_any}
use Rattle.std.specs.Option.{option_map, option_or}
use Rattle.std.proofs.lemmas.Bool.{false≢true}
use Rattle.std.proofs.lemmas.Option.{same_Some}
use Rattle.std.proofs.lemmas.List.Elements.{All-head, All-tail}
use Rattle.orc_path.specs.Configurations.{Config}
use Rattle.orc_call.specs.declared.answer.Answer.{Answer}
use Rattle.orc_call.specs.declared.answer.Answer.TheVariants as answer
use Rattle.orc_call.specs.declared.answer.Why.{Why}
use Rattle.orc_call.specs.declared.call.Call.{Call}
use Rattle.orc_decls.specs.declared.declarations.Decls.{Decls}
use Rattle.orc_device.specs.Nodes.{NodeState}
use Rattle.orc_device.specs.declared.kind.OpKind.{OpKind}
use Rattle.orc_device.specs.declared.reply.Reply.{Reply}
use Rattle.orc_journal.specs.Entries.{number_of}
use Rattle.orc_journal.specs.Laws.{IsUnnamed}
use Rattle.orc_journal.specs.declared.entry.Entry.{Entry}
use Rattle.orc_journal.specs.declared.entry.Entry.TheVariants as entry
use Rattle.orc_worker.specs.Workers.{is_due, is_waiting, work_stage_after, told_stage, worker_told}
use Rattle.orc_worker.specs.declared.report.Outcome.{Outcome}
use Rattle.orc_worker.specs.declared.report.Outcome.TheVariants as outcome
use Rattle.orc_worker.specs.declared.stage.Stage.{Stage}
use Rattle.orc_worker.specs.declared.stage.Stage.TheVariants as stage
use Rattle.orc_worker.specs.declared.worker.Worker.{Worker}
use Rattle.orc_tree.specs.Sameness.{equal_configs}
use Rattle.orc_recover.specs.Menders.{MenderState, mender_took}
use Rattle.orc_rules.specs.Cells.{DeviceRole, aborted_role, decided_role, updated_at}
use Rattle.orc_rules.specs.Cells.DeviceRole.{Free, Works, Mends}
use Rattle.orc_rules.specs.Courses.{agrees, stands_undecided, is_hindered}
use Rattle.orc_rules.specs.Duties.{duty_told, is_busy, is_over, outcome_on}
use Rattle.orc_rules.specs.Hubs.{Hub, duty_on}
use Rattle.orc_rules.specs.Kept.{Shadow, active_under, heard as then_heard, is_stale, mend_at, mends_at, plan_of, role_of, stale_then, works_at}
use Rattle.orc_rules.specs.Network.{Network, Noted, intent_seen, seen_plan}
use Rattle.orc_rules.specs.Told.{Told, told_by, told_from, told_with}
use Rattle.orc_rules.specs.Transactions.{in_phase, is_lost, is_preparing}
use Rattle.orc_rules.specs.Verdicts.{first_answer, is_short, lost_answer, refused_by, verdict}
use Rattle.orc_rules.specs.Works.{Intent, Mend}
use Rattle.orc_rules.specs.Worlds.{Link, over}
use Rattle.orc_rules.specs.declared.duty.Duty.{Duty}
use Rattle.orc_rules.specs.declared.duty.Duty.TheVariants as duty
use Rattle.orc_rules.specs.declared.transaction.Phase.{Phase}
use Rattle.orc_rules.specs.declared.transaction.Transaction.{Transaction}
use Rattle.orc_rules.proofs.Reporting.{is_of}
use Rattle.orc_rules.proofs.Slots.{none_so, told_busy}

-- what one entry more says

told_from_push : (before entries : List Entry) (told : Told) (e : Entry)
    → told_from before told (entries ++ e ∷ []) ≡ told_with (before ++ entries) (told_from before told entries) e
told_from_push before [] told e = ap (λ (l : List Entry). told_with l told e) (sym (append-nil before))
told_from_push before (x ∷ entries) told e =
    told_from_push (before ++ x ∷ []) entries (told_with before told x) e
    ∙ ap (λ (l : List Entry). told_with l (told_from (before ++ x ∷ []) (told_with before told x) entries) e) (append_assoc before (x ∷ []) entries)

pub told_push : (entries : List Entry) (e : Entry) → told_by (entries ++ e ∷ []) ≡ told_with entries (told_by entries) e
told_push entries e = told_from_push [] entries (record { history = []; place = λ t. None; intents = λ t. None }) e

given_apart : {A : Type 0} (f : ℕ → A) (u : ℕ) (a : A) (t : ℕ) → (u ≡ t → ⊥) → updated_at f u a t ≡ f t
given_apart {A = A} f u a t apart = on (nat_eq u t) refl
  where
    on : (b : Bool) → nat_eq u t ≡ b → cond b a (f t) ≡ f t
    on true e = absurd (apart (eqb-true u t e))
    on false e = refl

-- one that no entry names has no intent, and no place
unnamed_from : (t : ℕ) (before entries : List Entry) (told : Told) → IsUnnamed entries t → (told.intents t ≡ None) × (told.place t ≡ None)
    → ((told_from before told entries).intents t ≡ None) × ((told_from before told entries).place t ≡ None)
unnamed_from t before [] told none own = own
unnamed_from t before (x ∷ entries) told none own =
    unnamed_from t (before ++ x ∷ []) entries (told_with before told x) (All-tail (λ e. number_of e ≡ t → ⊥) x entries none)
    (one x (All-head (λ e. number_of e ≡ t → ⊥) x entries none))
  where
    one : (e : Entry) → (number_of e ≡ t → ⊥) → ((told_with before told e).intents t ≡ None) × ((told_with before told e).place t ≡ None)
    one (entry.Intent u call devices) other = (given_apart told.intents u _ t other ∙ own.0, own.1)
    one (entry.Decide u) other = (own.0, given_apart told.place u _ t other ∙ own.1)
    one (entry.Abort u) other = own
    one (entry.Settled u) other = (given_apart told.intents u None t other ∙ own.0, own.1)

pub unnamed_told : (t : ℕ) (entries : List Entry) → IsUnnamed entries t → ((told_by entries).intents t ≡ None) × ((told_by entries).place t ≡ None)
unnamed_told t entries none = unnamed_from t [] entries (record { history = []; place = λ t. None; intents = λ t. None }) none (refl, refl)

-- the network as entries report it, with the hub's part of it

abbrev pub net_at : Decls → (ℕ → Shadow) → Told → Hub → (ℕ → NodeState) → (ℕ → Link) → Network Call
net_at decls shadow told hub nodes links = record {
  history = told.history;
  place = told.place;
  intents = told.intents;
  active = active_under (Some hub);
  locals = λ device. record {
    node = nodes device;
    session = (links device).session;
    clear = (shadow device).clear;
    role = role_of (over decls device) told device (then_heard (links device).unheard (links device).faults (duty_on hub.duties device));
    stale = is_stale (option_map (stale_then (links device).unheard (links device).faults (duty_on hub.duties device)) (slice_get hub.stale device));
    at = (shadow device).at;
  };
}

-- of those active under a number

find_none : (t : ℕ) (to : Phase) → is_preparing to ≡ false → (xs : List Transaction) → find (is_of t) (map (in_phase t to) xs) ≡ None
find_none t to other [] = refl
find_none t to other (x ∷ xs) =
    ap (λ (b : Bool). cond b (Some (in_phase t to x)) (find (is_of t) (map (in_phase t to) xs))) (on (nat_eq x.t t) refl) ∙ find_none t to other xs
  where
    on : (b : Bool) → nat_eq x.t t ≡ b → is_of t (in_phase t to x) ≡ false
    on true e =
        ap (λ (b : Bool). is_of t (cond b (record x { phase = to }) x)) e
        ∙ ap (λ (b : Bool). nat_eq x.t t && b) other ∙ and_none (nat_eq x.t t)
      where
        and_none : (b : Bool) → (b && false) ≡ false
        and_none true = refl
        and_none false = refl
    on false e =
        ap (λ (b : Bool). is_of t (cond b (record x { phase = to }) x)) e ∙ ap (λ (b : Bool). b && is_preparing x.phase) e

find_other : (t u : ℕ) (to : Phase) → nat_eq t u ≡ false → (xs : List Transaction)
    → option_map plan_of (find (is_of u) (map (in_phase t to) xs)) ≡ option_map plan_of (find (is_of u) xs)
find_other t u to apart [] = refl
find_other t u to apart (x ∷ xs) = on (nat_eq x.t t) refl (find_other t u to apart xs)
  where
    same : (b : Bool) → option_map plan_of (find (is_of u) (map (in_phase t to) xs)) ≡ option_map plan_of (find (is_of u) xs)
        → option_map plan_of (cond b (Some x) (find (is_of u) (map (in_phase t to) xs))) ≡ option_map plan_of (cond b (Some x) (find (is_of u) xs))
    same true rest = refl
    same false rest = rest

    on : (b : Bool) → nat_eq x.t t ≡ b → option_map plan_of (find (is_of u) (map (in_phase t to) xs)) ≡ option_map plan_of (find (is_of u) xs)
        → option_map plan_of (cond (is_of u (in_phase t to x)) (Some (in_phase t to x)) (find (is_of u) (map (in_phase t to) xs)))
        ≡ option_map plan_of (cond (is_of u x) (Some x) (find (is_of u) xs))
    on true e rest =
        let not_u : nat_eq x.t u ≡ false = ap (λ (n : ℕ). nat_eq n u) (eqb-true x.t t e) ∙ apart in
        ap (λ (y : Transaction). option_map plan_of (cond (is_of u y) (Some y) (find (is_of u) (map (in_phase t to) xs))))
        (ap (λ (b : Bool). cond b (record x { phase = to }) x) e)
        ∙ ap (λ (b : Bool). option_map plan_of (cond (b && is_preparing to) (Some (record x { phase = to })) (find (is_of u) (map (in_phase t to) xs)))) not_u
        ∙ rest
        ∙ sym (ap (λ (b : Bool). option_map plan_of (cond (b && is_preparing x.phase) (Some x) (find (is_of u) xs))) not_u)
    on false e rest =
        ap (λ (y : Transaction). option_map plan_of (cond (is_of u y) (Some y) (find (is_of u) (map (in_phase t to) xs))))
        (ap (λ (b : Bool). cond b (record x { phase = to }) x) e)
        ∙ same (is_of u x) rest

-- of those in another phase, none has this number any more
pub find_told : (t : ℕ) (to : Phase) → is_preparing to ≡ false → (xs : List Transaction) (u : ℕ)
    → updated_at (λ v. option_map plan_of (find (is_of v) xs)) t None u ≡ option_map plan_of (find (is_of u) (map (in_phase t to) xs))
find_told t to other xs u = on (nat_eq t u) refl
  where
    on : (b : Bool) → nat_eq t u ≡ b → cond b None (option_map plan_of (find (is_of u) xs)) ≡ option_map plan_of (find (is_of u) (map (in_phase t to) xs))
    on true e = sym (ap (λ (v : ℕ). option_map plan_of (find (is_of v) (map (in_phase t to) xs))) (sym (eqb-true t u e)) ∙ ap (option_map plan_of) (find_none t to other xs))
    on false e = sym (find_other t u to e xs)

-- the one that is there is found
pub find_there : (xs : List Transaction) (place : ℕ) (it : Transaction) → slice_get xs place ≡ Some it → is_preparing it.phase ≡ true
    → ((place' : ℕ) (other : Transaction) → slice_get xs place' ≡ Some other → other.t ≡ it.t → place' ≡ place) → find (is_of it.t) xs ≡ Some it
find_there [] place it there h alone = absurd (let no : ◌≡◌ {A = Option Transaction} None (Some it) = there in cc)
find_there (x ∷ xs) zero it there h alone =
    let same : x ≡ it = same_Some x it there in
    ap (λ (b : Bool). cond b (Some x) (find (is_of it.t) xs))
    (ap (λ (y : Transaction). nat_eq y.t it.t && is_preparing y.phase) same ∙ ap (λ (b : Bool). b && is_preparing it.phase) (eq-eqb it.t it.t refl) ∙ h)
    ∙ ap Some same
find_there (x ∷ xs) (suc place) it there h alone =
    on (nat_eq x.t it.t) refl
    (find_there xs place it there h (λ place' other there' same. let up : suc place' ≡ suc place = alone (suc place') other there' same in omega arith))
  where
    on : (b : Bool) → nat_eq x.t it.t ≡ b → find (is_of it.t) xs ≡ Some it → cond (is_of it.t x) (Some x) (find (is_of it.t) xs) ≡ Some it
    on true e rest = absurd (let no_place : zero ≡ suc place = alone zero x refl (eqb-true x.t it.t e) in omega arith)
    on false e rest = ap (λ (b : Bool). cond (b && is_preparing x.phase) (Some x) (find (is_of it.t) xs)) e ∙ rest

-- what is done on one device ---------------------------------------------------------------------------------------------

pub seen_number : (over : List Call → Config) (device t : ℕ) (n : Option (Noted Call)) (o : Intent Call) → intent_seen over device t n ≡ Some o → o.t ≡ t
seen_number over device t None o e = cc
seen_number over device t (Some b) o e = by (b.plan.names device) e
  where
    by : (n : Bool) → seen_plan over t b n ≡ Some o → o.t ≡ t
    by true e' = let same : record { t = t; call = b.plan.call; before = over b.base; due = over (b.base ++ b.plan.call ∷ []) } ≡ o = cc in ap (λ (q : Intent Call). q.t) (sym same)
    by false e' = cc

pub flip : (a b : ℕ) (c : Bool) → nat_eq a b ≡ c → nat_eq b a ≡ c
flip a b true e = eq-eqb b a (sym (eqb-true a b e))
flip a b false e = on (nat_eq b a) refl
  where
    on : (c : Bool) → nat_eq b a ≡ c → nat_eq b a ≡ false
    on true h = absurd (false≢true (sym e ∙ eq-eqb a b (sym (eqb-true b a h))))
    on false h = h

abbrev pub Shown : Intent Call → Stage → DeviceRole Call
Shown o st = cond (is_over st) Free (Works o st)

-- a role is moved by a decision as the worker is told, where it waits for that, and else it stays

decides_other : (t : ℕ) (o : Intent Call) (st : Stage) → nat_eq t o.t ≡ false → decided_role t (Shown o st) ≡ Shown o st
decides_other t o stage.Prepared apart = ap (λ (b : Bool). cond b (Works o stage.Confirming) (Works o stage.Prepared)) apart
decides_other t o st apart = refl

aborts_other : (t : ℕ) (o : Intent Call) (st : Stage) → nat_eq t o.t ≡ false → aborted_role t (Shown o st) ≡ Shown o st
aborts_other t o stage.Prepared apart = ap (λ (b : Bool). cond b (Works o stage.Cancelling) (Works o stage.Prepared)) apart
aborts_other t o stage.Lost apart = ap (λ (b : Bool). cond b (Works o stage.Reopening) (Works o stage.Lost)) apart
aborts_other t o st apart = refl

-- where a worker of the transaction may stand as the decision is told
pub data AtDecision (commit : Bool) : Stage → Type 0 where
  prepared : AtDecision commit stage.Prepared
  lost : commit ≡ false → AtDecision commit stage.Lost
  refusing : AtDecision commit stage.Refusing
  ended : AtDecision commit stage.Over

abbrev pub HeardStage : Option (OpKind × Reply) → Stage → Stage
HeardStage None st = st
HeardStage (Some one) st = work_stage_after st one.1

-- this moves a role as the decision does
pub record MovesRole (t : ℕ) (commit : Bool) (move : DeviceRole Call → DeviceRole Call) : Type 0 where
  pub free : move Free ≡ Free
  pub mends : (m : Mend) → move (Mends m) ≡ Mends m
  pub other : (o : Intent Call) (st : Stage) → nat_eq t o.t ≡ false → move (Shown o st) ≡ Shown o st
  pub prepared : (o : Intent Call) → nat_eq t o.t ≡ true → move (Works o stage.Prepared) ≡ Shown o (told_stage stage.Prepared commit)
  pub lost : (o : Intent Call) → nat_eq t o.t ≡ true → commit ≡ false → move (Works o stage.Lost) ≡ Shown o (told_stage stage.Lost commit)
  pub refusing : (o : Intent Call) → move (Works o stage.Refusing) ≡ Works o stage.Refusing

pub decided_moves : (t : ℕ) → MovesRole t true (λ r. decided_role t r)
decided_moves t = record {
  free = refl;
  mends = λ m. refl;
  other = λ o st apart. decides_other t o st apart;
  prepared = λ o mine. ap (λ (b : Bool). cond b (Works o stage.Confirming) (Works o stage.Prepared)) mine;
  lost = λ o mine given_up. absurd (false≢true (sym given_up));
  refusing = λ o. refl;
}

pub aborted_moves : (t : ℕ) → MovesRole t false (λ r. aborted_role t r)
aborted_moves t = record {
  free = refl;
  mends = λ m. refl;
  other = λ o st apart. aborts_other t o st apart;
  prepared = λ o mine. ap (λ (b : Bool). cond b (Works o stage.Cancelling) (Works o stage.Prepared)) mine;
  lost = λ o mine given_up. ap (λ (b : Bool). cond b (Works o stage.Reopening) (Works o stage.Lost)) mine;
  refusing = λ o. refl;
}

module _ (decls : Decls) (now : Told) (t : ℕ) (commit : Bool) (move : DeviceRole Call → DeviceRole Call) (moves : MovesRole t commit move) (device : ℕ) where
  abbrev R : Duty → DeviceRole Call
  R on = role_of (over decls device) now device on

  mine : (s : Option (Intent Call)) → ((o : Intent Call) → s ≡ Some o → nat_eq t o.t ≡ true) → (u : Option (OpKind × Reply)) (st : Stage) → AtDecision commit st
      → ((one : OpKind × Reply) → u ≡ Some one → is_due st ≡ true)
      → move (works_at s (HeardStage u st)) ≡ works_at s (HeardStage u (cond (is_waiting st) (told_stage st commit) st))
  mine None own u st at due = moves.free
  mine (Some o) own None st AtDecision.prepared due = moves.prepared o (own o refl)
  mine (Some o) own None st (AtDecision.lost given_up) due = moves.lost o (own o refl) given_up
  mine (Some o) own None st AtDecision.refusing due = moves.refusing o
  mine (Some o) own None st AtDecision.ended due = moves.free
  mine (Some o) own (Some one) st AtDecision.prepared due = absurd (false≢true (due one refl))
  mine (Some o) own (Some one) st (AtDecision.lost given_up) due = absurd (false≢true (due one refl))
  mine (Some o) own (Some one) st AtDecision.refusing due = moves.free
  mine (Some o) own (Some one) st AtDecision.ended due = absurd (false≢true (due one refl))

  others : (s : Option (Intent Call)) → ((o : Intent Call) → s ≡ Some o → nat_eq t o.t ≡ false) → (st : Stage) → move (works_at s st) ≡ works_at s st
  others None own st = moves.free
  others (Some o) own st = moves.other o st (own o refl)

  mends_stay : (m : Option Mend) → move (mends_at m) ≡ mends_at m
  mends_stay None = moves.free
  mends_stay (Some m) = moves.mends m

  pub role_told : (u : Option (OpKind × Reply)) (f : ℕ) (on : Duty) → ((one : OpKind × Reply) → u ≡ Some one → is_busy on ≡ true)
      → ((worker : Worker) → on ≡ duty.Works worker → worker.t ≡ t → AtDecision commit worker.stage)
      → move (R (then_heard u f on)) ≡ R (then_heard u f (duty_told t commit on))
  role_told None f duty.Free due ready = moves.free
  role_told (Some one) f duty.Free due ready = moves.free
  role_told None f (duty.Mends mender) due ready = mends_stay (mend_at (map (λ one. one.0) mender.left) mender.stage)
  role_told (Some one) f (duty.Mends mender) due ready =
      let m : MenderState = mender_took equal_configs mender one.1 in mends_stay (mend_at (map (λ one. one.0) m.left) m.stage)
  role_told u f (duty.Works worker) due ready = on (nat_eq worker.t t) refl
    where
      s : Option (Intent Call)
      s = intent_seen (over decls device) device worker.t (now.intents worker.t)

      number : (o : Intent Call) → s ≡ Some o → o.t ≡ worker.t
      number o e = seen_number (over decls device) device worker.t (now.intents worker.t) o e

      at : (v : Option (OpKind × Reply)) (w : Worker) → w.t ≡ worker.t → R (then_heard v f (duty.Works w)) ≡ works_at s (HeardStage v w.stage)
      at None w e = ap (λ (n : ℕ). works_at (intent_seen (over decls device) device n (now.intents n)) w.stage) e
      at (Some one) w e = ap (λ (n : ℕ). works_at (intent_seen (over decls device) device n (now.intents n)) (work_stage_after w.stage one.1)) e

      at_told : (b : Bool) → R (then_heard u f (cond b (duty.Works (worker_told worker commit)) (duty.Works worker))) ≡ works_at s (HeardStage u (cond b (told_stage worker.stage commit) worker.stage))
      at_told true = at u (worker_told worker commit) refl
      at_told false = at u worker refl

      on : (b : Bool) → nat_eq worker.t t ≡ b → move (R (then_heard u f (duty.Works worker)))
          ≡ R (then_heard u f (cond (b && is_waiting worker.stage) (duty.Works (worker_told worker commit)) (duty.Works worker)))
      on true e =
          let own : (o : Intent Call) → s ≡ Some o → nat_eq t o.t ≡ true = λ o is. eq-eqb t o.t (sym (number o is ∙ eqb-true worker.t t e)) in
          ap move (at u worker refl) ∙ mine s own u worker.stage (ready worker refl (eqb-true worker.t t e)) due ∙ sym (at_told (is_waiting worker.stage))
      on false e =
          let own : (o : Intent Call) → s ≡ Some o → nat_eq t o.t ≡ false = λ o is. ap (nat_eq t) (number o is) ∙ flip worker.t t false e in
          ap move (at u worker refl) ∙ others s own (HeardStage u worker.stage) ∙ sym (at u worker refl)

  pub stale_told : (u : Option (OpKind × Reply)) (f : ℕ) (on : Duty) (slot : Option (Option Why)) → ((one : OpKind × Reply) → u ≡ Some one → is_busy on ≡ true)
      → is_stale (option_map (stale_then u f on) slot) ≡ is_stale (option_map (stale_then u f (duty_told t commit on)) slot)
  stale_told None f on None due = refl
  stale_told None f on (Some b) due = refl
  stale_told (Some one) f on slot due = ap (λ (d : Duty). is_stale (option_map (stale_then (Some one) f d) slot)) (sym (told_busy t commit on (due one refl)))

-- where workers stand as a decision is due --------------------------------------------------------------------------------

lost_verdict : (device : ℕ) (o : Option Outcome) → lost_answer device o ≡ None → is_lost o ≡ false
lost_verdict device None e = refl
lost_verdict device (Some outcome.Prepared) e = refl
lost_verdict device (Some (outcome.Refused tag)) e = refl
lost_verdict device (Some (outcome.Lost count)) e = cc
lost_verdict device (Some outcome.Short) e = refl
lost_verdict device (Some outcome.Confirmed) e = refl
lost_verdict device (Some outcome.Gone) e = refl
lost_verdict device (Some outcome.Cancelled) e = refl

hindered_verdict : (device : ℕ) (o : Option Outcome) → refused_by device o ≡ None → is_short o ≡ false → is_hindered o ≡ false
hindered_verdict device None e h = refl
hindered_verdict device (Some outcome.Prepared) e h = refl
hindered_verdict device (Some (outcome.Refused tag)) e h = cc
hindered_verdict device (Some (outcome.Lost count)) e h = refl
hindered_verdict device (Some outcome.Short) e h = absurd (false≢true (sym h))
hindered_verdict device (Some outcome.Confirmed) e h = refl
hindered_verdict device (Some outcome.Gone) e h = refl
hindered_verdict device (Some outcome.Cancelled) e h = refl

or_none : (a b : Option Answer) → option_or a b ≡ None → (a ≡ None) × (b ≡ None)
or_none None b e = (refl, e)
or_none (Some x) b e = cc

first_none : (by : ℕ → Option Outcome → Option Answer) (duties : List Duty) (t : ℕ) (devices : List ℕ) (device : ℕ) → first_answer by duties t devices ≡ None
    → list_any (nat_eq device) devices ≡ true → by device (outcome_on duties t device) ≡ None
first_none by duties t [] device none among = absurd (false≢true among)
first_none by duties t (x ∷ xs) device none among =
    on (nat_eq device x) refl among (or_none (by x (outcome_on duties t x)) (first_answer by duties t xs) none) (λ a h. first_none by duties t xs device a h)
  where
    on : (b : Bool) → nat_eq device x ≡ b → (b || list_any (nat_eq device) xs) ≡ true
        → (by x (outcome_on duties t x) ≡ None) × (first_answer by duties t xs ≡ None)
        → (first_answer by duties t xs ≡ None → list_any (nat_eq device) xs ≡ true → by device (outcome_on duties t device) ≡ None)
        → by device (outcome_on duties t device) ≡ None
    on true e h so rest = subst (λ (y : ℕ). by y (outcome_on duties t y) ≡ None) (sym (eqb-true device x e)) so.0
    on false e h so rest = rest so.1 h

-- nothing speaks against a device's part: it is prepared
pub record IsGood (o : Option Outcome) : Type 0 where
  pub hindered : is_hindered o ≡ false
  pub lost : is_lost o ≡ false

pub verdict_none : (duties : List Duty) (t : ℕ) (devices : List ℕ) (device : ℕ) → verdict duties t devices ≡ None → list_any (nat_eq device) devices ≡ true
    → IsGood (outcome_on duties t device)
verdict_none duties t devices device none among = on (list_any (λ d. is_short (outcome_on duties t d)) devices) refl none
  where
    on : (b : Bool) → list_any (λ d. is_short (outcome_on duties t d)) devices ≡ b
        → cond b (Some answer.Memory) (option_or (first_answer refused_by duties t devices) (first_answer lost_answer duties t devices)) ≡ None
        → IsGood (outcome_on duties t device)
    on true e silent = cc
    on false e silent =
        let so = or_none (first_answer refused_by duties t devices) (first_answer lost_answer duties t devices) silent in
        record {
          hindered = hindered_verdict device (outcome_on duties t device) (first_none refused_by duties t devices device so.0 among)
              (none_so (λ d. is_short (outcome_on duties t d)) devices device e among);
          lost = lost_verdict device (outcome_on duties t device) (first_none lost_answer duties t devices device so.1 among);
        }

pub heard_at : (st : Stage) (o : Outcome) → agrees st (Some o) ≡ true → stands_undecided st (Some o) ≡ true → AtDecision false st
heard_at stage.Opening o a b = absurd (false≢true a)
heard_at stage.LockingRunning o a b = absurd (false≢true a)
heard_at stage.LockingCandidate o a b = absurd (false≢true a)
heard_at stage.Editing o a b = absurd (false≢true a)
heard_at stage.Validating o a b = absurd (false≢true a)
heard_at stage.Committing o a b = absurd (false≢true a)
heard_at stage.Refusing o a b = AtDecision.refusing
heard_at stage.Prepared o a b = AtDecision.prepared
heard_at stage.Lost o a b = AtDecision.lost refl
heard_at stage.Confirming o a b = absurd (false≢true b)
heard_at stage.Cancelling o a b = absurd (false≢true b)
heard_at stage.Reopening o a b = absurd (false≢true b)
heard_at stage.Recancelling o a b = absurd (false≢true b)
heard_at stage.UnlockingCandidate o a b = absurd (false≢true b)
heard_at stage.UnlockingRunning o a b = absurd (false≢true b)
heard_at stage.Closing o a b = absurd (false≢true b)
heard_at stage.Over o a b = AtDecision.ended

pub prepared_at : (st : Stage) (o : Outcome) → agrees st (Some o) ≡ true → stands_undecided st (Some o) ≡ true → IsGood (Some o) → st ≡ stage.Prepared
prepared_at stage.Opening o a b good = absurd (false≢true a)
prepared_at stage.LockingRunning o a b good = absurd (false≢true a)
prepared_at stage.LockingCandidate o a b good = absurd (false≢true a)
prepared_at stage.Editing o a b good = absurd (false≢true a)
prepared_at stage.Validating o a b good = absurd (false≢true a)
prepared_at stage.Committing o a b good = absurd (false≢true a)
prepared_at stage.Refusing o a b good = absurd (false≢true (sym good.hindered ∙ a))
prepared_at stage.Prepared o a b good = refl
prepared_at stage.Lost o a b good = absurd (false≢true (sym good.lost ∙ a))
prepared_at stage.Confirming o a b good = absurd (false≢true b)
prepared_at stage.Cancelling o a b good = absurd (false≢true b)
prepared_at stage.Reopening o a b good = absurd (false≢true b)
prepared_at stage.Recancelling o a b good = absurd (false≢true b)
prepared_at stage.UnlockingCandidate o a b good = absurd (false≢true b)
prepared_at stage.UnlockingRunning o a b good = absurd (false≢true b)
prepared_at stage.Closing o a b good = absurd (false≢true b)
prepared_at stage.Over o a b good = absurd (false≢true (sym good.hindered ∙ b))
