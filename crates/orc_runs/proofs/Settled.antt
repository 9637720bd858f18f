-- After a `settle` no call is open.
use Rattle.std.proofs.Common.{[], eqb-true, ltb-true, ltb-false, lt-ltb, ◌≡◌, ◌⊎◌, inl, inr, ⊎_elim, ℕ, ◌+◌, ◌<◌, ◌≤◌, Bool, true, false, cond, ◌&&◌, ◌||◌, nat_eq, nat_lt, min, Option, Some, None, List, ◌∷◌, All, Contains, map, length, get_or, is_some, refl, sym, ap, subst, ◌∙◌, arith, eq-eqb, zero, suc}
use Rattle.std.specs.Prelude.{slice_get}
use Rattle.std.specs.List.{fold, list_all, list_any}
use Rattle.std.specs.Option.{option_map_or}
use Rattle.std.proofs.lemmas.Bool.{false≢true}
use Rattle.std.proofs.lemmas.List.Elements.{All-head, All-nil, All-tail}
use Rattle.std.proofs.lemmas.Option.{same_Some, slice_get-get_or}
use Rattle.orc_call.specs.declared.answer.Answer.TheVariants as answer
use Rattle.orc_call.specs.declared.answer.RecFault.{RecFault}
use Rattle.orc_call.specs.declared.call.Call.{Call}
use Rattle.orc_decls.specs.Declarations.{AreDecls}
use Rattle.orc_device.specs.Links.{Way as way, Possible, is_stranded, way_reply}
use Rattle.orc_device.specs.Listings.{kind_of_op, listed_when}
use Rattle.orc_device.specs.Nodes.{DeviceKind, NodeState, op_refusal}
use Rattle.orc_device.specs.Operations.{mark_of}
use Rattle.orc_device.specs.declared.kind.OpKind.{OpKind}
use Rattle.orc_device.specs.declared.kind.When.{When}
use Rattle.orc_device.specs.declared.kind.When.TheVariants as when
use Rattle.orc_device.specs.declared.op.Op.{Op}
use Rattle.orc_device.specs.declared.reply.Reply.{Reply}
use Rattle.orc_call.specs.declared.answer.Tag.{Tag}
use Rattle.orc_journal.specs.Laws.{KeepsOrder}
use Rattle.orc_journal.specs.declared.entry.Entry.{Entry}
use Rattle.orc_node.specs.LinkStates.{listed_way}
use Rattle.orc_plans.specs.Plans.{LegalStands, PlanStands}
use Rattle.orc_queue.specs.Fitting.{FitTogether}
use Rattle.orc_queue.specs.declared.held.Held.{Held}
use Rattle.orc_recover.specs.Menders.{MenderState}
use Rattle.orc_tree.specs.declared.change.ChangeSet.{ChangeSet}
use Rattle.orc_worker.specs.Workers.{has_outcome, is_due, new_worker, order_at}
use Rattle.orc_worker.specs.declared.report.Outcome.{Outcome}
use Rattle.orc_worker.specs.declared.stage.Stage.{Stage}
use Rattle.orc_worker.specs.declared.stage.Stage.TheVariants as stage
use Rattle.orc_worker.specs.declared.worker.Worker.{Worker}
use Rattle.orc_rules.specs.Admissions.{started}
use Rattle.orc_rules.specs.Asked.{KeepsAnswer}
use Rattle.orc_rules.specs.Courses.{agrees}
use Rattle.orc_rules.specs.Due.{due_with, is_decision_due, least_due}
use Rattle.orc_rules.specs.Due.{is_entry_due, lesser_number}
use Rattle.orc_rules.specs.Duties.{duty_order, duty_outcome, is_over, is_over_for, is_over_on, outcome_on}
use Rattle.orc_rules.specs.Events.{DoesAnyway, DoesUnderHub, Steps, mender_freed, way_due}
use Rattle.orc_rules.specs.Hubs.{Hub, answered, duty_on, has_met_failure, hub_reported, hub_told}
use Rattle.orc_rules.specs.Invariant.{IsLawful}
use Rattle.orc_rules.specs.Journals.{entries_read, history_read}
use Rattle.orc_rules.specs.Kept.{FitAt, HistoryKept, StandsAt, ValidAt}
use Rattle.orc_rules.specs.Network.{Planning}
use Rattle.orc_rules.specs.Transactions.{is_preparing, is_settling, is_told, nothing_held}
use Rattle.orc_rules.specs.UnderHub.{AreMending, Attends, DevicesKept, IsOfHub, MendingKept, is_under_way}
use Rattle.orc_rules.specs.Verdicts.{are_heard}
use Rattle.orc_rules.specs.Worlds.{IsIdle, Setting, World, declared, is_over as is_left, over}
use Rattle.orc_rules.specs.declared.asked.Asked.{Asked}
use Rattle.orc_rules.specs.declared.duty.Duty.{Duty}
use Rattle.orc_rules.specs.declared.duty.Duty.TheVariants as duty
use Rattle.orc_rules.specs.declared.event.Event.{Event}
use Rattle.orc_rules.specs.declared.event.Event.TheVariants as event
use Rattle.orc_rules.specs.declared.transaction.Phase.{Phase}
use Rattle.orc_rules.specs.declared.transaction.Phase.TheVariants as phase
use Rattle.orc_rules.specs.declared.transaction.Transaction.{Transaction}
use Rattle.orc_rules.specs.declared.transaction.Waiting.{Waiting}
use Rattle.orc_rules.proofs.Admitting.{shared_not, started_at, started_other}
use Rattle.orc_rules.proofs.Entering.{All-at}
use Rattle.orc_rules.proofs.Moves.{all_left}
use Rattle.orc_rules.proofs.Moving.{order_is}
use Rattle.orc_rules.proofs.Reaching.{come_at_rest, due_so}
use Rattle.orc_rules.proofs.Retiring.{fits_nothing}
use Rattle.orc_rules.proofs.Slots.{all_so, both_true, outcome_at, outcome_worker, over_on}
use Rattle.orc_rules.proofs.Tracking.{steps_devices}
use Rattle.orc_runs.specs.Runs.{LineDone, Run}
use Rattle.orc_runs.specs.Scripts.{Goes, IsStill, Part, Part as part, line_parts, round, set_by}
use Rattle.orc_script.specs.declared.step.ScriptStep.{ScriptStep}
use Rattle.orc_script.specs.declared.step.ScriptStep.TheVariants as step
use Rattle.orc_runs.proofs.InStep.{set_devices}
use Rattle.orc_runs.proofs.Lasting.{each_line, there_in}
use Rattle.orc_runs.specs.Serving.{IsAsking, IsRested, ServesEach, ServesHub, ServesWorld, is_going}
use Rattle.orc_runs.proofs.Serving.{admit_serves, answer_asks, away_serves, has_some, idle_serves, new_serves, none_serves, open_asks, report_serves, settle_serves, told_serves, under_preparing}
use Rattle.orc_runs.proofs.Ordered.{IsOpen}
use Rattle.orc_runs.proofs.Stilled.{settled_still}
use Rattle.orc_runs.proofs.Rested.{lines_rest}

-- lists

-- an element of which a test doesn't hold
not_all : (p : ℕ → Bool) (xs : List ℕ) → list_all p xs ≡ false → (x : ℕ) × (list_any (nat_eq x) xs ≡ true) × (p x ≡ false)
not_all p [] none = absurd (false≢true (sym none))
not_all p (x ∷ xs) none = on (p x) refl (not_all p xs)
  where
    or_more : (a b : Bool) → b ≡ true → (a || b) ≡ true
    or_more true b h = refl
    or_more false b h = h

    on : (b : Bool) → p x ≡ b → (list_all p xs ≡ false → (y : ℕ) × (list_any (nat_eq y) xs ≡ true) × (p y ≡ false))
        → (y : ℕ) × (list_any (nat_eq y) (x ∷ xs) ≡ true) × (p y ≡ false)
    on false is rest = (x, ap (λ (b : Bool). b || list_any (nat_eq x) xs) (eq-eqb x x refl), is)
    on true is rest =
        let later = rest (sym (ap (λ (b : Bool). b && list_all p xs) is) ∙ none) in
        (later.0, or_more (nat_eq later.0 x) (list_any (nat_eq later.0) xs) later.1, later.2)

-- what holds at each place holds of each element
all_by : {X : Type 0} (P : X → Type 0) (xs : List X) → ((i : ℕ) (x : X) → slice_get xs i ≡ Some x → P x) → All P xs
all_by P xs h = λ k d lt. h k (get_or xs k d) (slice_get-get_or xs k d lt)

-- the devices of change sets are declared
named_below : (n device : ℕ) (sets : List (ℕ × ChangeSet)) → All (λ one. one.0 < n) sets → list_any (nat_eq device) (map (λ one. one.0) sets) ≡ true → nat_lt device n ≡ true
named_below n device [] all h = absurd (false≢true h)
named_below n device (one ∷ sets) all h =
    on (nat_eq device one.0) refl h (λ h'. named_below n device sets (All-tail (λ one. one.0 < n) one sets all) h')
  where
    on : (b : Bool) → nat_eq device one.0 ≡ b → (b || list_any (nat_eq device) (map (λ one. one.0) sets)) ≡ true
        → (list_any (nat_eq device) (map (λ one. one.0) sets) ≡ true → nat_lt device n ≡ true) → nat_lt device n ≡ true
    on true is h' rest = ap (λ (d : ℕ). nat_lt d n) (eqb-true device one.0 is) ∙ lt-ltb one.0 n (All-head (λ one. one.0 < n) one sets all)
    on false is h' rest = rest h'

-- what is due in the journal

min_either : (a b : ℕ) → (min a b ≡ a) ⊎ (min a b ≡ b)
min_either a b = on (nat_lt a b) refl
  where
    on : (c : Bool) → nat_lt a b ≡ c → (min a b ≡ a) ⊎ (min a b ≡ b)
    on true is = inl (let lt : a < b = ltb-true a b is in omega arith)
    on false is = inr (let le : b ≤ a = ltb-false a b is in omega arith)

pub record IsFound (duties : List Duty) (active : List Transaction) (t : ℕ) : Type 0 where
  pub place : ℕ
  pub it : Transaction
  pub there : slice_get active place ≡ Some it
  pub number : it.t ≡ t
  pub due : is_entry_due duties it ≡ true

more_found : (duties : List Duty) (x : Transaction) (active : List Transaction) (t : ℕ) → IsFound duties active t → IsFound duties (x ∷ active) t
more_found duties x active t f = record { place = suc f.place; it = f.it; there = f.there; number = f.number; due = f.due }

-- the least number is that of one for which something is due
least_found : (duties : List Duty) (active : List Transaction) (found : Option ℕ) (t : ℕ) → fold (due_with duties) found active ≡ Some t → (found ≡ Some t) ⊎ IsFound duties active t
least_found duties [] found t is = inl is
least_found duties (x ∷ active) found t is = ⊎_elim
    (λ first. here (is_entry_due duties x) refl found first)
    (λ later. inr (more_found duties x active t later))
    (least_found duties active (due_with duties found x) t is)
  where
    own : is_entry_due duties x ≡ true → x.t ≡ t → IsFound duties (x ∷ active) t
    own due number = record { place = zero; it = x; there = refl; number = number; due = due }

    taken : is_entry_due duties x ≡ true → (o : Option ℕ) → lesser_number o x.t ≡ Some t → (o ≡ Some t) ⊎ IsFound duties (x ∷ active) t
    taken due None first = inr (own due (same_Some x.t t first))
    taken due (Some u) first = ⊎_elim
        (λ left. inl (ap Some (sym left) ∙ first))
        (λ right. inr (own due (sym right ∙ same_Some (min u x.t) t first)))
        (min_either u x.t)

    here : (b : Bool) → is_entry_due duties x ≡ b → (o : Option ℕ) → due_with duties o x ≡ Some t → (o ≡ Some t) ⊎ IsFound duties (x ∷ active) t
    here true is o first = taken is o (sym (ap (λ (b : Bool). cond b (lesser_number o x.t) o) is) ∙ first)
    here false is o first = inl (sym (ap (λ (b : Bool). cond b (lesser_number o x.t) o) is) ∙ first)

-- where there is none, nothing is due
stays_some : (duties : List Duty) (active : List Transaction) (u : ℕ) → fold (due_with duties) (Some u) active ≡ None → ⊥
stays_some duties [] u is = cc
stays_some duties (x ∷ active) u is = on (is_entry_due duties x) is (stays_some duties active)
  where
    on : (b : Bool) → fold (due_with duties) (cond b (lesser_number (Some u) x.t) (Some u)) active ≡ None
        → ((v : ℕ) → fold (due_with duties) (Some v) active ≡ None → ⊥) → ⊥
    on true h rest = rest (min u x.t) h
    on false h rest = rest u h

lesser_some : (o : Option ℕ) (n : ℕ) → (u : ℕ) × (lesser_number o n ≡ Some u)
lesser_some None n = (n, refl)
lesser_some (Some u) n = (min u n, refl)

none_due : (duties : List Duty) (active : List Transaction) (found : Option ℕ) → fold (due_with duties) found active ≡ None
    → (i : ℕ) (it : Transaction) → slice_get active i ≡ Some it → is_entry_due duties it ≡ true → ⊥
none_due duties [] found none i it at due = absurd cc
none_due duties (x ∷ active) found none zero it at due =
    let same : x ≡ it = same_Some x it at in
    let some = lesser_some found x.t in
    stays_some duties active some.0
    (sym (ap (λ (o : Option ℕ). fold (due_with duties) o active)
    (ap (λ (b : Bool). cond b (lesser_number found x.t) found) (ap (is_entry_due duties) same ∙ due) ∙ some.1)) ∙ none)
none_due duties (x ∷ active) found none (suc i) it at due = none_due duties active (due_with duties found x) none i it at due

-- operations

-- what is to happen to an operation may
way_possible : (kind : DeviceKind) (node : NodeState) (session : ℕ) (op : Op) (listed : Option When)
    → Possible kind node session op (cond (is_stranded node session op) way.Stranded (listed_way listed (op_refusal kind node session op)))
way_possible kind node session op listed = on (is_stranded node session op) refl
  where
    denied : (o : Option Tag) → op_refusal kind node session op ≡ o → is_stranded node session op ≡ false → Possible kind node session op (listed_way None o)
    denied None is none = is
    denied (Some tag) is none = (is, none)

    lost : (o : Option Tag) → op_refusal kind node session op ≡ o → is_stranded node session op ≡ false → Possible kind node session op (listed_way (Some when.After) o)
    lost None is none = is
    lost (Some tag) is none = none

    by : (l : Option When) → is_stranded node session op ≡ false → Possible kind node session op (listed_way l (op_refusal kind node session op))
    by None none = denied (op_refusal kind node session op) refl none
    by (Some when.Before) none = none
    by (Some when.After) none = lost (op_refusal kind node session op) refl none

    on : (b : Bool) → is_stranded node session op ≡ b → Possible kind node session op (cond b way.Stranded (listed_way listed (op_refusal kind node session op)))
    on true is = is
    on false is = by listed is

-- where something is due for a worker there is an operation
order_due : (t : ℕ) (set : ChangeSet) (st : Stage) → is_due st ≡ true → (op : Op) × (order_at t set st ≡ Some op)
order_due t set stage.Opening h = (_, refl)
order_due t set stage.LockingRunning h = (_, refl)
order_due t set stage.LockingCandidate h = (_, refl)
order_due t set stage.Editing h = (_, refl)
order_due t set stage.Validating h = (_, refl)
order_due t set stage.Committing h = (_, refl)
order_due t set stage.Refusing h = (_, refl)
order_due t set stage.Prepared h = absurd (false≢true h)
order_due t set stage.Lost h = absurd (false≢true h)
order_due t set stage.Confirming h = (_, refl)
order_due t set stage.Cancelling h = (_, refl)
order_due t set stage.Reopening h = (_, refl)
order_due t set stage.Recancelling h = (_, refl)
order_due t set stage.UnlockingCandidate h = (_, refl)
order_due t set stage.UnlockingRunning h = (_, refl)
order_due t set stage.Closing h = (_, refl)
order_due t set stage.Over h = absurd (false≢true h)

-- a worker without an outcome has one
none_is_due : (st : Stage) → agrees st None ≡ true → is_due st ≡ true
none_is_due stage.Opening h = refl
none_is_due stage.LockingRunning h = refl
none_is_due stage.LockingCandidate h = refl
none_is_due stage.Editing h = refl
none_is_due stage.Validating h = refl
none_is_due stage.Committing h = refl
none_is_due stage.Refusing h = absurd (false≢true h)
none_is_due stage.Prepared h = absurd (false≢true h)
none_is_due stage.Lost h = absurd (false≢true h)
none_is_due stage.Confirming h = absurd (false≢true h)
none_is_due stage.Cancelling h = absurd (false≢true h)
none_is_due stage.Reopening h = absurd (false≢true h)
none_is_due stage.Recancelling h = absurd (false≢true h)
none_is_due stage.UnlockingCandidate h = absurd (false≢true h)
none_is_due stage.UnlockingRunning h = absurd (false≢true h)
none_is_due stage.Closing h = absurd (false≢true h)
none_is_due stage.Over h = absurd (false≢true h)

-- a stage that goes on and hasn't ended is due
going_is_due : (st : Stage) → is_going st ≡ true → is_over st ≡ false → is_due st ≡ true
going_is_due stage.Opening h g = absurd (false≢true h)
going_is_due stage.LockingRunning h g = absurd (false≢true h)
going_is_due stage.LockingCandidate h g = absurd (false≢true h)
going_is_due stage.Editing h g = absurd (false≢true h)
going_is_due stage.Validating h g = absurd (false≢true h)
going_is_due stage.Committing h g = absurd (false≢true h)
going_is_due stage.Refusing h g = refl
going_is_due stage.Prepared h g = absurd (false≢true h)
going_is_due stage.Lost h g = absurd (false≢true h)
going_is_due stage.Confirming h g = refl
going_is_due stage.Cancelling h g = refl
going_is_due stage.Reopening h g = refl
going_is_due stage.Recancelling h g = refl
going_is_due stage.UnlockingCandidate h g = refl
going_is_due stage.UnlockingRunning h g = refl
going_is_due stage.Closing h g = refl
going_is_due stage.Over h g = absurd (false≢true (sym g))

-- what an event keeps of who is served

-- a test that holds at each place holds of each element
all_places : {X : Type 0} (p : X → Bool) (xs : List X) → ((i : ℕ) (x : X) → slice_get xs i ≡ Some x → p x ≡ true) → list_all p xs ≡ true
all_places p [] h = refl
all_places p (x ∷ xs) h = both (p x) (list_all p xs) (h 0 x refl) (all_places p xs (λ i y at. h (suc i) y at))
  where
    both : (a b : Bool) → a ≡ true → b ≡ true → (a && b) ≡ true
    both true b h' g = g
    both false b h' g = absurd (false≢true h')

-- the worker that has an outcome is past preparing
heard_worker : (duties : List Duty) (t device : ℕ) (worker : Worker) → is_some (outcome_on duties t device) ≡ true → duty_on duties device ≡ duty.Works worker
    → agrees worker.stage worker.outcome ≡ true → has_outcome worker.stage ≡ true
heard_worker duties t device worker some is agree = on (outcome_on duties t device) refl some
  where
    on : (o : Option Outcome) → outcome_on duties t device ≡ o → is_some o ≡ true → has_outcome worker.stage ≡ true
    on None e h = absurd (false≢true h)
    on (Some o) e h =
        let mine = outcome_worker t (duty_on duties device) o (sym (outcome_at duties t device) ∙ e) in
        let same : worker ≡ mine.0 = works_same worker mine.0 (sym is ∙ mine.1) in
        has_some worker.stage o (subst (λ (x : Option Outcome). agrees worker.stage x ≡ true) (ap (λ (w : Worker). w.outcome) same ∙ mine.3) agree)
      where
        works_same : (a b : Worker) → duty.Works a ≡ duty.Works b → a ≡ b
        works_same a b e' = cc

module _ {D : Type 0} (here : Setting D) (are : AreDecls here.decls) (plans : PlanStands) (kinds : (device : ℕ) → IsOfHub (here.kinds device))
    (lawful : (device : ℕ) → IsLawful (here.kinds device) (over here.decls device)) (planning : Planning (over here.decls) (StandsAt here.decls) (FitAt here.decls) (ValidAt here.decls)) where
  module _ (world : World D) (hub : Hub) (up : world.hub ≡ Some hub) (kept : HistoryKept here world) (devices : DevicesKept here.decls world) (own : ServesHub hub) where
    abbrev under : Attends here.decls devices.shadow (entries_read world.journal) hub world.links
    under = devices.under hub up

    -- the hub after an event is this one
    is_behind : (next : World D) (hub' : Hub) → next.hub ≡ Some hub' → ServesHub hub' → ServesWorld next
    is_behind next hub' is so other e = subst ServesHub (same_Some hub' other (sym is ∙ e)) so

    mending_left : (met : Option RecFault) → hub.mends ≡ Some met → (i : ℕ) (it : Transaction) → slice_get hub.active i ≡ Some it → it.phase ≡ phase.Left
    mending_left met is =
        let mending : AreMending here.decls (entries_read world.journal) hub.active hub.duties hub.stale met =
        subst (λ (m : Option (Option RecFault)). MendingKept here.decls (entries_read world.journal) hub.active hub.duties hub.stale m) is under.mending in
        mending.left

    heard_all : (it : Transaction) → is_decision_due hub.duties it ≡ true → (device : ℕ) → list_any (nat_eq device) it.plan.held.devices ≡ true
        → (worker : Worker) → duty_on hub.duties device ≡ duty.Works worker → has_outcome worker.stage ≡ true
    heard_all it due device named worker is =
        heard_worker hub.duties it.t device worker
        (all_so (λ d. is_some (outcome_on hub.duties it.t d)) it.plan.held.devices device (both_true (is_preparing it.phase) (are_heard hub.duties it.t it.plan.held.devices) due).1 named)
        is (under.agree device worker is)

    does_serve : (meant : Event) (row : List Entry) (next : World D) → DoesUnderHub here world hub meant row next → ServesWorld next
    does_serve meant row next (DoesUnderHub.begins caller) = is_behind next hub up own
    does_serve meant row next (DoesUnderHub.answers call front said asked snap why keeps) = is_behind next (record hub { asked = asked }) refl (answered asked keeps)
      where
        answered : (now : List Asked) → KeepsAnswer call said hub.asked now → ServesEach hub.waiting hub.active hub.duties now
        answered now KeepsAnswer.kept = record { asks = answer_asks hub.asked hub.waiting hub.active call said own.asks; works = own.works; goes = own.goes; empty = own.empty }
        answered now (KeepsAnswer.wanting memory new) = own
    does_serve meant row next (DoesUnderHub.queues it front snap alike lawful_call closed apart fresh within made number slot) =
        is_behind next _ refl (record { asks = open_asks hub.asked hub.waiting hub.active it slot own.asks; works = own.works; goes = own.goes; empty = own.empty })
    does_serve meant row next (DoesUnderHub.turns_away place it said there first idle why) =
        is_behind next _ refl (away_serves hub.waiting hub.active hub.duties hub.asked place it said there own)
    does_serve meant row next (DoesUnderHub.admits place it sets there first idle passes fresh) =
        is_behind next _ refl (admit_serves hub.waiting hub.active hub.duties hub.asked own place it there (length (history_read world.journal)) sets starts others apart)
      where
        same : first.it ≡ it
        same = same_Some first.it it (sym first.fits.there ∙ there)

        fits : All (λ (other : Transaction). FitTogether it.plan.held other.plan.held) hub.active
        fits = subst (λ (w : Waiting). All (λ (other : Transaction). FitTogether w.plan.held other.plan.held) hub.active) same first.fits.active_ones

        starts : (device : ℕ) → list_any (nat_eq device) it.plan.held.devices ≡ true
            → (worker : Worker) × (duty_on (started it.t sets hub.duties) device ≡ duty.Works worker) × (worker.t ≡ it.t)
        starts device named =
            let named' : list_any (nat_eq device) (map (λ (one : ℕ × ChangeSet). one.0) sets) ≡ true = ap (λ (ds : List ℕ). list_any (nat_eq device) ds) passes.devices ∙ named in
            let s = started_at it.t (λ (one : ℕ × ChangeSet). Unit {0}) sets hub.duties device
            (ap (λ (n : ℕ). nat_lt device n) under.duties_sized ∙ named_below (length here.decls.names) device sets passes.within named') (λ k d lt. tt) named' in
            (new_worker it.t s.set, s.is, refl)

        others : (device : ℕ) → list_any (nat_eq device) it.plan.held.devices ≡ false → duty_on (started it.t sets hub.duties) device ≡ duty_on hub.duties device
        others device unnamed = started_other it.t sets hub.duties device (ap (λ (ds : List ℕ). list_any (nat_eq device) ds) passes.devices ∙ unnamed)

        apart : (i : ℕ) (x : Transaction) → slice_get hub.active i ≡ Some x → (device : ℕ) → list_any (nat_eq device) x.plan.held.devices ≡ true → list_any (nat_eq device) it.plan.held.devices ≡ false
        apart i x at device named = on (list_any (nat_eq device) it.plan.held.devices) refl
          where
            on : (b : Bool) → list_any (nat_eq device) it.plan.held.devices ≡ b → list_any (nat_eq device) it.plan.held.devices ≡ false
            on true is = absurd (shared_not it.plan.held.devices x.plan.held.devices device
                (All-at (λ (other : Transaction). FitTogether it.plan.held other.plan.held) hub.active i x fits at).devices is named)
            on false is = is
    does_serve meant row next (DoesUnderHub.performs device op happened due unheard possible way) = is_behind next hub up own
    does_serve meant row next (DoesUnderHub.leaves_unsent device changes due unheard) = is_behind next hub up own
    does_serve meant row next (DoesUnderHub.reports device op reply unheard) =
        is_behind next (hub_reported device reply (world.links device).faults hub) refl (report_serves hub.waiting hub.active hub.duties hub.asked device reply (world.links device).faults own)
    does_serve meant row next (DoesUnderHub.commits place it there least due prepared valid) =
        is_behind next (answered it.asker (answer.Committed (length (history_read world.journal) + 1)) (hub_told it.t phase.Decided true hub)) refl
        (told_serves hub.waiting hub.active hub.duties hub.asked own place it there (both_true (is_preparing it.phase) (are_heard hub.duties it.t it.plan.held.devices) due).0 phase.Decided refl true
        (answer.Committed (length (history_read world.journal) + 1)) under.numbers (heard_all it due))
    does_serve meant row next (DoesUnderHub.aborts place it said there least due why) =
        is_behind next (answered it.asker said (hub_told it.t phase.Aborted false hub)) refl
        (told_serves hub.waiting hub.active hub.duties hub.asked own place it there (both_true (is_preparing it.phase) (are_heard hub.duties it.t it.plan.held.devices) due).0 phase.Aborted refl false
        said under.numbers (heard_all it due))
    does_serve meant row next (DoesUnderHub.settles place it there least settling) =
        is_behind next _ refl (settle_serves hub.waiting hub.active hub.duties hub.asked own place it there settling under.numbers)
    does_serve meant row next DoesUnderHub.stops = λ other e. absurd (let none : ◌≡◌ {A = Option Hub} None (Some other) = e in cc)
    does_serve meant row next (DoesUnderHub.mends numbers idle unsettled) =
        is_behind next _ refl (idle_serves hub.waiting hub.active hub.duties _ hub.asked (all_left hub.active idle.1) own)
    does_serve meant row next (DoesUnderHub.mended numbers met busy heard unsettled) =
        is_behind next _ refl (none_serves hub.waiting hub.active hub.duties (map mender_freed hub.duties) hub.asked (mending_left None met) own)
    does_serve meant row next (DoesUnderHub.finds_no_memory met busy heard) =
        is_behind next _ refl (idle_serves hub.waiting hub.active hub.duties (map mender_freed hub.duties) hub.asked (mending_left None met) own)
    does_serve meant row next (DoesUnderHub.fails_to_mend met failed heard) =
        is_behind next _ refl (idle_serves hub.waiting hub.active hub.duties (map mender_freed hub.duties) hub.asked (mending_left (Some met) failed) own)

    -- where nothing is left for a round
    module _ (still : IsStill here world) (quiet : hub.mends ≡ None) where
      no_mender : (device : ℕ) (mender : MenderState) → duty_on hub.duties device ≡ duty.Mends mender → ⊥
      no_mender = subst (λ (m : Option (Option RecFault)). MendingKept here.decls (entries_read world.journal) hub.active hub.duties hub.stale m) quiet under.mending

      -- no device has something due
      none_busy : (device : ℕ) (worker : Worker) → duty_on hub.duties device ≡ duty.Works worker → is_due worker.stage ≡ true → ⊥
      none_busy device worker is due = on (world.links device).unheard refl
        where
          on : (u : Option (OpKind × Reply)) → (world.links device).unheard ≡ u → ⊥
          on (Some one) e = (still device).2 (event.Report device one.0 (mark_of one.1) (world.links device).faults) refl
              (inl (hub, [], _, up, DoesUnderHub.reports device one.0 one.1 e))
          on None e =
              let order = order_due worker.t worker.set worker.stage due in
              let way' = way_due here world device order.0 in
              (still device).1 (event.Perform device (kind_of_op order.0) (mark_of (way_reply (world.nodes device) order.0 way')) _) refl
              (inl (
                hub,
                [],
                _,
                up,
                DoesUnderHub.performs device order.0 way'
                    (due_so hub device (ap has_met_failure quiet) (come_at_rest hub device quiet) ∙ order_is hub device ∙ ap duty_order is ∙ order.1) e
                    (way_possible (here.kinds device) (world.nodes device) (world.links device).session order.0 (listed_when (kind_of_op order.0) (world.links device).listed)) (inl refl),
              ))

      -- nothing is due in the journal
      none_least : (t : ℕ) → least_due hub.duties hub.active ≡ Some t → ⊥
      none_least t is = ⊎_elim (λ none. absurd cc) found (least_found hub.duties hub.active None t is)
        where
          settles_or : (f : IsFound hub.duties hub.active t) → (b : Bool) → is_settling f.it.phase ≡ b → ⊥
          settles_or f true e = (still 0).3 (event.Settle f.it.t) tt (inl (hub, _, _, up, DoesUnderHub.settles f.place f.it f.there (is ∙ ap Some (sym f.number)) e))
          settles_or f false e = (still 0).3 (event.Decide f.it.t answer.Memory) tt
              (inl (
                hub,
                _,
                _,
                up,
                DoesUnderHub.aborts f.place f.it answer.Memory f.there (is ∙ ap Some (sym f.number))
                    (ap (λ (b : Bool). b || is_decision_due hub.duties f.it) (sym e) ∙ f.due) (inl refl),
              ))

          found : IsFound hub.duties hub.active t → ⊥
          found f = settles_or f (is_settling f.it.phase) refl

      none_is_due_now : (i : ℕ) (it : Transaction) → slice_get hub.active i ≡ Some it → is_entry_due hub.duties it ≡ true → ⊥
      none_is_due_now i it at due = on (least_due hub.duties hub.active) refl
        where
          on : (o : Option ℕ) → least_due hub.duties hub.active ≡ o → ⊥
          on (Some t) e = none_least t e
          on None e = none_due hub.duties hub.active None e i it at due

      -- no transaction is being prepared
      none_preparing : (i : ℕ) (it : Transaction) → slice_get hub.active i ≡ Some it → is_preparing it.phase ≡ true → ⊥
      none_preparing i it at preparing = on (are_heard hub.duties it.t it.plan.held.devices) refl
        where
          or_last : (a b : Bool) → b ≡ true → (a || b) ≡ true
          or_last true b h = refl
          or_last false b h = h

          both : (a b : Bool) → a ≡ true → b ≡ true → (a && b) ≡ true
          both true b h g = g
          both false b h g = absurd (false≢true h)

          on : (b : Bool) → are_heard hub.duties it.t it.plan.held.devices ≡ b → ⊥
          on true e = none_is_due_now i it at (or_last (is_settling it.phase) (is_decision_due hub.duties it) (both (is_preparing it.phase) (are_heard hub.duties it.t it.plan.held.devices) preparing e))
          on false e =
              let unheard = not_all (λ d. is_some (outcome_on hub.duties it.t d)) it.plan.held.devices e in
              let worker = own.works i it at (under_preparing it.phase preparing) unheard.0 unheard.1 in
              let outcome : outcome_on hub.duties it.t unheard.0 ≡ worker.worker.outcome =
              outcome_at hub.duties it.t unheard.0 ∙ ap (duty_outcome it.t) worker.there
              ∙ ap (λ (b : Bool). cond b worker.worker.outcome None) (eq-eqb worker.worker.t it.t worker.number) in
              none_busy unheard.0 worker.worker worker.there
              (none_is_due worker.worker.stage
              (subst (λ (o : Option Outcome). agrees worker.worker.stage o ≡ true) (not_some worker.worker.outcome (sym (ap is_some outcome) ∙ unheard.2)) (under.agree unheard.0 worker.worker worker.there)))
            where
              not_some : (o : Option Outcome) → is_some o ≡ false → o ≡ None
              not_some None h = refl
              not_some (Some x) h = absurd (false≢true (sym h))

      none_told : (i : ℕ) (it : Transaction) → slice_get hub.active i ≡ Some it → is_told it.phase ≡ true → ⊥
      none_told i it at told =
          let unended = not_all (is_over_on hub.duties it.t) it.plan.held.devices (own.goes i it at told) in
          let worker = own.works i it at (told_under it.phase told) unended.0 unended.1 in
          let ended : is_over_on hub.duties it.t unended.0 ≡ is_over worker.worker.stage =
          over_on hub.duties it.t unended.0 ∙ ap (is_over_for it.t) worker.there ∙ ap (λ (b : Bool). b && is_over worker.worker.stage) (eq-eqb worker.worker.t it.t worker.number) in
          none_busy unended.0 worker.worker worker.there (going_is_due worker.worker.stage (worker.goes told) (sym ended ∙ unended.2))
        where
          told_under : (p : Phase) → is_told p ≡ true → is_under_way p ≡ true
          told_under phase.Preparing h = absurd (false≢true h)
          told_under phase.Decided h = refl
          told_under phase.Aborted h = refl
          told_under phase.Settling h = absurd (false≢true h)
          told_under phase.Left h = absurd (false≢true h)

      -- each transaction holds nothing
      all_empty : (i : ℕ) (it : Transaction) → slice_get hub.active i ≡ Some it → it.plan.held ≡ nothing_held
      all_empty i it at = own.empty i it at (not_under it.phase (none_preparing i it at) (none_told i it at))
        where
          not_under : (p : Phase) → (is_preparing p ≡ true → ⊥) → (is_told p ≡ true → ⊥) → is_under_way p ≡ false
          not_under phase.Preparing h g = absurd (h refl)
          not_under phase.Decided h g = absurd (g refl)
          not_under phase.Aborted h g = absurd (g refl)
          not_under phase.Settling h g = refl
          not_under phase.Left h g = refl

      -- no call waits, since the first could be looked at
      none_waits : (it : Waiting) → slice_get hub.waiting 0 ≡ Some it → ⊥
      none_waits it at = (still 0).0 (event.Admit it.t (Some answer.Memory)) tt
          (inl (
            hub,
            [],
            _,
            up,
            DoesUnderHub.turns_away 0 it answer.Memory at
                (record {
                  it = it;
                  fits = record {
                    there = at;
                    active_ones = all_by (λ (other : Transaction). FitTogether it.plan.held other.plan.held) hub.active
                        (λ i x at'. subst (λ (h : Held). FitTogether it.plan.held h) (sym (all_empty i x at')) (fits_nothing it.plan.held));
                    earlier_ones = All-nil (λ (other : Waiting). FitTogether it.plan.held other.plan.held);
                  };
                  first = λ other one less fits. absurd (omega (arith, less));
                }) quiet (inl refl),
          ))

      none_waits_at : (i : ℕ) (it : Waiting) → slice_get hub.waiting i ≡ Some it → ⊥
      none_waits_at i it at = on hub.waiting refl at
        where
          on : (xs : List Waiting) → hub.waiting ≡ xs → slice_get xs i ≡ Some it → ⊥
          on [] e h = cc
          on (x ∷ xs) e h = none_waits x (ap (λ (l : List Waiting). slice_get l 0) e)

      -- no call is on its way
      pub none_on_way : (call : Call) → IsOpen hub call → ⊥
      none_on_way call (IsOpen.open_waiting place one there is) = none_waits_at place one there
      none_on_way call (IsOpen.open_preparing place it there preparing is) = none_preparing place it there preparing

      -- nothing waits, and nothing is due
      pub idle_now : IsIdle hub
      idle_now = (no_waiting hub.waiting refl, all_places (λ it. is_left it.phase) hub.active (λ i it at. left_only it.phase (none_preparing i it at) (none_told i it at) (none_settling i it at)), quiet)
        where
          no_waiting : (xs : List Waiting) → hub.waiting ≡ xs → hub.waiting ≡ []
          no_waiting [] e = e
          no_waiting (x ∷ xs) e = absurd (none_waits x (ap (λ (l : List Waiting). slice_get l 0) e))

          none_settling : (i : ℕ) (it : Transaction) → slice_get hub.active i ≡ Some it → is_settling it.phase ≡ true → ⊥
          none_settling i it at settling = none_is_due_now i it at (ap (λ (b : Bool). b || is_decision_due hub.duties it) settling)

          left_only : (p : Phase) → (is_preparing p ≡ true → ⊥) → (is_told p ≡ true → ⊥) → (is_settling p ≡ true → ⊥) → is_left p ≡ true
          left_only phase.Preparing h g f = absurd (h refl)
          left_only phase.Decided h g f = absurd (g refl)
          left_only phase.Aborted h g f = absurd (g refl)
          left_only phase.Settling h g f = absurd (f refl)
          left_only phase.Left h g f = refl

      pub none_open : All (λ one. one.is_open ≡ false) hub.asked
      none_open = all_by (λ one. one.is_open ≡ false) hub.asked (λ i one at. on i one at one.is_open refl)
        where
          nobody : (i : ℕ) → IsAsking hub.waiting hub.active i → ⊥
          nobody i (IsAsking.asks_waiting j w at is) = none_waits_at j w at
          nobody i (IsAsking.asks_preparing j x at h is) = none_preparing j x at h

          on : (i : ℕ) (one : Asked) → slice_get hub.asked i ≡ Some one → (b : Bool) → one.is_open ≡ b → one.is_open ≡ false
          on i one at true is = absurd (nobody i (own.asks i one at is))
          on i one at false is = is

  pub steps_serve : (old new : World D) (meant : Event) (seen : Option Event) → HistoryKept here old → DevicesKept here.decls old → ServesWorld old → Steps here old meant seen new → ServesWorld new
  steps_serve old new meant seen kept devices own (Steps.done hub row next _ up does appends is) =
      λ hub' e. does_serve old hub up kept devices (own hub up) meant row next does hub' (sym (ap (λ (w : World D). w.hub) is) ∙ e)
  steps_serve old new meant seen kept devices own (Steps.cut hub row next _ up does appends is) =
      λ hub' e. absurd (let none : ◌≡◌ {A = Option Hub} None (Some hub') = sym (ap (λ (w : World D). w.hub) is) ∙ e in cc)
  steps_serve old new meant seen kept devices own (Steps.failed hub row next _ up does appends is) =
      λ hub' e. absurd (let none : ◌≡◌ {A = Option Hub} None (Some hub') = sym (ap (λ (w : World D). w.hub) is) ∙ e in cc)
  steps_serve old new meant seen kept devices own (Steps.full hub row next len _ up does appends is) =
      λ hub' e. absurd (let none : ◌≡◌ {A = Option Hub} None (Some hub') = sym (ap (λ (w : World D). w.hub) is) ∙ e in cc)
  steps_serve old new meant seen kept devices own (Steps.anyway _ (DoesAnyway.ticks seconds)) = own
  steps_serve old new meant seen kept devices own (Steps.anyway _ (DoesAnyway.restarts device)) = own
  steps_serve old new meant seen kept devices own (Steps.anyway _ (DoesAnyway.answers_down call front down)) = own
  steps_serve old new meant seen kept devices own (Steps.unopened _ down recover stays is) =
      λ hub' e. absurd (let none : ◌≡◌ {A = Option Hub} None (Some hub') = sym down ∙ sym (ap (λ (w : World D). w.hub) is) ∙ e in cc)
  steps_serve old new meant seen kept devices own (Steps.recovers _ down recover reopens is) =
      λ hub' e. subst ServesHub (same_Some _ hub' (sym (ap (λ (w : World D). w.hub) is) ∙ e)) (new_serves (map (λ device. duty.Free) (declared here.decls)))

-- what a line sets keeps it
pub set_serves : {D : Type 0} (at : ScriptStep) (world : World D) → ServesWorld world → ServesWorld (set_by at world)
set_serves {D = D} (step.StopAt count bytes) world own = on world.hub refl
  where
    on : (hub : Option Hub) → world.hub ≡ hub → ServesWorld (option_map_or (λ h. record world { journal = record world.journal { armed = count; bytes = bytes } }) hub world)
    on None e = own
    on (Some hub) e = own
set_serves (step.Fault device op at) world own = own
set_serves other world own = own

-- over a whole run
module _ {D : Type 0} (here : Setting D)
    (only_now : (d : D) (c : List ℕ) → here.disk.left_since d (here.disk.moment d) c → here.disk.may_leave d c)
    (are : AreDecls here.decls) (plans : PlanStands) (legally : LegalStands) (order : KeepsOrder)
    (kinds : (device : ℕ) → IsOfHub (here.kinds device)) (lawful : (device : ℕ) → IsLawful (here.kinds device) (over here.decls device))
    (planning : Planning (over here.decls) (StandsAt here.decls) (FitAt here.decls) (ValidAt here.decls))
    (script : List ScriptStep) (first last : World D) (run : Run here script first last) (kept : HistoryKept here first) (own : DevicesKept here.decls first)
    (serves : ServesWorld first) (rested : IsRested first) where
  abbrev ServedWorld : World D → Type 0
  ServedWorld world = DevicesKept here.decls world × ServesWorld world

  both_steps : (old new : World D) (meant : Event) (seen : Option Event) → HistoryKept here old → ServedWorld old → Steps here old meant seen new → ServedWorld new
  both_steps old new meant seen kept' own' steps = (
    steps_devices here are plans kinds lawful planning old new meant seen kept' own'.0 steps,
    steps_serve here are plans kinds lawful planning old new meant seen kept' own'.0 own'.1 steps,
  )

  both_set : (at : ScriptStep) (world : World D) → ServedWorld world → ServedWorld (set_by at world)
  both_set at world own' = (set_devices here at world own'.0, set_serves at world own'.1)

  -- nothing is left after a line `settle`, where a hub is up
  pub left_still : (line : LineDone D) → Contains run.lines line → line.step ≡ step.Settle → (hub : Hub) → line.behind.hub ≡ Some hub → (call : Call) → IsOpen hub call → ⊥
  left_still line among is hub up =
      let at = there_in run.lines line among in
      let line' = each_line here only_now are plans legally order ServedWorld both_steps both_set first run.middle run.lines (kept, (own, serves)) run.done among.0 line at in
      let goes : Goes here false (part.Rounds ∷ []) (set_by line.step line.before) line.turns line.behind =
      subst (λ (parts : List Part). Goes here false parts (set_by line.step line.before) line.turns line.behind) (ap (line_parts here.decls) is) line'.does.goes in
      none_on_way here are plans kinds lawful planning line.behind hub up line'.behind.0 line'.behind.1.0 (line'.behind.1.1 hub up)
      (settled_still here (set_by line.step line.before) line.turns line.behind goes)
      (lines_rest here first run.middle run.lines rested run.done among.0 line at hub up)

  pub settled : (line : LineDone D) (hub : Hub) → Contains run.lines line → line.step ≡ step.Settle → line.behind.hub ≡ Some hub → All (λ one. one.is_open ≡ false) hub.asked
  settled line hub among is up =
      let at = there_in run.lines line among in
      let line' = each_line here only_now are plans legally order ServedWorld both_steps both_set first run.middle run.lines (kept, (own, serves)) run.done among.0 line at in
      let goes : Goes here false (part.Rounds ∷ []) (set_by line.step line.before) line.turns line.behind =
      subst (λ (parts : List Part). Goes here false parts (set_by line.step line.before) line.turns line.behind) (ap (line_parts here.decls) is) line'.does.goes in
      none_open here are plans kinds lawful planning line.behind hub up line'.behind.0 line'.behind.1.0 (line'.behind.1.1 hub up)
      (settled_still here (set_by line.step line.before) line.turns line.behind goes)
      (lines_rest here first run.middle run.lines rested run.done among.0 line at hub up)
