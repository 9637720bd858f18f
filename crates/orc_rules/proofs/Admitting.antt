-- A waiting call is admitted: a worker begins on each of its devices.
use Rattle.std.proofs.Common.{◌≡◌, ◌⊎◌, inl, inr, ⊎_elim, ℕ, ◌<◌, Bool, true, false, cond, not, ◌&&◌, ◌||◌, nat_eq, nat_lt, List, [], ◌∷◌, ◌++◌, Option, Some, None, All, map, length, refl, sym, ap, subst, ◌∙◌, eq-eqb, eqb-true, ne_eqb, lt-ltb, zero, suc}
use Rattle.std.specs.Prelude.{◌==◌, slice_get, slice_set}
use Rattle.std.specs.List.{find, list_all, list_any}
use Rattle.std.specs.Option.{option_map, option_map_or, option_or}
use Rattle.std.proofs.Math.Path.{fun_ext}
use Rattle.std.proofs.lemmas.Bool.{false≢true}
use Rattle.std.proofs.lemmas.Option.{same_Some}
use Rattle.std.proofs.lemmas.List.Elements.{All-head, All-tail, Contains-push}
use Rattle.orc_path.specs.Configurations.{Config}
use Rattle.orc_call.specs.declared.answer.Answer.{Answer}
use Rattle.orc_call.specs.declared.answer.Answer.TheVariants as answer
use Rattle.orc_call.specs.declared.answer.RecFault.{RecFault}
use Rattle.orc_call.specs.declared.answer.Why.{Why}
use Rattle.orc_call.specs.declared.call.Call.{Call}
use Rattle.orc_datastore.specs.Legal.{IsLegal, state_of}
use Rattle.orc_datastore.specs.Next.{after}
use Rattle.orc_datastore.specs.Plans.{call_held}
use Rattle.orc_datastore.specs.States.{Datastore, tree_due}
use Rattle.orc_decls.specs.Calls.{is_call}
use Rattle.orc_decls.specs.Declarations.{AreDecls}
use Rattle.orc_decls.specs.declared.declarations.Decls.{Decls}
use Rattle.orc_device.specs.Nodes.{DeviceKind, NodeState}
use Rattle.orc_device.specs.declared.kind.OpKind.{OpKind}
use Rattle.orc_device.specs.declared.reply.Reply.{Reply}
use Rattle.orc_journal.specs.Committed.{history_of}
use Rattle.orc_journal.specs.Laws.{HasIntent, IsUnnamed}
use Rattle.orc_journal.specs.declared.entry.Entry.{Entry}
use Rattle.orc_plans.specs.Plans.{PlanStands, StandsOn}
use Rattle.orc_queue.specs.Fitting.{FitTogether}
use Rattle.orc_queue.specs.declared.held.Held.{Held}
use Rattle.orc_recover.specs.Menders.{MenderState, differences}
use Rattle.orc_change.specs.Differences.{difference}
use Rattle.orc_tree.specs.declared.change.Change.{Change}
use Rattle.orc_tree.specs.declared.change.ChangeSet.{ChangeSet}
use Rattle.std.specs.FinMap.{empty}
use Rattle.orc_datastore.proofs.Legality.{fold_from-push}
use Rattle.orc_datastore.specs.States.{opening}
use Rattle.std.specs.Prelude.{filter}
use Rattle.std.proofs.lemmas.List.Elements.{filter-append}
use Rattle.orc_worker.specs.Workers.{is_due, new_worker}
use Rattle.orc_worker.specs.declared.stage.Stage.{Stage}
use Rattle.orc_worker.specs.declared.stage.Stage.TheVariants as stage
use Rattle.orc_worker.specs.declared.worker.Worker.{Worker}
use Rattle.orc_rules.specs.Admissions.{IsSetOf, Passes, transaction_begun, intent_entry, started}
use Rattle.orc_rules.specs.Cells.{DeviceRole, updated_at}
use Rattle.orc_rules.specs.Cells.DeviceRole.{Free, Works}
use Rattle.orc_rules.specs.Courses.{agrees, stands_undecided, is_clear}
use Rattle.orc_rules.specs.Duties.{is_busy, is_over}
use Rattle.orc_rules.specs.Fits.{first_stale, stale_one}
use Rattle.orc_rules.specs.Hubs.{Hub, duty_on}
use Rattle.orc_rules.specs.Invariant.{IsLawful}
use Rattle.orc_rules.specs.Kept.{EachPreparing, FitAt, NetworkKept, Shadow, StandsAt, ValidAt, active_under, heard as then_heard, is_stale, network_of, plan_of, role_of, role_on, stale_on, stale_then, lawful_state, works_at}
use Rattle.orc_rules.specs.Network.{Local, Network, Noted, Plan as Named, Planning, admitted_local, cell, intent_seen, seen_plan}
use Rattle.orc_rules.specs.Network.Happening.{Admits}
use Rattle.orc_rules.specs.Standing.{IsAdmitted}
use Rattle.orc_rules.specs.Told.{Told, named_call, told_by}
use Rattle.orc_rules.specs.Transactions.{is_preparing, is_settling}
use Rattle.orc_rules.specs.UnderHub.{IsOfHub, IsOwned, MendingKept, UnderHub}
use Rattle.orc_rules.specs.Works.{Intent}
use Rattle.orc_rules.specs.Worlds.{Link, over}
use Rattle.orc_rules.specs.declared.duty.Duty.{Duty}
use Rattle.orc_rules.specs.declared.duty.Duty.TheVariants as duty
use Rattle.orc_rules.specs.declared.transaction.Transaction.{Transaction}
use Rattle.orc_rules.specs.declared.transaction.Waiting.{Waiting}
use Rattle.orc_rules.proofs.Courses.{due_not_over}
use Rattle.orc_rules.proofs.Devices.{filter_all, told_history}
use Rattle.orc_rules.proofs.Entering.{All-at, intent_push, named_by}
use Rattle.orc_rules.proofs.Legally.{push_cases}
use Rattle.orc_rules.proofs.Moving.{happening}
use Rattle.orc_rules.proofs.Recording.{given_at, given_other}
use Rattle.orc_rules.proofs.Reporting.{is_of, set_other}
use Rattle.orc_rules.proofs.Slots.{all_so, below_none, get_in, lower, set_length}
use Rattle.orc_rules.proofs.Standings.{still_stands}
use Rattle.orc_rules.proofs.Telling.{HeardStage, flip, net_at, told_push, unnamed_told}

-- workers that begin

abbrev devices_of : List (ℕ × ChangeSet) → List ℕ
devices_of sets = map (λ one. one.0) sets

set_same : {X : Type 0} (xs : List X) (i : ℕ) (x : X) → nat_lt i (length xs) ≡ true → slice_get (slice_set xs i x) i ≡ Some x
set_same [] i x h = absurd (below_none i h)
set_same (y ∷ xs) zero x h = refl
set_same (y ∷ xs) (suc i) x h = set_same xs i x (lower i (length xs) h)

started_length : (t : ℕ) (sets : List (ℕ × ChangeSet)) (duties : List Duty) → length (started t sets duties) ≡ length duties
started_length t [] duties = refl
started_length t (one ∷ sets) duties =
    started_length t sets (slice_set duties one.0 (duty.Works (new_worker t one.1))) ∙ set_length duties one.0 (duty.Works (new_worker t one.1))

or_parts : (a b : Bool) → (a || b) ≡ false → (a ≡ false) × (b ≡ false)
or_parts true b h = absurd (false≢true (sym h))
or_parts false b h = (refl, h)

-- on no other device
pub started_other : (t : ℕ) (sets : List (ℕ × ChangeSet)) (duties : List Duty) (device : ℕ) → list_any (nat_eq device) (devices_of sets) ≡ false
    → duty_on (started t sets duties) device ≡ duty_on duties device
started_other t [] duties device none = refl
started_other t (one ∷ sets) duties device none =
    let so = or_parts (nat_eq device one.0) (list_any (nat_eq device) (devices_of sets)) none in
    started_other t sets (slice_set duties one.0 (duty.Works (new_worker t one.1))) device so.1
    ∙ ap (λ (o : Option Duty). option_map_or (λ d. d) o duty.Free)
    (set_other one.0 device duties (duty.Works (new_worker t one.1)) (λ e. false≢true (sym so.0 ∙ eq-eqb device one.0 (sym e))))

-- a worker of a set on each of theirs
pub record Starts (t device : ℕ) (sets : List (ℕ × ChangeSet)) (P : ℕ × ChangeSet → Type 0) (on : Duty) : Type 0 where
  pub set : ChangeSet
  pub is : on ≡ duty.Works (new_worker t set)
  pub so : P (device, set)

pub started_at : (t : ℕ) (P : ℕ × ChangeSet → Type 0) (sets : List (ℕ × ChangeSet)) (duties : List Duty) (device : ℕ) → nat_lt device (length duties) ≡ true → All P sets
    → list_any (nat_eq device) (devices_of sets) ≡ true → Starts t device sets P (duty_on (started t sets duties) device)
started_at t P [] duties device within all among = absurd (false≢true among)
started_at t P (one ∷ sets) duties device within all among =
    on (list_any (nat_eq device) (devices_of sets)) refl
    (λ h. started_at t P sets (slice_set duties one.0 (duty.Works (new_worker t one.1))) device
    (ap (λ (n : ℕ). nat_lt device n) (set_length duties one.0 (duty.Works (new_worker t one.1))) ∙ within) (All-tail P one sets all) h)
  where
    or_last : (a b : Bool) → b ≡ false → (a || b) ≡ a
    or_last true b e = refl
    or_last false b e = e

    on : (b : Bool) → list_any (nat_eq device) (devices_of sets) ≡ b
        → (list_any (nat_eq device) (devices_of sets) ≡ true → Starts t device sets P (duty_on (started t sets (slice_set duties one.0 (duty.Works (new_worker t one.1)))) device))
        → Starts t device (one ∷ sets) P (duty_on (started t (one ∷ sets) duties) device)
    on true h rest = let s = rest h in record { set = s.set; is = s.is; so = s.so }
    on false h rest =
        let same : device ≡ one.0 = eqb-true device one.0 (sym (or_last (nat_eq device one.0) (list_any (nat_eq device) (devices_of sets)) h) ∙ among) in
        record {
          set = one.1;
          is = started_other t sets (slice_set duties one.0 (duty.Works (new_worker t one.1))) device h
              ∙ ap (λ (o : Option Duty). option_map_or (λ d. d) o duty.Free)
              (subst (λ (x : ℕ). slice_get (slice_set duties x (duty.Works (new_worker t one.1))) device ≡ Some (duty.Works (new_worker t one.1))) same
              (set_same duties device (duty.Works (new_worker t one.1)) within));
          so = subst (λ (x : ℕ). P (x, one.1)) (sym same) (All-head P one sets all);
        }

-- no device of a new transaction did anything for it yet
abbrev pub admitted_shadow : (ℕ → Shadow) → List ℕ → ℕ → ℕ → Shadow
admitted_shadow shadow devices t device =
    record { clear = cond (list_any (nat_eq device) devices) (updated_at (shadow device).clear t false) (shadow device).clear; at = (shadow device).at }

-- what is found

pub record Found (u : ℕ) (xs : List Transaction) (q : Named Call) : Type 0 where
  pub place : ℕ
  pub x : Transaction
  pub there : slice_get xs place ≡ Some x
  pub preparing : is_preparing x.phase ≡ true
  pub number : x.t ≡ u
  pub plan : plan_of x ≡ q

found : (u : ℕ) (xs : List Transaction) (q : Named Call) → option_map plan_of (find (is_of u) xs) ≡ Some q → Found u xs q
found u [] q e = absurd cc
found u (x ∷ xs) q e = on (is_of u x) refl e (λ h. found u xs q h)
  where
    parts : (a b : Bool) → (a && b) ≡ true → (a ≡ true) × (b ≡ true)
    parts true b h = (refl, h)
    parts false b h = absurd (false≢true h)

    on : (b : Bool) → is_of u x ≡ b → option_map plan_of (cond b (Some x) (find (is_of u) xs)) ≡ Some q
        → (option_map plan_of (find (is_of u) xs) ≡ Some q → Found u xs q) → Found u (x ∷ xs) q
    on true is e' rest =
        let so = parts (nat_eq x.t u) (is_preparing x.phase) is in
        record { place = zero; x = x; there = refl; preparing = so.1; number = eqb-true x.t u so.0; plan = same_Some (plan_of x) q e' }
    on false is e' rest = let f = rest e' in record { place = suc f.place; x = f.x; there = f.there; preparing = f.preparing; number = f.number; plan = f.plan }

-- one more, of another number
found_push : (t : ℕ) (b : Transaction) → b.t ≡ t → is_preparing b.phase ≡ true → (xs : List Transaction)
    → ((place : ℕ) (x : Transaction) → slice_get xs place ≡ Some x → nat_eq x.t t ≡ false) → (u : ℕ)
    → updated_at (λ v. option_map plan_of (find (is_of v) xs)) t (Some (plan_of b)) u ≡ option_map plan_of (find (is_of u) (xs ++ b ∷ []))
found_push t b number preparing [] apart u = on (nat_eq t u) refl
  where
    on : (c : Bool) → nat_eq t u ≡ c → cond c (Some (plan_of b)) None ≡ option_map plan_of (cond (nat_eq b.t u && is_preparing b.phase) (Some b) None)
    on true e = sym (ap (λ (c : Bool). option_map plan_of (cond (c && is_preparing b.phase) (Some b) None)) (ap (λ (n : ℕ). nat_eq n u) number ∙ e)
        ∙ ap (λ (c : Bool). option_map plan_of (cond c (Some b) None)) preparing)
    on false e = sym (ap (λ (c : Bool). option_map plan_of (cond (c && is_preparing b.phase) (Some b) None)) (ap (λ (n : ℕ). nat_eq n u) number ∙ e))
found_push t b number preparing (x ∷ xs) apart u =
    on (nat_eq t u) refl (is_of u x) refl (found_push t b number preparing xs (λ place y there. apart (suc place) y there) u)
  where
    on : (c : Bool) → nat_eq t u ≡ c → (d : Bool) → is_of u x ≡ d
        → updated_at (λ v. option_map plan_of (find (is_of v) xs)) t (Some (plan_of b)) u ≡ option_map plan_of (find (is_of u) (xs ++ b ∷ []))
        → cond c (Some (plan_of b)) (option_map plan_of (cond d (Some x) (find (is_of u) xs))) ≡ option_map plan_of (cond d (Some x) (find (is_of u) (xs ++ b ∷ [])))
    on true e true is rest =
        let not_u : nat_eq x.t u ≡ false = ap (nat_eq x.t) (sym (eqb-true t u e)) ∙ apart zero x refl in
        absurd (false≢true (sym (ap (λ (c : Bool). c && is_preparing x.phase) not_u) ∙ is))
    on true e false is rest = ap (λ (c : Bool). cond c (Some (plan_of b)) (option_map plan_of (find (is_of u) xs))) (sym e) ∙ rest
    on false e true is rest = refl
    on false e false is rest = ap (λ (c : Bool). cond c (Some (plan_of b)) (option_map plan_of (find (is_of u) xs))) (sym e) ∙ rest

-- devices that are stale

stale_none : (devices : List ℕ) (stale : List (Option Why)) (device : ℕ) → first_stale devices stale ≡ None → list_any (nat_eq device) devices ≡ true → stale_one device stale ≡ None
stale_none [] stale device none among = absurd (false≢true among)
stale_none (x ∷ xs) stale device none among =
    on (nat_eq device x) refl among (or_none (stale_one x stale) (first_stale xs stale) none) (λ a h. stale_none xs stale device a h)
  where
    or_none : (a b : Option Answer) → option_or a b ≡ None → (a ≡ None) × (b ≡ None)
    or_none None b e = (refl, e)
    or_none (Some y) b e = cc

    on : (b : Bool) → nat_eq device x ≡ b → (b || list_any (nat_eq device) xs) ≡ true → (stale_one x stale ≡ None) × (first_stale xs stale ≡ None)
        → (first_stale xs stale ≡ None → list_any (nat_eq device) xs ≡ true → stale_one device stale ≡ None) → stale_one device stale ≡ None
    on true e h so rest = subst (λ (y : ℕ). stale_one y stale ≡ None) (sym (eqb-true device x e)) so.0
    on false e h so rest = rest so.1 h

-- two that fit share no device
any_flip : (device : ℕ) (xs : List ℕ) → list_any (nat_eq device) xs ≡ true → list_any (λ it. it == device) xs ≡ true
any_flip device [] h = h
any_flip device (x ∷ xs) h = on (nat_eq device x) refl h (λ h'. any_flip device xs h')
  where
    or_left : (a b : Bool) → a ≡ true → (a || b) ≡ true
    or_left true b e = refl
    or_left false b e = absurd (false≢true e)

    or_right : (a b : Bool) → b ≡ true → (a || b) ≡ true
    or_right true b e = refl
    or_right false b e = e

    on : (b : Bool) → nat_eq device x ≡ b → (b || list_any (nat_eq device) xs) ≡ true → (list_any (nat_eq device) xs ≡ true → list_any (λ it. it == device) xs ≡ true)
        → ((x == device) || list_any (λ it. it == device) xs) ≡ true
    on true e h' rest = or_left (x == device) (list_any (λ it. it == device) xs) (eq-eqb x device (sym (eqb-true device x e)))
    on false e h' rest = or_right (x == device) (list_any (λ it. it == device) xs) (rest h')

pub shared_not : (one other : List ℕ) (device : ℕ) → list_all (λ d. not (list_any (λ it. it == d) other)) one ≡ true → list_any (nat_eq device) one ≡ true
    → list_any (nat_eq device) other ≡ true → ⊥
shared_not one other device all here there =
    false≢true (sym (ap not (any_flip device other there)) ∙ all_so (λ d. not (list_any (λ it. it == d) other)) one device all here)

-- a legal history is lawful
pub state_legal : (decls : Decls) (history : List Call) → IsLegal decls history → lawful_state decls history ≡ state_of decls history
state_legal decls history legal = ap (state_of decls) (filter_all (is_call decls) history legal.lawful)

-- one lawful call more
state_push : (decls : Decls) (history : List Call) (call : Call) → is_call decls call ≡ true → lawful_state decls (history ++ call ∷ []) ≡ after decls (lawful_state decls history) call
state_push decls history call is =
    ap (state_of decls) (filter-append (is_call decls) history (call ∷ []) ∙ ap (λ (l : List Call). filter (is_call decls) history ++ l) (one (is_call decls call) is))
    ∙ fold_from-push decls (opening decls) (filter (is_call decls) history) call
  where
    one : (c : Bool) → c ≡ true → cond c (call ∷ []) [] ≡ call ∷ []
    one true h = refl
    one false h = absurd (false≢true h)

module _ (decls : Decls) (are_decls : AreDecls decls) (plans : PlanStands) (kinds : ℕ → DeviceKind) (are : (device : ℕ) → IsOfHub (kinds device))
    (lawful : (device : ℕ) → IsLawful (kinds device) (over decls device)) (planning : Planning (over decls) (StandsAt decls) (FitAt decls) (ValidAt decls))
    (shadow : ℕ → Shadow) (entries : List Entry) (hub : Hub) (nodes : ℕ → NodeState) (links : ℕ → Link)
    (own : UnderHub decls shadow entries hub.active hub.duties hub.stale hub.mends links) (kept : NetworkKept decls (network_of decls shadow entries (Some hub) nodes links))
    (admitted : EachPreparing (IsAdmitted decls (history_of entries)) hub.active) (legal : IsLegal decls (history_of entries))
    (it : Waiting) (sets : List (ℕ × ChangeSet)) (since : ℕ) (unused : IsUnnamed entries it.t) (idle : hub.mends ≡ None)
    (fits : All (λ other. FitTogether it.plan.held other.plan.held) hub.active) (passes : Passes decls (history_of entries) it.call it.plan sets)
    (lawful_call : is_call decls it.call ≡ true) (fresh : first_stale it.plan.held.devices hub.stale ≡ None) where
  abbrev t : ℕ
  t = it.t

  abbrev now : Told
  now = told_by entries

  abbrev e : Entry
  e = intent_entry it

  abbrev b : Transaction
  b = transaction_begun since it

  abbrev p : Named Call
  p = named_call it.call it.plan.held.devices

  abbrev noted : Noted Call
  noted = record { plan = p; base = now.history }

  abbrev duties' : List Duty
  duties' = started t sets hub.duties

  abbrev shadow' : ℕ → Shadow
  shadow' = admitted_shadow shadow it.plan.held.devices it.t

  abbrev next : Told
  next = record now { intents = updated_at now.intents t (Some noted) }

  abbrev net : Network Call
  net = network_of decls shadow entries (Some hub) nodes links

  history_is : now.history ≡ history_of entries
  history_is = told_history entries

  state_is : lawful_state decls now.history ≡ state_of decls (history_of entries)
  state_is = ap (lawful_state decls) history_is ∙ state_legal decls (history_of entries) legal

  mends_none : (device : ℕ) (mender : MenderState) → duty_on hub.duties device ≡ duty.Mends mender → ⊥
  mends_none = subst (λ (m : Option (Option RecFault)). MendingKept decls entries hub.active hub.duties hub.stale m) idle own.mending

  -- nobody works on a device of it
  over_of : (device : ℕ) (worker : Worker) → list_any (nat_eq device) it.plan.held.devices ≡ true → duty_on hub.duties device ≡ duty.Works worker → is_over worker.stage ≡ true
  over_of device worker named is = on (is_over worker.stage) refl
    where
      on : (c : Bool) → is_over worker.stage ≡ c → is_over worker.stage ≡ true
      on true h = h
      on false h =
          let o = own.owned device worker is h in
          absurd (shared_not it.plan.held.devices o.it.plan.held.devices device
          (All-at (λ other. FitTogether it.plan.held other.plan.held) hub.active o.place o.it fits o.there).devices named o.names)

  pub none_unheard : (device : ℕ) → list_any (nat_eq device) it.plan.held.devices ≡ true → (links device).unheard ≡ None
  none_unheard device named = on (links device).unheard refl
    where
      by_duty : (on : Duty) → duty_on hub.duties device ≡ on → is_busy on ≡ false
      by_duty duty.Free is = refl
      by_duty (duty.Mends mender) is = absurd (mends_none device mender is)
      by_duty (duty.Works worker) is = not_due worker.stage (over_of device worker named is)
        where
          not_due : (st : Stage) → is_over st ≡ true → is_due st ≡ false
          not_due stage.Over h = refl
          not_due st h = absurd (false≢true h)

      on : (u : Option (OpKind × Reply)) → (links device).unheard ≡ u → (links device).unheard ≡ None
      on None h = h
      on (Some one) h = absurd (false≢true (sym (by_duty (duty_on hub.duties device) refl) ∙ own.due device one h))

  free_of : (device : ℕ) → list_any (nat_eq device) it.plan.held.devices ≡ true → role_on decls shadow entries (Some hub) device (links device) ≡ Free
  free_of device named =
      ap (λ (u : Option (OpKind × Reply)). role_of (over decls device) now device (then_heard u (links device).faults (duty_on hub.duties device))) (none_unheard device named)
      ∙ by_duty (duty_on hub.duties device) refl
    where
      by_duty : (on : Duty) → duty_on hub.duties device ≡ on → role_of (over decls device) now device on ≡ Free
      by_duty duty.Free is = refl
      by_duty (duty.Mends mender) is = absurd (mends_none device mender is)
      by_duty (duty.Works worker) is = shown (intent_seen (over decls device) device worker.t (now.intents worker.t)) (over_of device worker named is)
        where
          shown : (s : Option (Intent Call)) → is_over worker.stage ≡ true → works_at s worker.stage ≡ Free
          shown None h = refl
          shown (Some o) h = ap (λ (c : Bool). cond c Free (Works o worker.stage)) h

  -- its devices are declared, and not stale
  within : (device : ℕ) → list_any (nat_eq device) it.plan.held.devices ≡ true → nat_lt device (length decls.names) ≡ true
  within device named =
      started_in sets passes.within (ap (λ (ds : List ℕ). list_any (nat_eq device) ds) passes.devices ∙ named)
    where
      on : (one : ℕ × ChangeSet) (ss : List (ℕ × ChangeSet)) → one.0 < length decls.names → (c : Bool) → nat_eq device one.0 ≡ c
          → (c || list_any (nat_eq device) (devices_of ss)) ≡ true → (list_any (nat_eq device) (devices_of ss) ≡ true → nat_lt device (length decls.names) ≡ true)
          → nat_lt device (length decls.names) ≡ true
      on one ss below true is h rest = ap (λ (n : ℕ). nat_lt n (length decls.names)) (eqb-true device one.0 is) ∙ lt-ltb one.0 (length decls.names) below
      on one ss below false is h rest = rest h

      started_in : (ss : List (ℕ × ChangeSet)) → All (λ one. one.0 < length decls.names) ss → list_any (nat_eq device) (devices_of ss) ≡ true → nat_lt device (length decls.names) ≡ true
      started_in [] all h = absurd (false≢true h)
      started_in (one ∷ ss) all h =
          on one ss (All-head (λ one. one.0 < length decls.names) one ss all) (nat_eq device one.0) refl h
          (λ h'. started_in ss (All-tail (λ one. one.0 < length decls.names) one ss all) h')

  slot_of : (device : ℕ) → list_any (nat_eq device) it.plan.held.devices ≡ true → slice_get hub.stale device ≡ Some None
  slot_of device named =
      let slot = get_in hub.stale device (length decls.names) own.stale_sized (within device named) in
      slot.1 ∙ ap Some (fresh_slot slot.0 slot.1 (stale_none it.plan.held.devices hub.stale device fresh named))
    where
      fresh_slot : (w : Option Why) → slice_get hub.stale device ≡ Some w → stale_one device hub.stale ≡ None → w ≡ None
      fresh_slot None is h = refl
      fresh_slot (Some why) is h = absurd (let no : ◌≡◌ {A = Option Answer} (Some (answer.OutOfSync device why)) None =
          sym (ap (λ (s : Option (Option Why)). option_map_or (option_map (λ y. answer.OutOfSync device y)) s None) is) ∙ h in cc)

  same_slot : (device : ℕ) (on : Duty) (u : Option (OpKind × Reply)) → u ≡ None → is_stale (option_map (stale_then u (links device).faults on) (slice_get hub.stale device)) ≡ is_stale (slice_get hub.stale device)
  same_slot device on u none = ap (λ (v : Option (OpKind × Reply)). is_stale (option_map (stale_then v (links device).faults on) (slice_get hub.stale device))) none ∙ kept_slot (slice_get hub.stale device)
    where
      kept_slot : (s : Option (Option Why)) → is_stale (option_map (stale_then None (links device).faults on) s) ≡ is_stale s
      kept_slot None = refl
      kept_slot (Some w) = refl

  fresh_of : (device : ℕ) → list_any (nat_eq device) it.plan.held.devices ≡ true → stale_on decls shadow entries (Some hub) device (links device) ≡ false
  fresh_of device named = same_slot device (duty_on hub.duties device) (links device).unheard (none_unheard device named) ∙ ap is_stale (slot_of device named)

  -- its workers

  abbrev Exact : ℕ × ChangeSet → Type 0
  Exact one = IsSetOf decls (history_of entries) it.call one

  pub starts : (device : ℕ) → list_any (nat_eq device) it.plan.held.devices ≡ true → Starts t device sets Exact (duty_on duties' device)
  starts device named =
      started_at t Exact sets hub.duties device (ap (λ (n : ℕ). nat_lt device n) own.duties_sized ∙ within device named) passes.exact
      (ap (λ (ds : List ℕ). list_any (nat_eq device) ds) passes.devices ∙ named)

  pub others : (device : ℕ) → list_any (nat_eq device) it.plan.held.devices ≡ false → duty_on duties' device ≡ duty_on hub.duties device
  others device unnamed = started_other t sets hub.duties device (ap (λ (ds : List ℕ). list_any (nat_eq device) ds) passes.devices ∙ unnamed)

  apart : (place : ℕ) (x : Transaction) → slice_get hub.active place ≡ Some x → nat_eq x.t t ≡ false
  apart place x there = ne_eqb x.t t (λ same. named_by x.t t entries (own.intent place x there) unused same)

  -- the network

  stands_now : StandsAt decls now.history p
  stands_now = record {
    lawful = lawful_call;
    plan = it.plan;
    stands = subst (λ (s : Datastore). StandsOn decls s it.call it.plan) (sym state_is) passes.stands;
    names = λ device. refl;
  }

  fits_now : (u : ℕ) (q : Named Call) → active_under (Some hub) u ≡ Some q → FitAt decls now.history p q
  fits_now u q found_q =
      let f = found u hub.active q found_q in
      let theirs : call_held decls (lawful_state decls now.history) f.x.call ≡ f.x.plan.held =
      ap (λ (s : Datastore). call_held decls s f.x.call) state_is ∙ (still_stands plans decls (history_of entries) f.x are_decls (admitted f.place f.x f.there f.preparing)).held in
      let mine : call_held decls (lawful_state decls now.history) it.call ≡ it.plan.held = ap (λ (s : Datastore). call_held decls s it.call) state_is ∙ passes.stands.held in
      subst (λ (y : Named Call). FitAt decls now.history p y) f.plan
      (subst (λ (h : Held). FitTogether h (call_held decls (lawful_state decls now.history) f.x.call)) (sym mine)
      (subst (λ (h : Held). FitTogether it.plan.held h) (sym theirs)
      (All-at (λ other. FitTogether it.plan.held other.plan.held) hub.active f.place f.x fits f.there)))

  abbrev hub' : Hub
  hub' = record hub { active = hub.active ++ b ∷ []; duties = duties' }

  here : (device : ℕ) (n : Bool) → list_any (nat_eq device) it.plan.held.devices ≡ n
      → admitted_local (over decls device) (cell (over decls) net device) t it.call n ≡ (net_at decls shadow' next hub' nodes links).locals device
  here device true named =
      let s = starts device named in
      ap (λ (r : DeviceRole Call). record x { role = r }) (sym (role_now s.set s.is))
      ∙ ap (λ (c : Bool). record x { role = ((net_at decls shadow' next hub' nodes links).locals device).role; stale = c }) stale_now
      ∙ ap (λ (c : Bool). record x {
        role = ((net_at decls shadow' next hub' nodes links).locals device).role;
        stale = ((net_at decls shadow' next hub' nodes links).locals device).stale;
        clear = cond c (updated_at (shadow device).clear t false) (shadow device).clear;
      }) (sym named)
    where
      x : Local Call
      x = admitted_local (over decls device) (cell (over decls) net device) t it.call true

      o : Intent Call
      o = record { t = t; call = it.call; before = over decls device now.history; due = over decls device (now.history ++ it.call ∷ []) }

      seen_now : intent_seen (over decls device) device t (next.intents t) ≡ Some o
      seen_now = ap (intent_seen (over decls device) device t) (given_at now.intents t (Some noted)) ∙ by (list_any (nat_eq device) it.plan.held.devices) named
        where
          by : (n : Bool) → n ≡ true → seen_plan (over decls device) t noted n ≡ Some o
          by true h = refl
          by false h = absurd (false≢true h)

      role_now : (set : ChangeSet) → duty_on duties' device ≡ duty.Works (new_worker t set)
          → ((net_at decls shadow' next hub' nodes links).locals device).role ≡ Works o stage.Opening
      role_now set is =
          ap (λ (u : Option (OpKind × Reply)). role_of (over decls device) next device (then_heard u (links device).faults (duty_on duties' device))) (none_unheard device named)
          ∙ ap (λ (d : Duty). role_of (over decls device) next device d) is ∙ ap (λ (s : Option (Intent Call)). works_at s stage.Opening) seen_now

      stale_now : stale_on decls shadow entries (Some hub) device (links device) ≡ ((net_at decls shadow' next hub' nodes links).locals device).stale
      stale_now =
          same_slot device (duty_on hub.duties device) (links device).unheard (none_unheard device named)
          ∙ sym (same_slot device (duty_on duties' device) (links device).unheard (none_unheard device named))
  here device false unnamed =
      ap (λ (r : DeviceRole Call). record x { role = r }) role_now
      ∙ ap (λ (d : Duty). record x { role = ((net_at decls shadow' next hub' nodes links).locals device).role; stale = is_stale (option_map (stale_then (links device).unheard (links device).faults d) (slice_get hub.stale device)) }) (sym (others device unnamed))
      ∙ ap (λ (c : Bool). record x {
        role = ((net_at decls shadow' next hub' nodes links).locals device).role;
        stale = ((net_at decls shadow' next hub' nodes links).locals device).stale;
        clear = cond c (updated_at (shadow device).clear t false) (shadow device).clear;
      }) (sym unnamed)
    where
      x : Local Call
      x = admitted_local (over decls device) (cell (over decls) net device) t it.call false

      -- a worker's intent is another one, or it has ended
      worker_so : (worker : Worker) → duty_on hub.duties device ≡ duty.Works worker → (u : Option (OpKind × Reply)) → (links device).unheard ≡ u
          → works_at (intent_seen (over decls device) device worker.t (now.intents worker.t)) (HeardStage u worker.stage)
          ≡ works_at (intent_seen (over decls device) device worker.t (next.intents worker.t)) (HeardStage u worker.stage)
      worker_so worker is u heard = on (is_over worker.stage) refl
        where
          shown : (s : Option (Intent Call)) → is_over worker.stage ≡ true → works_at s worker.stage ≡ Free
          shown None h = refl
          shown (Some q) h = ap (λ (c : Bool). cond c Free (Works q worker.stage)) h

          quiet : is_over worker.stage ≡ true → (v : Option (OpKind × Reply)) → (links device).unheard ≡ v → v ≡ None
          quiet h None heard' = refl
          quiet h (Some one) heard' = absurd (false≢true (sym (due_not_over worker.stage (sym (ap is_busy is) ∙ own.due device one heard')) ∙ h))

          on : (c : Bool) → is_over worker.stage ≡ c → works_at (intent_seen (over decls device) device worker.t (now.intents worker.t)) (HeardStage u worker.stage)
              ≡ works_at (intent_seen (over decls device) device worker.t (next.intents worker.t)) (HeardStage u worker.stage)
          on true h =
              subst (λ (v : Option (OpKind × Reply)). works_at (intent_seen (over decls device) device worker.t (now.intents worker.t)) (HeardStage v worker.stage)
              ≡ works_at (intent_seen (over decls device) device worker.t (next.intents worker.t)) (HeardStage v worker.stage)) (sym (quiet h u heard))
              (shown (intent_seen (over decls device) device worker.t (now.intents worker.t)) h ∙ sym (shown (intent_seen (over decls device) device worker.t (next.intents worker.t)) h))
          on false h =
              let q = own.owned device worker is h in
              let not_t : nat_eq t worker.t ≡ false = flip worker.t t false (ap (λ (n : ℕ). nat_eq n t) (sym q.number) ∙ apart q.place q.it q.there) in
              ap (λ (n : Option (Noted Call)). works_at (intent_seen (over decls device) device worker.t n) (HeardStage u worker.stage)) (sym (given_other now.intents t (Some noted) worker.t not_t))

      by_duty : (on : Duty) → duty_on hub.duties device ≡ on → (u : Option (OpKind × Reply)) → (links device).unheard ≡ u → (f : ℕ)
          → role_of (over decls device) now device (then_heard u f on) ≡ role_of (over decls device) next device (then_heard u f on)
      by_duty duty.Free is None heard f = refl
      by_duty duty.Free is (Some one) heard f = refl
      by_duty (duty.Mends mender) is u heard f = absurd (mends_none device mender is)
      by_duty (duty.Works worker) is None heard f = worker_so worker is None heard
      by_duty (duty.Works worker) is (Some one) heard f = worker_so worker is (Some one) heard

      role_now : role_on decls shadow entries (Some hub) device (links device) ≡ ((net_at decls shadow' next hub' nodes links).locals device).role
      role_now =
          by_duty (duty_on hub.duties device) refl (links device).unheard refl (links device).faults
          ∙ ap (λ (d : Duty). role_of (over decls device) next device (then_heard (links device).unheard (links device).faults d)) (sym (others device unnamed))

  pub admits_keep : NetworkKept decls (network_of decls shadow' (entries ++ e ∷ []) (Some hub') nodes links)
  admits_keep =
      subst (λ (y : Told). NetworkKept decls (net_at decls shadow' y hub' nodes links)) (sym (told_push entries e))
      (subst (λ (a : ℕ → Option (Named Call)). NetworkKept decls (record (net_at decls shadow' next hub' nodes links) { active = a }))
      (fun_ext (λ u. found_push t b refl refl hub.active apart u))
      (subst (λ (l : ℕ → Local Call). NetworkKept decls (record (net_at decls shadow' next hub' nodes links) { active = updated_at (active_under (Some hub)) t (Some p); locals = l }))
      (fun_ext (λ device. here device (list_any (nat_eq device) it.plan.held.devices) refl))
      (happening decls kinds are lawful planning net (Admits t p) kept (record {
        stands = stands_now;
        fits = fits_now;
        ready = λ device named. (free_of device named, fresh_of device named);
        unused = (unnamed_told t entries unused).0;
        unplaced = (unnamed_told t entries unused).1;
      }))))

  -- what is kept of the work on devices

  abbrev active' : List Transaction
  active' = hub.active ++ b ∷ []

  last_is : slice_get active' (length hub.active) ≡ Some b
  last_is = at_end hub.active
    where
      at_end : (xs : List Transaction) → slice_get (xs ++ b ∷ []) (length xs) ≡ Some b
      at_end [] = refl
      at_end (x ∷ xs) = at_end xs

  in_front : (place : ℕ) (x : Transaction) → slice_get hub.active place ≡ Some x → slice_get active' place ≡ Some x
  in_front place x there = front hub.active place there
    where
      front : (xs : List Transaction) (i : ℕ) → slice_get xs i ≡ Some x → slice_get (xs ++ b ∷ []) i ≡ Some x
      front [] i h = absurd (let no : ◌≡◌ {A = Option Transaction} None (Some x) = h in cc)
      front (y ∷ ys) zero h = h
      front (y ∷ ys) (suc i) h = front ys i h

  intent_of_other : (n : ℕ) → nat_eq n t ≡ false → (told_by (entries ++ e ∷ [])).intents n ≡ now.intents n
  intent_of_other n apart' = ap (λ (y : Told). y.intents n) (told_push entries e) ∙ given_other now.intents t (Some noted) n (flip n t false apart')

  intent_of_mine : (told_by (entries ++ e ∷ [])).intents t ≡ Some noted
  intent_of_mine = ap (λ (y : Told). y.intents t) (told_push entries e) ∙ given_at now.intents t (Some noted)

  -- what a device's worker is: a new one, or one that was there
  pub record IsNew (device : ℕ) (worker : Worker) : Type 0 where
    pub named : list_any (nat_eq device) it.plan.held.devices ≡ true
    pub set : ChangeSet
    pub is : worker ≡ new_worker t set
    pub so : Exact (device, set)

  works_of : (device : ℕ) (worker : Worker) → duty_on duties' device ≡ duty.Works worker
      → IsNew device worker ⊎ ((list_any (nat_eq device) it.plan.held.devices ≡ false) × (duty_on hub.duties device ≡ duty.Works worker))
  works_of device worker is = on (list_any (nat_eq device) it.plan.held.devices) refl
    where
      on : (n : Bool) → list_any (nat_eq device) it.plan.held.devices ≡ n
          → IsNew device worker ⊎ ((list_any (nat_eq device) it.plan.held.devices ≡ false) × (duty_on hub.duties device ≡ duty.Works worker))
      on true named =
          let s = starts device named in
          let same : duty.Works worker ≡ duty.Works (new_worker t s.set) = sym is ∙ s.is in
          inl (record { named = named; set = s.set; is = cc; so = s.so })
      on false unnamed = inr (unnamed, sym (others device unnamed) ∙ is)

  set_so : (device : ℕ) (set : ChangeSet) → list_any (nat_eq device) it.plan.held.devices ≡ true → Exact (device, set)
      → set ≡ differences (over decls device now.history) (over decls device (now.history ++ it.call ∷ []))
  set_so device set named exact =
      same_changes set (difference (over decls device now.history) (over decls device (now.history ++ it.call ∷ [])))
      (exact ∙ ap (λ (c : Config). difference c (tree_due (after decls (state_of decls (history_of entries)) it.call) device)) (sym due_before)
      ∙ ap (λ (c : Config). difference (over decls device now.history) c) (sym due_behind))
    where
      same_changes : (s : ChangeSet) (cs : List Change) → s.changes ≡ cs → s ≡ record { changes = cs }
      same_changes s cs h = ap (λ (l : List Change). record { changes = l }) h

      due_at : (s : Datastore) → cond (nat_lt device (length decls.names)) (tree_due s device) empty ≡ tree_due s device
      due_at s = ap (λ (c : Bool). cond c (tree_due s device) empty) (within device named)

      due_before : over decls device now.history ≡ tree_due (state_of decls (history_of entries)) device
      due_before = due_at (lawful_state decls now.history) ∙ ap (λ (s : Datastore). tree_due s device) state_is

      due_behind : over decls device (now.history ++ it.call ∷ []) ≡ tree_due (after decls (state_of decls (history_of entries)) it.call) device
      due_behind =
          due_at (lawful_state decls (now.history ++ it.call ∷ []))
          ∙ ap (λ (s : Datastore). tree_due s device) (state_push decls now.history it.call lawful_call ∙ ap (λ (s : Datastore). after decls s it.call) state_is)

  owned_new : (device : ℕ) (worker : Worker) → IsNew device worker → IsOwned decls (entries ++ e ∷ []) active' device worker
  owned_new device worker new = record {
    place = length hub.active;
    it = b;
    there = last_is;
    number = sym (ap (λ (w : Worker). w.t) new.is);
    under_way = refl;
    names = new.named;
    noted = noted;
    known = ap (told_by (entries ++ e ∷ [])).intents (ap (λ (w : Worker). w.t) new.is) ∙ intent_of_mine;
    plan = refl;
    set = ap (λ (w : Worker). w.set) new.is ∙ set_so device new.set new.named new.so;
  }

  owned_old : (device : ℕ) (worker : Worker) → IsOwned decls entries hub.active device worker → IsOwned decls (entries ++ e ∷ []) active' device worker
  owned_old device worker o = record {
    place = o.place;
    it = o.it;
    there = in_front o.place o.it o.there;
    number = o.number;
    under_way = o.under_way;
    names = o.names;
    noted = o.noted;
    known = intent_of_other worker.t (ap (λ (n : ℕ). nat_eq n t) (sym o.number) ∙ apart o.place o.it o.there) ∙ o.known;
    plan = o.plan;
    set = o.set;
  }

  clear_new : (device : ℕ) (worker : Worker) → IsNew device worker → is_clear worker.outcome ≡ true → ⊥
  clear_new device worker new h = false≢true (sym (ap (λ (w : Worker). is_clear w.outcome) new.is) ∙ h)

  clear_kept : (device : ℕ) (n : ℕ) → list_any (nat_eq device) it.plan.held.devices ≡ false → (shadow device).clear n ≡ true → (shadow' device).clear n ≡ true
  clear_kept device n unnamed h = ap (λ (c : Bool). cond c (updated_at (shadow device).clear t false) (shadow device).clear n) unnamed ∙ h

  clear_other : (device : ℕ) (n : ℕ) → nat_eq n t ≡ false → (shadow device).clear n ≡ true → (shadow' device).clear n ≡ true
  clear_other device n apart' h = on (list_any (nat_eq device) it.plan.held.devices)
    where
      on : (c : Bool) → cond c (updated_at (shadow device).clear t false) (shadow device).clear n ≡ true
      on true = given_other (shadow device).clear t false n (flip n t false apart') ∙ h
      on false = h

  pub admits_under : UnderHub decls shadow' (entries ++ e ∷ []) active' duties' hub.stale hub.mends links
  admits_under = record {
    duties_sized = started_length t sets hub.duties ∙ own.duties_sized;
    stale_sized = own.stale_sized;
    due = λ device one h. due_so device one h (list_any (nat_eq device) it.plan.held.devices) refl;
    agree = λ device worker is. ⊎_elim
        (λ new. subst (λ (w : Worker). agrees w.stage w.outcome ≡ true) (sym new.is) refl)
        (λ old. own.agree device worker old.1) (works_of device worker is);
    worked = λ device worker is. ⊎_elim
        (λ new. subst (λ (w : Worker). HasIntent (entries ++ e ∷ []) w.t) (sym new.is) (it.call, it.plan.held.devices, Contains-push entries e))
        (λ old. intent_push worker.t entries e (own.worked device worker old.1)) (works_of device worker is);
    owned = λ device worker is goes. ⊎_elim
        (λ new. owned_new device worker new)
        (λ old. owned_old device worker (own.owned device worker old.1 goes)) (works_of device worker is);
    before = λ place x there h device worker is same. ⊎_elim
        (λ new. subst (λ (w : Worker). stands_undecided w.stage w.outcome ≡ true) (sym new.is) refl)
        (λ old. ⊎_elim
        (λ was. own.before place x was h device worker old.1 same)
        (λ last. before_over device worker old.1 (same ∙ ap (λ (a : Transaction). a.t) (sym last.1)))
        (push_cases hub.active b place x there)) (works_of device worker is);
    noted = λ place x there h. ⊎_elim
        (λ was. let known = own.noted place x was h in (known.0, intent_of_other x.t (apart place x was) ∙ known.1, known.2))
        (λ last. (noted, ap (told_by (entries ++ e ∷ [])).intents (ap (λ (a : Transaction). a.t) (sym last.1)) ∙ intent_of_mine, ap plan_of last.1))
        (push_cases hub.active b place x there);
    numbers = λ i j x y there there' same. ⊎_elim
        (λ was. ⊎_elim
        (λ was'. own.numbers i j x y was was' same)
        (λ last'. absurd (false≢true (sym (apart i x was) ∙ eq-eqb x.t t (same ∙ ap (λ (a : Transaction). a.t) (sym last'.1)))))
        (push_cases hub.active b j y there'))
        (λ last. ⊎_elim
        (λ was'. absurd (false≢true (sym (apart j y was') ∙ eq-eqb y.t t (sym same ∙ ap (λ (a : Transaction). a.t) (sym last.1)))))
        (λ last'. last.0 ∙ sym last'.0)
        (push_cases hub.active b j y there')) (push_cases hub.active b i x there);
    intent = λ place x there. ⊎_elim
        (λ was. intent_push x.t entries e (own.intent place x was))
        (λ last. subst (λ (a : Transaction). HasIntent (entries ++ e ∷ []) a.t) last.1 (it.call, it.plan.held.devices, Contains-push entries e))
        (push_cases hub.active b place x there);
    clear = λ device worker is h. clear_so device worker h (links device).unheard refl is;
    settling = λ place x there h device n known named. ⊎_elim
        (λ was. clear_other device x.t (apart place x was) (own.settling place x was h device n (sym (intent_of_other x.t (apart place x was)) ∙ known) named))
        (λ last. absurd (false≢true (ap (λ (a : Transaction). is_settling a.phase) last.1 ∙ h)))
        (push_cases hub.active b place x there);
    mending = subst (λ (m : Option (Option RecFault)). MendingKept decls (entries ++ e ∷ []) active' duties' hub.stale m) (sym idle) no_menders;
  }
    where
      due_so : (device : ℕ) (one : OpKind × Reply) → (links device).unheard ≡ Some one → (n : Bool) → list_any (nat_eq device) it.plan.held.devices ≡ n → is_busy (duty_on duties' device) ≡ true
      due_so device one h true named = ap is_busy (starts device named).is
      due_so device one h false unnamed = ap is_busy (others device unnamed) ∙ own.due device one h

      -- an old worker of the new number: there is none, but one that has ended
      before_over : (device : ℕ) (worker : Worker) → duty_on hub.duties device ≡ duty.Works worker → worker.t ≡ t → stands_undecided worker.stage worker.outcome ≡ true
      before_over device worker is same = absurd (named_by worker.t t entries (own.worked device worker is) unused same)

      clear_so : (device : ℕ) (worker : Worker) → is_clear worker.outcome ≡ true → (u : Option (OpKind × Reply)) → (links device).unheard ≡ u
          → then_heard u (links device).faults (duty_on duties' device) ≡ duty.Works worker → (shadow' device).clear worker.t ≡ true
      clear_so device worker h None heard is = ⊎_elim
          (λ new. absurd (clear_new device worker new h))
          (λ old. clear_kept device worker.t old.0
          (own.clear device worker (ap (λ (v : Option (OpKind × Reply)). then_heard v (links device).faults (duty_on hub.duties device)) heard ∙ old.1) h))
          (works_of device worker is)
      clear_so device worker h (Some one) heard is = on (list_any (nat_eq device) it.plan.held.devices) refl
        where
          on : (n : Bool) → list_any (nat_eq device) it.plan.held.devices ≡ n → (shadow' device).clear worker.t ≡ true
          on true named = absurd (let no : ◌≡◌ {A = Option (OpKind × Reply)} (Some one) None = sym heard ∙ none_unheard device named in cc)
          on false unnamed = clear_kept device worker.t unnamed
              (own.clear device worker
              (ap (λ (v : Option (OpKind × Reply)). then_heard v (links device).faults (duty_on hub.duties device)) heard
              ∙ ap (λ (d : Duty). then_heard (Some one) (links device).faults d) (sym (others device unnamed)) ∙ is) h)

      no_menders : (device : ℕ) (mender : MenderState) → duty_on duties' device ≡ duty.Mends mender → ⊥
      no_menders device mender is = on (list_any (nat_eq device) it.plan.held.devices) refl
        where
          on : (n : Bool) → list_any (nat_eq device) it.plan.held.devices ≡ n → ⊥
          on true named = let s = starts device named in let no : duty.Works (new_worker t s.set) ≡ duty.Mends mender = sym s.is ∙ is in cc
          on false unnamed = mends_none device mender (sym (others device unnamed) ∙ is)
