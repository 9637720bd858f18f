-- What no turn of a run does to devices and to the history.
use Rattle.std.proofs.Common.{◌≡◌, ◌≢◌, ◌⊎◌, ℕ, zero, suc, ◌+◌, Bool, true, false, cond, map, nat_eq, Option, Some, None, List, [], ◌∷◌, ◌++◌, Contains, inl, inr, refl, sym, ap, subst, ◌∙◌, eqb-true, eq-eqb, arith}
use Rattle.std.specs.Prelude.{length, slice_get}
use Rattle.std.specs.Option.{option_map_or}
use Rattle.std.proofs.lemmas.Bool.{false≢true}
use Rattle.std.proofs.lemmas.Option.{same_Some}
use Rattle.std.proofs.lemmas.List.Elements.{All-head, All-tail}
use Rattle.orc_call.specs.declared.call.Call.{Call}
use Rattle.orc_datastore.specs.Legal.{AreDistinct, IsNew, IsSame}
use Rattle.orc_device.specs.Nodes.{PendingCommit, dropped, restarted, reverted_by, ticked_by}
use Rattle.orc_device.specs.declared.kind.OpKind.{OpKind}
use Rattle.orc_device.specs.declared.op.Op.{Op}
use Rattle.orc_device.specs.declared.op.Op.TheVariants as op
use Rattle.orc_device.specs.declared.reply.Mark.{Mark}
use Rattle.orc_device.specs.declared.reply.Reply.{Reply}
use Rattle.orc_journal.specs.declared.entry.Entry.{Entry}
use Rattle.orc_journal.specs.declared.entry.Entry.TheVariants as entry
use Rattle.orc_path.specs.Configurations.{Config}
use Rattle.orc_recover.specs.Menders.{MenderState, differences, mend_order, mender_order}
use Rattle.orc_call.specs.declared.answer.RecFault.{RecFault}
use Rattle.orc_tree.specs.declared.change.ChangeSet.{ChangeSet}
use Rattle.orc_device.specs.Links.{way_node}
use Rattle.orc_rules.specs.Agreement.{left_of, mend_stage_of, mender_of, with_decisions}
use Rattle.orc_rules.specs.Cells.{DeviceRole, due_op}
use Rattle.orc_rules.specs.Cells.DeviceRole.{Free, Works, Mends}
use Rattle.orc_rules.specs.Duties.{duty_order}
use Rattle.orc_rules.specs.Events.{Comes, DoesAnyway, DoesUnderHub, Steps, Turn}
use Rattle.orc_rules.specs.Facts.{pending_id}
use Rattle.orc_rules.specs.Hubs.{Hub, duty_on, order_on}
use Rattle.orc_rules.specs.Invariant.{RoleFacts}
use Rattle.orc_rules.specs.Journals.{entries_read, history_read}
use Rattle.orc_rules.specs.Kept.{FitAt, HistoryKept, NetworkKept, StandsAt, ValidAt, heard, mend_at, mends_at, network, network_of, role_of, role_on, works_at}
use Rattle.orc_rules.specs.Network.{Network, cell, intent_seen, seen_plan}
use Rattle.orc_rules.specs.Told.{Told, told_by, told_from, told_with}
use Rattle.orc_rules.specs.UnderHub.{Attends, DevicesKept, IsMenderOf, IsOfHub, IsOwned, MendingKept}
use Rattle.orc_rules.specs.Worlds.{Setting, World, over}
use Rattle.orc_rules.specs.Works.{Intent, Mend}
use Rattle.orc_rules.specs.Works.Mend.{Mclosing, Mcommitting, Mediting, MlockingCandidate, MlockingRunning, Mopening, Mresolving, MunlockingCandidate, MunlockingRunning, Mvalidating}
use Rattle.orc_rules.specs.declared.duty.Duty.{Duty}
use Rattle.orc_rules.specs.declared.duty.Duty.TheVariants as duty
use Rattle.orc_rules.specs.declared.event.Event.{Event}
use Rattle.orc_rules.specs.declared.event.Event.TheVariants as event
use Rattle.orc_rules.proofs.Agreeing.{orders_agree}
use Rattle.orc_rules.proofs.Courses.{order_due}
use Rattle.orc_rules.proofs.Legality.{read_so}
use Rattle.orc_rules.proofs.Moving.{due_is}
use Rattle.orc_rules.proofs.Promises.{cancel_undecided, confirm_decided, pends_known}
use Rattle.orc_rules.proofs.Turning.{uncut_read}
use Rattle.orc_worker.specs.Workers.{order_at, worker_order}
use Rattle.orc_worker.specs.declared.worker.Worker.{Worker}
use Rattle.orc_run_cases.specs.Refused.{CancelsUndecided, ChangesNamed, ConfirmsSynced, EntersOnce, IsNamed, IsReconciling}

-- decisions in the journal

-- each decision keeps its place
place_kept : (before entries : List Entry) (told : Told) (t n : ℕ) → told.place t ≡ Some n → (m : ℕ) × ((told_from before told entries).place t ≡ Some m)
place_kept before [] told t n is = (n, is)
place_kept before (entry.Intent u call devices ∷ entries) told t n is = place_kept (before ++ entry.Intent u call devices ∷ []) entries (told_with before told (entry.Intent u call devices)) t n is
place_kept before (entry.Abort u ∷ entries) told t n is = place_kept (before ++ entry.Abort u ∷ []) entries told t n is
place_kept before (entry.Settled u ∷ entries) told t n is = place_kept (before ++ entry.Settled u ∷ []) entries (told_with before told (entry.Settled u)) t n is
place_kept before (entry.Decide u ∷ entries) told t n is =
    on (nat_eq u t) refl (λ m at. place_kept (before ++ entry.Decide u ∷ []) entries (told_with before told (entry.Decide u)) t m at)
  where
    on : (b : Bool) → nat_eq u t ≡ b → ((m : ℕ) → (told_with before told (entry.Decide u)).place t ≡ Some m
        → (k : ℕ) × ((told_from (before ++ entry.Decide u ∷ []) (told_with before told (entry.Decide u)) entries).place t ≡ Some k))
        → (k : ℕ) × ((told_from (before ++ entry.Decide u ∷ []) (told_with before told (entry.Decide u)) entries).place t ≡ Some k)
    on true e go = go (length told.history + 1) (ap (λ (b : Bool). cond b (Some (length told.history + 1)) (told.place t)) e)
    on false e go = go n (ap (λ (b : Bool). cond b (Some (length told.history + 1)) (told.place t)) e ∙ is)

-- the entry stands in the list
abbrev Among : List Entry → Entry → Type 0
Among [] e = ⊥
Among (x ∷ xs) e = (x ≡ e) ⊎ Among xs e

among_of : (xs : List Entry) (e : Entry) → Contains xs e → Among xs e
among_of [] e (k, less, same) = absurd (omega (arith, less))
among_of (x ∷ xs) e (zero, less, same) = inl same
among_of (x ∷ xs) e (suc k, less, same) = inr (among_of xs e (k, omega (arith, less), same))

contains_of : (xs : List Entry) (e : Entry) → Among xs e → Contains xs e
contains_of [] e at = absurd at
contains_of (x ∷ xs) e (inl same) = (0, omega arith, same)
contains_of (x ∷ xs) e (inr later) = let rest = contains_of xs e later in (suc rest.0, omega (arith, rest.1), rest.2)

-- a decision has a place
decided_placed : (before entries : List Entry) (told : Told) (t : ℕ) → Among entries (entry.Decide t) → (n : ℕ) × ((told_from before told entries).place t ≡ Some n)
decided_placed before [] told t at = absurd at
decided_placed before (e ∷ entries) told t (inl same) =
    place_kept (before ++ e ∷ []) entries (told_with before told e) t (length told.history + 1)
    (subst (λ (x : Entry). (told_with before told x).place t ≡ Some (length told.history + 1)) (sym same)
    (ap (λ (b : Bool). cond b (Some (length told.history + 1)) (told.place t)) (eq-eqb t t refl)))
decided_placed before (e ∷ entries) told t (inr later) = decided_placed (before ++ e ∷ []) entries (told_with before told e) t later

-- a transaction that has a place is decided
placed_decided : (before entries : List Entry) (told : Told) (t n : ℕ) → (told_from before told entries).place t ≡ Some n → ((m : ℕ) → told.place t ≡ Some m → ⊥)
    → Among entries (entry.Decide t)
placed_decided before [] told t n is new = absurd (new n is)
placed_decided before (entry.Intent u call devices ∷ entries) told t n is new =
    inr (placed_decided (before ++ entry.Intent u call devices ∷ []) entries (told_with before told (entry.Intent u call devices)) t n is new)
placed_decided before (entry.Abort u ∷ entries) told t n is new = inr (placed_decided (before ++ entry.Abort u ∷ []) entries told t n is new)
placed_decided before (entry.Settled u ∷ entries) told t n is new =
    inr (placed_decided (before ++ entry.Settled u ∷ []) entries (told_with before told (entry.Settled u)) t n is new)
placed_decided before (entry.Decide u ∷ entries) told t n is new =
    on (nat_eq u t) refl (λ still. placed_decided (before ++ entry.Decide u ∷ []) entries (told_with before told (entry.Decide u)) t n is still)
  where
    on : (b : Bool) → nat_eq u t ≡ b → (((m : ℕ) → (told_with before told (entry.Decide u)).place t ≡ Some m → ⊥) → Among entries (entry.Decide t))
        → (entry.Decide u ≡ entry.Decide t) ⊎ Among entries (entry.Decide t)
    on true e go = inl (ap entry.Decide (eqb-true u t e))
    on false e go = inr (go (λ m at. new m (sym (ap (λ (b : Bool). cond b (Some (length told.history + 1)) (told.place t)) e) ∙ at)))

pub is_decided : (entries : List Entry) (t n : ℕ) → (told_by entries).place t ≡ Some n → Contains entries (entry.Decide t)
is_decided entries t n is =
    contains_of entries (entry.Decide t) (placed_decided [] entries (record { history = []; place = λ u. None; intents = λ u. None }) t n is (λ m at. cc))

pub has_place : (entries : List Entry) (t : ℕ) → Contains entries (entry.Decide t) → (n : ℕ) × ((told_by entries).place t ≡ Some n)
has_place entries t at = decided_placed [] entries (record { history = []; place = λ u. None; intents = λ u. None }) t (among_of entries (entry.Decide t) at)

-- what is due

duty_ordered : (duties : List Duty) (device : ℕ) (o : Op) → option_map_or duty_order (slice_get duties device) None ≡ Some o → duty_order (duty_on duties device) ≡ Some o
duty_ordered duties device o is = on (slice_get duties device) is
  where
    on : (d : Option Duty) → option_map_or duty_order d None ≡ Some o → duty_order (option_map_or (λ x. x) d duty.Free) ≡ Some o
    on None e = absurd cc
    on (Some x) e = e

-- the duty on a device, for which this operation is due
module _ {D : Type 0} (here : Setting D) (kinds : (device : ℕ) → IsOfHub (here.kinds device)) (world : World D) (hub : Hub) (own : DevicesKept here.decls world)
    (up : world.hub ≡ Some hub) (device : ℕ) (silent : (world.links device).unheard ≡ None) (o : Op) where
  abbrev entries : List Entry
  entries = entries_read world.journal

  abbrev told : Told
  told = told_by entries

  abbrev net : Network Call
  net = network_of here.decls own.shadow entries (Some hub) world.nodes world.links

  abbrev here_over : List Call → Config
  here_over = over here.decls device

  abbrev role : DeviceRole Call
  role = role_on here.decls own.shadow entries (Some hub) device (world.links device)

  kept : NetworkKept here.decls net
  kept = subst (λ (h : Option Hub). NetworkKept here.decls (network_of here.decls own.shadow entries h world.nodes world.links)) up own.kept

  under : Attends here.decls own.shadow entries hub world.links
  under = own.under hub up

  role_now : role ≡ role_of here_over told device (duty_on hub.duties device)
  role_now = ap (λ (u : Option (OpKind × Reply)). role_of here_over told device (heard u (world.links device).faults (duty_on hub.duties device))) silent

  -- a worker's
  module _ (worker : Worker) (is : duty_on hub.duties device ≡ duty.Works worker) (order : worker_order worker ≡ Some o) where
    own_work : IsOwned here.decls entries hub.active device worker
    own_work = under.owned device worker is (order_due worker.t worker.set worker.stage o order).1

    named_here : own_work.noted.plan.names device ≡ true
    named_here = ap (λ p. p.names device) own_work.plan ∙ own_work.names

    pub works_named : IsNamed entries device
    works_named = (worker.t, own_work.noted, own_work.known, named_here)

    abbrev intent : Intent Call
    intent = record {
      t = worker.t;
      call = own_work.noted.plan.call;
      before = here_over own_work.noted.base;
      due = here_over (own_work.noted.base ++ own_work.noted.plan.call ∷ []);
    }

    seen_is : intent_seen here_over device worker.t (told.intents worker.t) ≡ Some intent
    seen_is = ap (intent_seen here_over device worker.t) own_work.known ∙ by (own_work.noted.plan.names device) named_here
      where
        by : (n : Bool) → n ≡ true → seen_plan here_over worker.t own_work.noted n ≡ Some intent
        by true e = refl
        by false e = absurd (false≢true e)

    works_now : role ≡ Works intent worker.stage
    works_now =
        role_now ∙ ap (λ (d : Duty). role_of here_over told device d) is ∙ ap (λ (s : Option (Intent Call)). works_at s worker.stage) seen_is
        ∙ ap (λ (b : Bool). cond b Free (Works intent worker.stage)) (order_due worker.t worker.set worker.stage o order).1

    pub works_due : due_op (here.kinds device) here_over (cell (over here.decls) net device) role ≡ Some o
    works_due =
        ap (due_op (here.kinds device) here_over (cell (over here.decls) net device)) works_now
        ∙ ap (λ (s : ChangeSet). order_at worker.t s worker.stage)
        (ap (λ (f : Config → Config → ChangeSet). f intent.before intent.due) (kinds device).between ∙ sym own_work.set)
        ∙ order

  -- a mender's
  module _ (mender : MenderState) (is : duty_on hub.duties device ≡ duty.Mends mender) (order : mender_order differences mender ≡ Some o) where
    mends_up : (m : Option (Option RecFault)) → hub.mends ≡ m → MendingKept here.decls entries hub.active hub.duties hub.stale m
        → IsReconciling hub × IsMenderOf here.decls entries device mender
    mends_up None e none = absurd (none device mender is)
    mends_up (Some met) e so = ((met, e), so.stand device mender is)

    mending : IsReconciling hub × IsMenderOf here.decls entries device mender
    mending = mends_up hub.mends refl under.mending

    pub mends_named : IsReconciling hub
    mends_named = mending.0

    numbers_of : (ts : List ℕ) → map (λ one. one.0) (with_decisions told.place ts) ≡ ts
    numbers_of [] = refl
    numbers_of (t ∷ ts) = ap (λ (l : List ℕ). t ∷ l) (numbers_of ts)

    stood : (n : Mend) → mends_at (mend_at (map (λ one. one.0) (left_of told.place n)) (mend_stage_of n)) ≡ Mends n
    stood (Mopening ts) = ap (λ (l : List ℕ). Mends (Mopening l)) (numbers_of ts)
    stood (Mresolving ts) = ap (λ (l : List ℕ). Mends (Mresolving l)) (numbers_of ts)
    stood (MlockingRunning read) = refl
    stood (MlockingCandidate read) = refl
    stood (Mediting read) = refl
    stood Mvalidating = refl
    stood Mcommitting = refl
    stood MunlockingCandidate = refl
    stood MunlockingRunning = refl
    stood Mclosing = refl

    by_stand : IsMenderOf here.decls entries device mender → due_op (here.kinds device) here_over (cell (over here.decls) net device) role ≡ Some o
    by_stand (inl ended) =
        absurd (let both : ◌≡◌ {A = Option Op} None (Some o) = sym (ap (λ s. mend_order differences mender.left mender.due s) ended) ∙ order in cc)
    by_stand (inr (m, stands)) =
        ap (due_op (here.kinds device) here_over (cell (over here.decls) net device))
        (role_now ∙ ap (λ (d : Duty). role_of here_over told device d) is
        ∙ ap (λ (n : MenderState). mends_at (mend_at (map (λ one. one.0) n.left) n.stage)) stands ∙ stood m)
        ∙ sym (orders_agree (here.kinds device) told.place (here_over told.history) m)
        ∙ ap (λ (f : Config → Config → ChangeSet). mender_order f (mender_of told.place (here_over told.history) m)) (kinds device).between
        ∙ ap (λ (n : MenderState). mender_order differences n) (sym stands) ∙ order

    pub mends_due : due_op (here.kinds device) here_over (cell (over here.decls) net device) role ≡ Some o
    mends_due = by_stand mending.1

  -- either
  pub role_due : (d : Duty) → duty_on hub.duties device ≡ d → duty_order d ≡ Some o
      → due_op (here.kinds device) here_over (cell (over here.decls) net device) role ≡ Some o
  role_due duty.Free is order = absurd cc
  role_due (duty.Works worker) is order = works_due worker is order
  role_due (duty.Mends mender) is order = mends_due mender is order

  pub duty_named : (d : Duty) → duty_on hub.duties device ≡ d → duty_order d ≡ Some o → IsNamed entries device ⊎ IsReconciling hub
  duty_named duty.Free is order = absurd cc
  duty_named (duty.Works worker) is order = inl (works_named worker is order)
  duty_named (duty.Mends mender) is order = inr (mends_named mender is order)

  ordered : order_on hub device ≡ Some o → duty_order (duty_on hub.duties device) ≡ Some o
  ordered order = duty_ordered hub.duties device o order

  pub order_due_here : order_on hub device ≡ Some o → due_op (here.kinds device) here_over (cell (over here.decls) net device) role ≡ Some o
  order_due_here order = role_due (duty_on hub.duties device) refl (ordered order)

  pub order_named : order_on hub device ≡ Some o → IsNamed entries device ⊎ IsReconciling hub
  order_named order = duty_named (duty_on hub.duties device) refl (ordered order)

  pub facts : RoleFacts here_over (cell (over here.decls) net device) role
  facts = (kept.each device).role

module _ {D : Type 0} (here : Setting D) (kinds : (device : ℕ) → IsOfHub (here.kinds device)) where
  -- an operation comes only where the hub has heard of the last one
  does_perform : (world : World D) (hub : Hub) (meant : Event) (row : List Entry) (next : World D) → DoesUnderHub here world hub meant row next
      → (device count : ℕ) (kind : OpKind) (reply : Mark) → meant ≡ event.Perform device kind reply count → (world.links device).unheard ≡ None
  does_perform world hub meant row next (DoesUnderHub.performs d o happened due unheard possible way) device count kind reply is =
      let same : d ≡ device = cc in subst (λ (e : ℕ). (world.links e).unheard ≡ None) same unheard
  does_perform world hub meant row next does device count kind reply is = absurd cc

  performing : (old new : World D) (meant : Event) (seen : Option Event) → Steps here old meant seen new
      → (device count : ℕ) (kind : OpKind) (reply : Mark) → meant ≡ event.Perform device kind reply count → (old.links device).unheard ≡ None
  performing old new meant seen (Steps.done hub row next _ up does appends is) device count kind reply e = does_perform old hub meant row next does device count kind reply e
  performing old new meant seen (Steps.cut hub row next _ up does appends is) device count kind reply e = does_perform old hub meant row next does device count kind reply e
  performing old new meant seen (Steps.failed hub row next _ up does appends is) device count kind reply e = does_perform old hub meant row next does device count kind reply e
  performing old new meant seen (Steps.full hub row next len _ up does appends is) device count kind reply e = does_perform old hub meant row next does device count kind reply e
  performing old new meant seen (Steps.anyway _ (DoesAnyway.ticks seconds)) device count kind reply e = absurd cc
  performing old new meant seen (Steps.anyway _ (DoesAnyway.restarts x)) device count kind reply e = absurd cc
  performing old new meant seen (Steps.anyway _ (DoesAnyway.answers_down call front down)) device count kind reply e = absurd cc
  performing old new meant seen (Steps.unopened _ down recover same is) device count kind reply e =
      absurd (let both : event.Recover ≡ event.Perform device kind reply count = sym recover ∙ e in cc)
  performing old new meant seen (Steps.recovers _ down recover reopens is) device count kind reply e =
      absurd (let both : event.Recover ≡ event.Perform device kind reply count = sym recover ∙ e in cc)

  pub cancels_undecided : (turn : Turn D) → Comes here turn → DevicesKept here.decls turn.before → CancelsUndecided here turn
  cancels_undecided turn comes own hub device t count kind reply up meant due decided =
      let silent = performing turn.before turn.behind turn.meant turn.seen comes device count kind reply meant in
      let entries : List Entry = entries_read turn.before.journal in
      let none : (told_by entries).place t ≡ None =
      cancel_undecided (here.kinds device) (over here.decls device)
      (cell (over here.decls) (network_of here.decls own.shadow entries (Some hub) turn.before.nodes turn.before.links) device)
      (role_on here.decls own.shadow entries (Some hub) device (turn.before.links device)) t
      (facts here kinds turn.before hub own up device silent (op.Cancel t))
      (order_due_here here kinds turn.before hub own up device silent (op.Cancel t) (due_is hub device (op.Cancel t) due)) in
      let placed = has_place entries t decided in
      let both : ◌≡◌ {A = Option ℕ} None (Some placed.0) = sym none ∙ placed.1 in cc

  pub confirms_synced : (turn : Turn D) → Comes here turn → HistoryKept here turn.before → DevicesKept here.decls turn.before → ConfirmsSynced here turn
  confirms_synced turn comes history own hub device t count kind reply up meant due =
      let silent = performing turn.before turn.behind turn.meant turn.seen comes device count kind reply meant in
      let entries : List Entry = entries_read turn.before.journal in
      let some = confirm_decided (here.kinds device) (over here.decls device)
      (cell (over here.decls) (network_of here.decls own.shadow entries (Some hub) turn.before.nodes turn.before.links) device)
      (role_on here.decls own.shadow entries (Some hub) device (turn.before.links device)) t
      (facts here kinds turn.before hub own up device silent (op.Confirm t))
      (order_due_here here kinds turn.before hub own up device silent (op.Confirm t) (due_is hub device (op.Confirm t) due)) in
      subst (λ (l : List Entry). Contains l (entry.Decide t)) (uncut_read turn.before.journal (history.hub hub up).0) (is_decided entries t some.0 some.1)

  -- what a device runs

  does_change : (world : World D) (hub : Hub) (meant : Event) (row : List Entry) (next : World D) → DoesUnderHub here world hub meant row next
      → (device : ℕ) → (next.nodes device).running ≢ (world.nodes device).running → (o : Op) × (order_on hub device ≡ Some o) × ((world.links device).unheard ≡ None)
  does_change world hub meant row next (DoesUnderHub.performs d o happened due unheard possible way) device differs = on (nat_eq d device) refl
    where
      on : (b : Bool) → nat_eq d device ≡ b → (o : Op) × (order_on hub device ≡ Some o) × ((world.links device).unheard ≡ None)
      on true e =
          let same = eqb-true d device e in
          (o, subst (λ (x : ℕ). order_on hub x ≡ Some o) same (due_is hub d o due), subst (λ (x : ℕ). (world.links x).unheard ≡ None) same unheard)
      on false e = absurd (differs (ap (λ (b : Bool). (cond b (way_node (here.kinds d) (world.nodes d) (world.links d).session o happened) (world.nodes device)).running) e))
  does_change world hub meant row next (DoesUnderHub.leaves_unsent d changes due unheard) device differs = on (nat_eq d device) refl
    where
      on : (b : Bool) → nat_eq d device ≡ b → (o : Op) × (order_on hub device ≡ Some o) × ((world.links device).unheard ≡ None)
      on true e =
          let same = eqb-true d device e in
          (op.Edit changes, subst (λ (x : ℕ). order_on hub x ≡ Some (op.Edit changes)) same (due_is hub d (op.Edit changes) due), subst (λ (x : ℕ). (world.links x).unheard ≡ None) same unheard)
      on false e = absurd (differs (ap (λ (b : Bool). (cond b (world.nodes d) (world.nodes device)).running) e))
  does_change world hub meant row next DoesUnderHub.stops device differs = absurd (differs refl)
  does_change world hub meant row next does device differs = absurd (differs refl)

  module _ (old : World D) (own : DevicesKept here.decls old) (device : ℕ) where
    -- what is pending is of an Intent that names the device
    pending_named : (pending : Option PendingCommit) → (old.nodes device).pending ≡ pending → ((old.nodes device).pending ≡ None → ⊥) → IsNamed (entries_read old.journal) device
    pending_named None is some = absurd (some is)
    pending_named (Some commit) is some =
        let known = pends_known (over here.decls) (StandsAt here.decls) (FitAt here.decls) (ValidAt here.decls) (network here.decls own.shadow old) own.kept device commit.id (ap pending_id is) in
        (commit.id, known.0, known.1, known.2)

    changed_named : (new : World D) (meant : Event) (seen : Option Event) → Steps here old meant seen new → (new.nodes device).running ≢ (old.nodes device).running
        → IsNamed (entries_read old.journal) device ⊎ ((hub : Hub) × (old.hub ≡ Some hub) × IsReconciling hub)
    changed_named new meant seen (Steps.done hub row next _ up does appends is) differs =
        on (order_named here kinds old hub own up device change.2 change.0 change.1)
      where
        change : (o : Op) × (order_on hub device ≡ Some o) × ((old.links device).unheard ≡ None)
        change = does_change old hub meant row next does device (λ e. differs (ap (λ (w : World D). (w.nodes device).running) is ∙ e))

        on : IsNamed (entries_read old.journal) device ⊎ IsReconciling hub → IsNamed (entries_read old.journal) device ⊎ ((hub : Hub) × (old.hub ≡ Some hub) × IsReconciling hub)
        on (inl named) = inl named
        on (inr mends) = inr (hub, up, mends)
    changed_named new meant seen (Steps.cut hub row next _ up does appends is) differs = absurd (differs (ap (λ (w : World D). (w.nodes device).running) is))
    changed_named new meant seen (Steps.failed hub row next _ up does appends is) differs = absurd (differs (ap (λ (w : World D). (w.nodes device).running) is))
    changed_named new meant seen (Steps.full hub row next len _ up does appends is) differs = absurd (differs (ap (λ (w : World D). (w.nodes device).running) is))
    changed_named new meant seen (Steps.anyway _ (DoesAnyway.ticks seconds)) differs =
        inl (pending_named (old.nodes device).pending refl (λ none. differs (ap (λ (p : Option PendingCommit). (ticked_by (old.nodes device) seconds p).running) none)))
    changed_named new meant seen (Steps.anyway _ (DoesAnyway.restarts x)) differs = on (nat_eq x device) refl
      where
        on : (b : Bool) → nat_eq x device ≡ b → IsNamed (entries_read old.journal) device ⊎ ((hub : Hub) × (old.hub ≡ Some hub) × IsReconciling hub)
        on false e = absurd (differs (ap (λ (b : Bool). (cond b (restarted (old.nodes x)) (old.nodes device)).running) e))
        on true e = inl (pending_named (old.nodes device).pending refl (λ none. differs (
            ap (λ (b : Bool). (cond b (restarted (old.nodes x)) (old.nodes device)).running) e
            ∙ ap (λ (y : ℕ). (restarted (old.nodes y)).running) (eqb-true x device e)
            ∙ ap (λ (p : Option PendingCommit). (dropped (reverted_by (old.nodes device) p)).running) none)))
    changed_named new meant seen (Steps.anyway _ (DoesAnyway.answers_down call front down)) differs = absurd (differs refl)
    changed_named new meant seen (Steps.unopened _ down recover same is) differs = absurd (differs (ap (λ (w : World D). (w.nodes device).running) is))
    changed_named new meant seen (Steps.recovers _ down recover reopens is) differs = absurd (differs (ap (λ (w : World D). (w.nodes device).running) is))

  pub changes_named : (turn : Turn D) → Comes here turn → DevicesKept here.decls turn.before → ChangesNamed here turn
  changes_named turn comes own device differs = changed_named turn.before own device turn.behind turn.meant turn.seen comes differs

-- entries

same_sym : (call other : Call) → IsSame call other → IsSame other call
same_sym call other same = (sym same.0, sym same.1)

new_at : (xs : List Call) (call again : Call) (place : ℕ) → IsNew xs call → slice_get xs place ≡ Some again → IsSame again call → ⊥
new_at [] call again place new is same = cc
new_at (x ∷ xs) call again zero new is same =
    All-head (λ (entry : Call). IsSame entry call → ⊥) x xs new (subst (λ (c : Call). IsSame c call) (sym (same_Some x again is)) same)
new_at (x ∷ xs) call again (suc place) new is same = new_at xs call again place (All-tail (λ (entry : Call). IsSame entry call → ⊥) x xs new) is same

distinct_at : (xs : List Call) → AreDistinct xs → (place other : ℕ) (call again : Call) → slice_get xs place ≡ Some call → slice_get xs other ≡ Some again
    → IsSame again call → place ≡ other
distinct_at [] distinct place other call again is at same = absurd cc
distinct_at (x ∷ xs) distinct zero zero call again is at same = refl
distinct_at (x ∷ xs) distinct zero (suc other) call again is at same =
    absurd (new_at xs x again other distinct.0 at (subst (λ (c : Call). IsSame again c) (sym (same_Some x call is)) same))
distinct_at (x ∷ xs) distinct (suc place) zero call again is at same =
    absurd (new_at xs x call place distinct.0 is (subst (λ (c : Call). IsSame call c) (sym (same_Some x again at)) (same_sym again call same)))
distinct_at (x ∷ xs) distinct (suc place) (suc other) call again is at same =
    ap suc (distinct_at xs distinct.1 place other call again is at same)

pub enters_once : {D : Type 0} (here : Setting D) (turn : Turn D) → HistoryKept here turn.behind → EntersOnce here turn
enters_once here turn history place other call again is at same =
    distinct_at (history_read turn.behind.journal) (read_so here turn.behind.journal history.journal).1.distinct place other call again is at same
