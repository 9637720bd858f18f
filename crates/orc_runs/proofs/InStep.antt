-- What is kept of devices over whole runs.
use Rattle.std.proofs.Common.{[], ◌≡◌, ◌≢◌, Contains, ℕ, Bool, true, false, cond, Option, Some, None, List, ◌∷◌, ◌++◌, IsTrue, Ok, map, refl, sym, ap, subst, ◌∙◌, nat_eq, eqb-true}
use Rattle.std.specs.Prelude.{filter, nat_lt, slice_get, length, take}
use Rattle.std.specs.Option.{option_map_or}
use Rattle.std.proofs.Math.Path.{fun_ext}
use Rattle.orc_rules.specs.Cells.{updated_at}
use Rattle.orc_rules.specs.Duties.{no_call_works}
use Rattle.orc_rules.specs.Hubs.{Hub, duty_on}
use Rattle.orc_rules.specs.Events.{DoesUnderHub, DoesAnyway, Steps, Turn, mender_freed, seen_failing}
use Rattle.orc_rules.specs.declared.event.Event.{Event}
use Rattle.orc_rules.specs.declared.event.Event.TheVariants as event
use Rattle.orc_rules.proofs.Moves.{mended_in_step}
use Rattle.std.proofs.lemmas.Option.{same_Some}
use Rattle.orc_rules.specs.Invariant.{IsLawful}
use Rattle.orc_rules.specs.Network.{Local, Planning}
use Rattle.orc_rules.specs.UnderHub.{DevicesKept, IsOfHub}
use Rattle.orc_rules.proofs.Attending.{relinked_under}
use Rattle.orc_rules.specs.Facts.{pending_id}
use Rattle.orc_rules.proofs.Devices.{filter_all, in_step}
use Rattle.orc_rules.proofs.Promises.{pends_known}
use Rattle.orc_rules.specs.Told.{told_by}
use Rattle.orc_rules.proofs.Tracking.{known_at, steps_devices}
use Rattle.orc_datastore.specs.States.{tree_due}
use Rattle.orc_runs.specs.Scripts.{set_by}
use Rattle.orc_call.specs.declared.call.Call.{Call}
use Rattle.orc_journal.specs.Laws.{KeepsOrder}
use Rattle.orc_decls.specs.declared.declarations.Decls.{Decls}
use Rattle.orc_journal.specs.declared.entry.Entry.{Entry}
use Rattle.orc_plans.specs.Plans.{LegalStands, PlanStands}
use Rattle.orc_decls.specs.Declarations.{AreDecls}
use Rattle.orc_datastore.specs.Legal.{IsLegal, state_of}
use Rattle.orc_rules.specs.Journals.{entries_read, history_read}
use Rattle.orc_rules.specs.Kept.{FitAt, HistoryKept, NetworkKept, StandsAt, ValidAt, local_of, network, network_of}
use Rattle.orc_rules.specs.Worlds.{Link, Setting, World, over}
use Rattle.orc_rules.proofs.Legality.{read_so}
use Rattle.orc_runs.specs.Headline.{IsPending, IsReconciled}
use Rattle.orc_runs.specs.Runs.{Run, turns_of}
use Rattle.orc_script.specs.declared.step.ScriptStep.{ScriptStep}
use Rattle.orc_script.specs.declared.step.ScriptStep.TheVariants as step
use Rattle.orc_runs.proofs.Lasting.{IsKept, Survives, each_in, run_survives}
use Rattle.orc_decls.specs.Calls.{is_call}
use Rattle.std.specs.FinMap.{empty}
use Rattle.std.proofs.lemmas.List.Elements.{All-take}

-- what a line sets keeps the devices
armed_devices : {D : Type 0} (here : Setting D) (count bytes : ℕ) (world : World D) → DevicesKept here.decls world → (hub : Option Hub)
    → DevicesKept here.decls (option_map_or (λ h. record world { journal = record world.journal { armed = count; bytes = bytes } }) hub world)
armed_devices here count bytes world own None = own
armed_devices here count bytes world own (Some hub) = record { shadow = own.shadow; kept = own.kept; silent = own.silent; under = own.under; rests = own.rests }

pub set_devices : {D : Type 0} (here : Setting D) (at : ScriptStep) (world : World D) → DevicesKept here.decls world → DevicesKept here.decls (set_by at world)
set_devices here (step.StopAt count bytes) world own = armed_devices here count bytes world own world.hub
set_devices {D = D} here (step.Fault device op at) world own = record {
  shadow = own.shadow;
  kept = subst (λ (l : ℕ → Local Call). NetworkKept here.decls (record (network_of here.decls own.shadow (entries_read world.journal) world.hub world.nodes world.links) { locals = l })) (fun_ext each) own.kept;
  silent = λ none x. same_unheard x ∙ own.silent none x;
  under = λ hub e. relinked_under here.decls own.shadow (entries_read world.journal) hub.active hub.duties hub.stale hub.mends world.links (own.under hub e)
      (updated_at world.links device link) same_unheard same_faults;
  rests = own.rests;
}
  where
    link : Link
    link = record (world.links device) { listed = (world.links device).listed ++ (op, at) ∷ [] }

    each : (x : ℕ) → local_of here.decls own.shadow (entries_read world.journal) world.hub x (world.nodes x) (world.links x)
        ≡ local_of here.decls own.shadow (entries_read world.journal) world.hub x (world.nodes x) (updated_at world.links device link x)
    each x = on (nat_eq device x) refl
      where
        at_it : (hub : Option Hub) → local_of here.decls own.shadow (entries_read world.journal) hub device (world.nodes device) (world.links device)
            ≡ local_of here.decls own.shadow (entries_read world.journal) hub device (world.nodes device) link
        at_it None = refl
        at_it (Some hub) = refl

        on : (b : Bool) → nat_eq device x ≡ b → local_of here.decls own.shadow (entries_read world.journal) world.hub x (world.nodes x) (world.links x)
            ≡ local_of here.decls own.shadow (entries_read world.journal) world.hub x (world.nodes x) (cond b link (world.links x))
        on true is = subst (λ (y : ℕ). local_of here.decls own.shadow (entries_read world.journal) world.hub y (world.nodes y) (world.links y)
            ≡ local_of here.decls own.shadow (entries_read world.journal) world.hub y (world.nodes y) link) (eqb-true device x is) (at_it world.hub)
        on false is = refl

    same_unheard : (x : ℕ) → (updated_at world.links device link x).unheard ≡ (world.links x).unheard
    same_unheard x = go (nat_eq device x) refl
      where
        go : (b : Bool) → nat_eq device x ≡ b → (cond b link (world.links x)).unheard ≡ (world.links x).unheard
        go true e = ap (λ (y : ℕ). (world.links y).unheard) (eqb-true device x e)
        go false e = refl

    same_faults : (x : ℕ) → (updated_at world.links device link x).faults ≡ (world.links x).faults
    same_faults x = go (nat_eq device x) refl
      where
        go : (b : Bool) → nat_eq device x ≡ b → (cond b link (world.links x)).faults ≡ (world.links x).faults
        go true e = ap (λ (y : ℕ). (world.links y).faults) (eqb-true device x e)
        go false e = refl
set_devices here other world own = own

-- setting a link's stop or fault leaves how far along the history each device has come
armed_shadow : {D : Type 0} (here : Setting D) (count bytes : ℕ) (world : World D) (own : DevicesKept here.decls world) (hub : Option Hub) (x : ℕ)
    → ((armed_devices here count bytes world own hub).shadow x).at ≡ (own.shadow x).at
unfolding armed_devices
armed_shadow here count bytes world own None x = refl
armed_shadow here count bytes world own (Some hub) x = refl

pub set_shadow : {D : Type 0} (here : Setting D) (at : ScriptStep) (world : World D) (own : DevicesKept here.decls world) (x : ℕ)
    → ((set_devices here at world own).shadow x).at ≡ (own.shadow x).at
unfolding set_devices
set_shadow here (step.StopAt count bytes) world own x = armed_shadow here count bytes world own world.hub x
set_shadow here (step.Fault device op at) world own x = refl
set_shadow here other world own x = refl

-- what is due after a prefix of a legal history
pub front_is_due : (decls : Decls) (history : List Call) (count device : ℕ) → IsLegal decls history → nat_lt device (length decls.names) ≡ true
    → over decls device (take count history) ≡ tree_due (state_of decls (take count history)) device
front_is_due decls history count device legal within =
    ap (λ (b : Bool). cond b (tree_due (state_of decls (filter (is_call decls) (take count history))) device) empty) within
    ∙ ap (λ (l : List Call). tree_due (state_of decls l) device)
    (filter_all (is_call decls) (take count history) (All-take (λ call. IsTrue (is_call decls call)) count history legal.lawful))

-- The devices. (Kinds are those of the hub's workers and menders, and lawful, and plans are as Planned says.)
module _ {D : Type 0} (here : Setting D)
    (only_now : (d : D) (c : List ℕ) → here.disk.left_since d (here.disk.moment d) c → here.disk.may_leave d c)
    (are : AreDecls here.decls) (plans : PlanStands) (legally : LegalStands) (order : KeepsOrder)
    (kinds : (device : ℕ) → IsOfHub (here.kinds device)) (lawful : (device : ℕ) → IsLawful (here.kinds device) (over here.decls device))
    (planning : Planning (over here.decls) (StandsAt here.decls) (FitAt here.decls) (ValidAt here.decls)) where
  -- a device in step, after an event
  record IsInStep (world : World D) (device : ℕ) : Type 0 where
    pub hub : Hub
    pub up : world.hub ≡ Some hub
    pub fresh : slice_get hub.stale device ≡ Some None
    pub unworked : no_call_works (duty_on hub.duties device) ≡ true
    pub heard : (world.links device).unheard ≡ None

  failing_well : (meant : Event) → seen_failing meant ≡ Some (event.Reconcile (Some (Ok tt))) → ⊥
  failing_well (event.Admit t given) e = cc
  failing_well (event.Decide t given) e = cc
  failing_well (event.Reconcile result) e = cc
  failing_well other e = cc

  -- a reconciliation that is well leaves each declared device so
  well_done : (old : World D) (hub : Hub) (meant : Event) (row : List Entry) (next : World D) → HistoryKept here old → DevicesKept here.decls old → old.hub ≡ Some hub
      → DoesUnderHub here old hub meant row next → meant ≡ event.Reconcile (Some (Ok tt)) → (device : ℕ) → nat_lt device (length here.decls.names) ≡ true → IsInStep next device
  well_done old hub meant row next kept own up (DoesUnderHub.mended numbers met busy heard unsettled) e device within =
      let known = known_at here are plans kinds lawful planning old hub kept up in
      let so = mended_in_step here are plans kinds lawful planning old hub kept own up known.0 known.1 met heard busy device within in
      record {
        hub = record hub { active = []; mends = None; duties = map mender_freed hub.duties };
        up = refl;
        fresh = so.0;
        unworked = so.1;
        heard = heard device;
      }
  well_done old hub meant row next kept own up does e device within = absurd cc

  well_seen : (old new : World D) (meant : Event) (seen : Option Event) → HistoryKept here old → DevicesKept here.decls old → Steps here old meant seen new
      → seen ≡ Some (event.Reconcile (Some (Ok tt))) → (device : ℕ) → nat_lt device (length here.decls.names) ≡ true → IsInStep new device
  well_seen old new meant seen kept own (Steps.done hub row next _ up does appends is) e device within =
      let s = well_done old hub meant row next kept own up does (same_Some meant (event.Reconcile (Some (Ok tt))) e) device within in
      subst (λ (w : World D). IsInStep w device) (sym is) (record { hub = s.hub; up = s.up; fresh = s.fresh; unworked = s.unworked; heard = s.heard })
  well_seen old new meant seen kept own (Steps.cut hub row next _ up does appends is) e device within = absurd cc
  well_seen old new meant seen kept own (Steps.failed hub row next _ up does appends is) e device within = absurd (failing_well meant e)
  well_seen old new meant seen kept own (Steps.full hub row next len _ up does appends is) e device within = absurd cc
  well_seen old new meant seen kept own (Steps.anyway _ (DoesAnyway.ticks seconds)) e device within = absurd cc
  well_seen old new meant seen kept own (Steps.anyway _ (DoesAnyway.restarts x)) e device within = absurd cc
  well_seen old new meant seen kept own (Steps.anyway _ (DoesAnyway.answers_down call front down)) e device within = absurd cc
  well_seen old new meant seen kept own (Steps.unopened _ down recover same is) e device within = absurd cc
  well_seen old new meant seen kept own (Steps.recovers _ down recover reopens is) e device within =
      absurd (let both : event.Recover ≡ event.Reconcile (Some (Ok tt)) = sym recover ∙ same_Some meant (event.Reconcile (Some (Ok tt))) e in cc)

  -- each event keeps them
  abbrev pub also : (old new : World D) (meant : Event) (seen : Option Event) → HistoryKept here old → DevicesKept here.decls old → Steps here old meant seen new → DevicesKept here.decls new
  also old new meant seen kept own steps = steps_devices here are plans kinds lawful planning old new meant seen kept own steps

  -- what is kept of a turn, with the devices
  abbrev pub IsTracked : World D → Turn D → Type 0
  IsTracked last turn = IsKept here only_now are plans legally order (DevicesKept here.decls) also (set_devices here) last turn

  module _ (script : List ScriptStep) (first last : World D) (run : Run here script first last) (kept : HistoryKept here first) (own : DevicesKept here.decls first) where
    pub all_tracked : Survives here only_now are plans legally order (DevicesKept here.decls) also (set_devices here) first.journal (turns_of run) last
    all_tracked = run_survives here only_now are plans legally order (DevicesKept here.decls) also (set_devices here) script first last run (kept, own)

    pub tracked : (turn : Turn D) → Contains (turns_of run) turn → IsTracked last turn
    tracked turn among = each_in (IsTracked last) (turns_of run) turn all_tracked.each among

    legal_behind : (turn : Turn D) → Contains (turns_of run) turn → IsLegal here.decls (history_read turn.behind.journal)
    legal_behind turn among = (read_so here turn.behind.journal (tracked turn among).behind.0.journal).1

    -- at each moment a device in step runs what is due
    pub runs_in_step : (turn : Turn D) (hub : Hub) (device : ℕ) → Contains (turns_of run) turn → nat_lt device (length here.decls.names) ≡ true
        → turn.behind.hub ≡ Some hub → slice_get hub.stale device ≡ Some None → no_call_works (duty_on hub.duties device) ≡ true → (turn.behind.links device).unheard ≡ None
        → ((turn.behind.nodes device).running ≡ tree_due (state_of here.decls (history_read turn.behind.journal)) device) × ((turn.behind.nodes device).pending ≡ None)
    runs_in_step turn hub device among within up fresh unworked heard =
        let devices : DevicesKept here.decls turn.behind = (tracked turn among).behind.1 in
        in_step here.decls devices.shadow (entries_read turn.behind.journal) turn.behind.nodes turn.behind.links hub device
        (subst (λ (h : Option Hub). NetworkKept here.decls (network_of here.decls devices.shadow (entries_read turn.behind.journal) h turn.behind.nodes turn.behind.links)) up devices.kept)
        fresh unworked heard (legal_behind turn among) within

    -- whenever a reconciliation is well each declared device runs what is due, and nothing is pending there
    pub runs_mended : (turn : Turn D) (device : ℕ) → Contains (turns_of run) turn → nat_lt device (length here.decls.names) ≡ true
        → turn.seen ≡ Some (event.Reconcile (Some (Ok tt)))
        → IsReconciled here.decls turn.behind device
    runs_mended turn device among within seen =
        let is = tracked turn among in
        let s = well_seen turn.before turn.behind turn.meant turn.seen is.before.0 is.before.1 is.comes seen device within in
        let so = runs_in_step turn s.hub device among within s.up s.fresh s.unworked s.heard in
        record { runs = so.0; settled = so.1; hub = s.hub; up = s.up; in_sync = s.fresh }

    -- the first of these
    pub runs_reconciled : (turn : Turn D) (device : ℕ) → Contains (turns_of run) turn → nat_lt device (length here.decls.names) ≡ true
        → turn.seen ≡ Some (event.Reconcile (Some (Ok tt))) → (turn.behind.nodes device).running ≡ tree_due (state_of here.decls (history_read turn.behind.journal)) device
    runs_reconciled turn device among within seen = (runs_mended turn device among within seen).runs

    -- what is pending on a device is of an unsettled intent that names that and is synced, and it runs what is due
    pub runs_pend_known : (turn : Turn D) (device t : ℕ) → Contains (turns_of run) turn → ((told_by turn.behind.journal.synced).intents t ≢ None) → pending_id (turn.behind.nodes device).pending ≡ Some t
        → IsPending here.decls turn.behind.journal device t (turn.behind.nodes device)
    runs_pend_known turn device t among synced pends =
        let devices : DevicesKept here.decls turn.behind = (tracked turn among).behind.1 in
        let known = pends_known (over here.decls) (StandsAt here.decls) (FitAt here.decls) (ValidAt here.decls) (network here.decls devices.shadow turn.behind) devices.kept device t pends in
        record { synced = synced; noted = known.0; unsettled = known.1; names = known.2; runs = known.3 }
