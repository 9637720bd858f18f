-- Each run has the headline: the fields together.
use Rattle.std.proofs.Math.Path.{fun_ext}
use Rattle.std.proofs.Common.{◌≢◌, ◌≤◌, ◌<◌, arith, Bool, true, false, Err, refl, ◌∷◌, ◌++◌, Option, None, zero, suc, subst, [], ◌≡◌, ◌⊎◌, inl, inr, ℕ, Contains, Some, List, length, map, sym, ap, ◌∙◌}
use Rattle.std.proofs.lemmas.Option.{same_Some}
use Rattle.orc_call.specs.declared.answer.Why.{Why}
use Rattle.orc_call.specs.declared.answer.Why.TheVariants as why
use Rattle.orc_call.specs.declared.call.Call.{Call}
use Rattle.orc_decls.specs.Declarations.{AreDecls}
use Rattle.orc_journal.specs.Committed.{history_of}
use Rattle.orc_journal.specs.Journals.{journal_bytes}
use Rattle.orc_journal.specs.Opening.{AreEntriesOf}
use Rattle.orc_journal.specs.Laws.{HasOneVerdict, KeepsOrder}
use Rattle.orc_plans.specs.Plans.{LegalStands, PlanStands}
use Rattle.orc_rules.specs.Events.{Turn}
use Rattle.orc_rules.specs.Hubs.{Hub}
use Rattle.orc_rules.specs.Invariant.{IsLawful}
use Rattle.orc_rules.specs.Journals.{entries_read}
use Rattle.orc_rules.specs.Kept.{FitAt, HistoryKept, StandsAt, ValidAt}
use Rattle.orc_rules.specs.Network.{Planning}
use Rattle.orc_rules.specs.Told.{told_by}
use Rattle.orc_rules.specs.UnderHub.{DevicesKept, IsOfHub}
use Rattle.orc_rules.specs.Worlds.{Setting, World, declared, over}
use Rattle.orc_rules.specs.declared.duty.Duty.TheVariants as duty
use Rattle.orc_rules.proofs.Bounding.{bounded as turns_bounded}
use Rattle.orc_rules.specs.Turns.{turns_at_most, turns_left}
use Rattle.orc_rules.proofs.Devices.{told_history}
use Rattle.orc_rules.proofs.Reconciling.{range_length}
use Rattle.orc_rules.proofs.Starting.{Begins, begins_at, begins_devices}
use Rattle.orc_rules.proofs.Turning.{opened_kept, uncut_read}
use Rattle.orc_runs.specs.Headline.{Headline}
use Rattle.orc_runs.specs.Runs.{LineDone, Run, turns_of}
use Rattle.orc_runs.specs.Starts.{StartsRun, cause_at_first, each_stale, link_at_first, node_at_base}
use Rattle.orc_script.specs.declared.step.ScriptStep.{ScriptStep}
use Rattle.orc_call.specs.declared.answer.RecFault.{RecFault}
use Rattle.orc_call.specs.declared.answer.RecFault.TheVariants as fault
use Rattle.orc_device.specs.declared.op.Op.TheVariants as op
use Rattle.orc_rules.specs.declared.event.Event.TheVariants as event
use Rattle.orc_runs.proofs.Accepted.{EndsBy, MeetsDevices, ends_by, still_accepted, unrefused}
use Rattle.orc_runs.proofs.Acknowledged.{acknowledged}
use Rattle.orc_device.specs.declared.kind.OpKind.{OpKind}
use Rattle.orc_device.specs.declared.op.Op.{Op}
use Rattle.orc_device.specs.declared.reply.Mark.{Mark}
use Rattle.orc_journal.specs.declared.entry.Entry.{Entry}
use Rattle.orc_runs.proofs.Coming.{AllCame, all_came}
use Rattle.orc_runs.proofs.Reopening.{reopens}
use Rattle.orc_runs.proofs.Synced.{is_synced, synced_in}
use Rattle.orc_runs.proofs.Resolved.{ResolvesSo, steps_resolve}
use Rattle.orc_runs.proofs.Fields.{one_history, opens_again, whenever_it_crashes, whenever_it_is_read}
use Rattle.orc_runs.proofs.InStep.{IsTracked, runs_in_step, runs_mended, runs_pend_known, tracked}
use Rattle.orc_runs.proofs.Ordered.{in_callers_order}
use Rattle.orc_runs.proofs.Printed.{as_printed}
use Rattle.orc_runs.proofs.Serving.{new_serves}
use Rattle.orc_runs.proofs.Answered.{served_by}
use Rattle.orc_runs.specs.Serving.{IsRested, ServesHub, ServesWorld}
use Rattle.orc_runs.proofs.Settled.{left_still, settled}
use Rattle.orc_runs.proofs.Bounded.{bounded}
use Rattle.orc_runs.proofs.Because.{turn_because}
use Rattle.orc_runs.proofs.Faulted.{known_before}
use Rattle.orc_runs.proofs.Since.{met_since}
use Rattle.orc_runs.proofs.Faulting.{FaultsKnown, UnderFaults, UnheardFaults, by_fault}
use Rattle.orc_runs.proofs.Replying.{IsReplied, replied}
use Rattle.std.specs.Prelude.{take, slice_get}
use Rattle.std.proofs.lemmas.Bool.{false≢true}
use Rattle.std.proofs.lemmas.List.Elements.{Contains-append_right}
use Rattle.orc_device.specs.Nodes.{NodeState}
use Rattle.orc_rules.specs.Acceptance.{IsNotRefused, Replies, RepliesKept, has_session}
use Rattle.orc_rules.specs.Invariant.{IsFitting, RunsAccepted}
use Rattle.orc_rules.specs.Journals.{history_read}
use Rattle.orc_rules.specs.Worlds.{Link}
use Rattle.orc_rules.proofs.Replied.{steps_reply}
use Rattle.orc_rules.proofs.Starting.{free_on}
use Rattle.orc_runs.specs.Headline.{FailsToMendBecause, HasFault, IsStaleBecause, since_admitted}
use Rattle.orc_rules.specs.Hubs.{due_on, duty_on}
use Rattle.orc_worker.specs.declared.worker.Worker.{Worker}
use Rattle.orc_runs.proofs.Keeping.{turn_moves}
use Rattle.orc_runs.proofs.Settling.{turn_settles}
use Rattle.orc_runs.proofs.Growing.{turn_grows}
use Rattle.orc_runs.proofs.Unmoved.{turn_unmoved}

-- an element between two parts of a list is in it
among_split : {X : Type 0} (xs : List X) (x : X) (ys : List X) → Contains (xs ++ x ∷ ys) x
among_split xs x ys = Contains-append_right xs (x ∷ ys) x (0, lt_suc, refl)
  where
    lt_suc : 0 < suc (length ys)
    lt_suc = omega arith

module _ {D : Type 0} (here : Setting D) (first : World D) (starts : StartsRun here first) where
  -- all devices and links at once
  nodes_are : first.nodes ≡ node_at_base here.decls
  nodes_are = fun_ext starts.nodes

  links_are : first.links ≡ (λ device. link_at_first)
  links_are = fun_ext starts.links

  -- an empty file has no entry
  none_of : (file : List ℕ) → AreEntriesOf file here.decls.text first.journal.synced → file ≡ [] → first.journal.synced ≡ []
  none_of file (inl new) empty = new.1
  none_of file (inr is) empty = absurd (let no : [] ≡ journal_bytes here.decls.text first.journal.synced ++ is.rest = sym empty ∙ is.bytes in cc)

  -- no device is stale where the journal is new, and else each is, since the hub recovered
  stale_or : (cause_at_first starts.fresh ≡ Some why.Recovered) ⊎ ((cause_at_first starts.fresh ≡ None) × (first.journal.synced ≡ []))
  stale_or = on starts.fresh refl
    where
      on : (b : Bool) → starts.fresh ≡ b → (cause_at_first starts.fresh ≡ Some why.Recovered) ⊎ ((cause_at_first starts.fresh ≡ None) × (first.journal.synced ≡ []))
      on true is = inr (ap cause_at_first is, none_of starts.file starts.opened (starts.empty.0 is))
      on false is = inl (ap cause_at_first is)

  -- what is kept holds as a run begins
  pub starts_kept : (are : AreDecls here.decls) (plans : PlanStands) (legally : LegalStands) (order : KeepsOrder) → HistoryKept here first
  starts_kept are plans legally order = opened_kept here are plans legally order first (map (λ device. duty.Free) (declared here.decls)) (each_stale here.decls (cause_at_first starts.fresh)) starts.read_back starts.holds starts.ordered starts.legal starts.uncut starts.hub

  new_or_stale : (cause_at_first starts.fresh ≡ Some why.Recovered) ⊎ ((cause_at_first starts.fresh ≡ None) × (first.journal.synced ≡ []))
      → ((told_by (entries_read first.journal)).history ≡ []) ⊎ (each_stale here.decls (cause_at_first starts.fresh) ≡ map (λ device. Some why.Recovered) (declared here.decls))
  new_or_stale (inl stale) = inr (ap (each_stale here.decls) stale)
  new_or_stale (inr new) = inl (told_history (entries_read first.journal) ∙ ap history_of (uncut_read first.journal starts.uncut ∙ new.1))

  starts_begin : Begins here.decls first
  starts_begin = record {
    stale = each_stale here.decls (cause_at_first starts.fresh);
    sized = range_length (λ device. cause_at_first starts.fresh) 0 (length here.decls.names);
    hub = starts.hub;
    nodes = nodes_are;
    links = links_are;
    fresh = new_or_stale stale_or;
  }

  pub starts_devices : (lawful : (device : ℕ) → IsLawful (here.kinds device) (over here.decls device)) (planning : Planning (over here.decls) (StandsAt here.decls) (FitAt here.decls) (ValidAt here.decls))
      → DevicesKept here.decls first
  starts_devices lawful planning = begins_devices here.decls here.kinds lawful planning first starts_begin

  -- no device has come anywhere yet
  starts_at : (lawful : (device : ℕ) → IsLawful (here.kinds device) (over here.decls device)) (planning : Planning (over here.decls) (StandsAt here.decls) (FitAt here.decls) (ValidAt here.decls))
      (device : ℕ) → ((starts_devices lawful planning).shadow device).at ≡ 0
  unfolding starts_devices
  starts_at lawful planning device = begins_at here.decls here.kinds lawful planning first starts_begin device

  -- no call is open
  starts_idle : (hub : Hub) → first.hub ≡ Some hub → (hub.waiting ≡ []) × (hub.active ≡ [])
  starts_idle hub up =
      let same = same_Some _ hub (sym starts.hub ∙ up) in
      (sym (ap (λ (h : Hub). h.waiting) same), sym (ap (λ (h : Hub). h.active) same))

  pub starts_served : ServesWorld first
  starts_served hub up = subst ServesHub (same_Some _ hub (sym starts.hub ∙ up)) (new_serves (map (λ device. duty.Free) (declared here.decls)))

  pub starts_replies : ((device : ℕ) → (here.kinds device).accepts (over here.decls device []) ≡ true) → RepliesKept here first
  starts_replies accepted = record {
    nodes = λ device. subst (λ (n : ℕ → NodeState). RunsAccepted (here.kinds device) (n device)) (sym nodes_are) (record { running = accepted device; kept = accepted device });
    under = λ hub up. subst (λ (h : Hub). Replies here.decls here.kinds (history_read first.journal) h.active h.duties first.links) (same_Some _ hub (sym starts.hub ∙ up))
        (subst (λ (l : ℕ → Link). Replies here.decls here.kinds (history_read first.journal) [] (map (λ device. duty.Free) (declared here.decls)) l) (sym links_are)
        (record {
          opened = λ device h. absurd (false≢true (ap has_session (sym (free_on here.decls device)) ∙ h));
          tells = λ place it there. absurd cc;
          honest = λ device one h. absurd cc;
        }));
  }

  starts_unrefused : (hub : Hub) → first.hub ≡ Some hub → IsNotRefused hub.mends hub.duties first.links
  starts_unrefused hub up = subst (λ (h : Hub). IsNotRefused h.mends h.duties first.links) (same_Some _ hub (sym starts.hub ∙ up)) (record {
    met = λ device tag h. cc;
    unheard = λ device one mender h is. absurd (let no : duty.Free ≡ duty.Mends mender = sym (free_on here.decls device) ∙ is in cc);
  })

  starts_meets : MeetsDevices first
  starts_meets hub up met h = absurd (let no : ◌≡◌ {A = Option (Option RecFault)} None (Some (Some met)) = ap (λ (x : Hub). x.mends) (same_Some _ hub (sym starts.hub ∙ up)) ∙ h in cc)

  starts_faults : FaultsKnown (IsStaleBecause first []) (λ t. HasFault {D = D} (since_admitted t [])) first
  starts_faults = record {
    unheard = subst (UnheardFaults (by_fault (IsStaleBecause first []))) (sym links_are) (λ device op h. absurd cc);
    under = λ hub up. subst (λ (l : ℕ → Link). UnderFaults (IsStaleBecause first []) (λ t. HasFault {D = D} (since_admitted t [])) hub.duties hub.stale l) (sym links_are) (record {
      lost = λ device worker count h. absurd (none_works hub up device worker h);
      stale_so = λ device cause h.
          let is = recovered stale_or (declared here.decls) device cause (ap (λ (x : Hub). slice_get x.stale device) (same_Some _ hub (sym starts.hub ∙ up)) ∙ h) in
          subst (IsStaleBecause first [] device) is (inr (refl, (hub, up, h ∙ ap (λ (w : Why). Some (Some w)) (sym is))));
      loses = λ device op worker h. absurd cc;
      is_gone = λ device op r worker h. absurd cc;
    });
  }
    where
      none_works : (hub : Hub) → first.hub ≡ Some hub → (device : ℕ) (worker : Worker) → duty_on hub.duties device ≡ duty.Works worker → ⊥
      none_works hub up device worker h =
          let no : duty.Free ≡ duty.Works worker = sym (free_on here.decls device) ∙ ap (λ (x : Hub). duty_on x.duties device) (same_Some _ hub (sym starts.hub ∙ up)) ∙ h in cc

      one_cause : (cause_at_first starts.fresh ≡ Some why.Recovered) ⊎ ((cause_at_first starts.fresh ≡ None) × (first.journal.synced ≡ [])) → (cause : Why) → cause_at_first starts.fresh ≡ Some cause → why.Recovered ≡ cause
      one_cause (inl stale) cause h = same_Some why.Recovered cause (sym stale ∙ h)
      one_cause (inr new) cause h = absurd (let no : ◌≡◌ {A = Option Why} None (Some cause) = sym new.0 ∙ h in cc)

      recovered : (cause_at_first starts.fresh ≡ Some why.Recovered) ⊎ ((cause_at_first starts.fresh ≡ None) × (first.journal.synced ≡ [])) → (xs : List ℕ) (device : ℕ) (cause : Why)
          → slice_get (map (λ d. cause_at_first starts.fresh) xs) device ≡ Some (Some cause) → why.Recovered ≡ cause
      recovered so [] device cause h = absurd cc
      recovered so (x ∷ xs) zero cause h = one_cause so cause (same_Some (cause_at_first starts.fresh) (Some cause) h)
      recovered so (x ∷ xs) (suc device) cause h = recovered so xs device cause h

  pub starts_rested : IsRested first
  starts_rested hub up = ap (λ (h : Hub). h.mends) (sym (same_Some _ hub (sym starts.hub ∙ up)))

module _ {D : Type 0} (here : Setting D)
    (only_now : (d : D) (c : List ℕ) → here.disk.left_since d (here.disk.moment d) c → here.disk.may_leave d c)
    (are : AreDecls here.decls) (plans : PlanStands) (legally : LegalStands) (order : KeepsOrder) (verdict : HasOneVerdict)
    (kinds : (device : ℕ) → IsOfHub (here.kinds device)) (lawful : (device : ℕ) → IsLawful (here.kinds device) (over here.decls device))
    (planning : Planning (over here.decls) (StandsAt here.decls) (FitAt here.decls) (ValidAt here.decls))
    (fit : (device : ℕ) → IsFitting (here.kinds device) (over here.decls device))
    (accepted : (device : ℕ) → (here.kinds device).accepts (over here.decls device []) ≡ true) where
  pub has_headline : (script : List ScriptStep) (first last : World D) (run : Run here script first last) → StartsRun here first → Headline here script first last run
  has_headline script first last run starts = record {
    one_history = one_history here only_now are plans legally order script first last run kept starts.uncut;
    whenever_it_is_read = whenever_it_is_read here only_now are plans legally order script first last run kept starts.uncut;
    whenever_it_crashes = whenever_it_crashes here only_now are plans legally order script first last run kept starts.uncut;
    grows = λ turn among. turn_grows here are plans kinds lawful planning turn (came turn among).before.0 (came turn among).before.1 (came turn among).comes;
    opens_again = opens_again here only_now are plans legally order script first last run kept starts.uncut verdict;
    acknowledged = acknowledged here are plans kinds lawful planning only_now legally order script first last run kept own;
    in_callers_order = in_callers_order here are plans legally order script first last run kept (starts_idle here first starts);
    refusals_change_nothing = λ turn call given among says sound refused. turn_unmoved here turn (came turn among).comes call given says sound refused;
    reconciled = runs_mended here only_now are plans legally order kinds lawful planning script first last run kept own;
    all_settled = λ turn t among seen. turn_settles here turn (came turn among).comes seen t;
    in_step = runs_in_step here only_now are plans legally order kinds lawful planning script first last run kept own;
    comes_back = λ earlier later turn device parts declared'. (came_all earlier later turn device parts).0 declared';
    never_falls = λ earlier later turn device parts. (came_all earlier later turn device parts).1;
    moves_on = λ turn device among. turn_moves here turn (came turn among).comes device;
    pending_known = λ turn device t among pends. runs_pend_known here only_now are plans legally order kinds lawful planning script first last run kept own turn device t among
        (is_synced here are plans legally order kinds lawful planning turn.behind (synced_in here are plans legally order kinds lawful planning only_now script first last run kept own
        (λ device'. ap (λ (n : NodeState). n.pending) (starts.nodes device')) turn among) device t pends) pends;
    as_printed = as_printed here script first last run;
    ends_because = λ earlier later turn met parts seen. because earlier later turn met parts seen;
    accepted_at_first = λ new count device. ap (λ (h : List Call). (here.kinds device).accepts (over here.decls device h)) (ap (take count) new ∙ take_none count) ∙ accepted device;
    still_accepted = still_accepted here only_now are plans legally order kinds lawful planning fit script first last run kept own replies (starts_unrefused here first starts);
    resolved_as_decided = λ turn hub device t kind reply count among up seen. record {
      cancels = λ due. (resolved turn among hub up device kind reply count seen (op.Cancel t) due).cancels t refl;
      confirms = λ due. subst (λ (l : List Entry). (place : ℕ) × ((told_by l).place t ≡ Some place)) (uncut_read turn.before.journal ((came turn among).before.0.hub hub up).0)
          ((resolved turn among hub up device kind reply count seen (op.Confirm t) due).confirms t refl);
      prepares = λ seconds due. let so = resolved turn among hub up device kind reply count seen (op.CommitConfirmed t seconds) due in (
        so.prepares t seconds refl,
        subst (λ (l : List Entry). (told_by l).intents t ≢ None) (uncut_read turn.before.journal ((came turn among).before.0.hub hub up).0) (so.intends t seconds refl),
      );
    };
    edits_exactly = λ turn hub device set kind reply count among up seen due. (resolved turn among hub up device kind reply count seen (op.Edit set) due).edits set refl;
    reopens = λ turn why among ends refused. reopens here verdict turn (came turn among).before.0 why ends refused;
    settled = settled here only_now are plans legally order kinds lawful planning script first last run kept own (starts_served here first starts) (starts_rested here first starts);
    settle_answers = λ before rest line parts is. served_by here are plans legally order kinds lawful planning first run.middle run.lines before rest line kept own run.done parts
        (left_still here only_now are plans legally order kinds lawful planning script first last run kept own (starts_served here first starts) (starts_rested here first starts) line
        (subst (λ (l : List (LineDone D)). Contains l line) (sym parts) (among_split before line rest)) is);
    bounded = bounded here are plans legally order kinds lawful planning only_now at_most script first last run kept own (starts_rested here first starts);
    answered_because = λ earlier later turn call given parts says.
        let is = answered turn (subst (λ (l : List (Turn D)). Contains l turn) (sym parts) (among_split earlier turn later)) in
        turn_because here first earlier turn are plans kinds lawful planning is.comes is.before.0 is.before.1.0 is.before.1.1
        (known_before here are plans legally order kinds lawful planning (steps_reply here are plans kinds lawful planning fit) first script last run kept own replies
        (starts_faults here first starts) earlier later turn parts) call given says;
  }
    where
      take_none : (count : ℕ) → take {A = Call} count [] ≡ []
      take_none zero = refl
      take_none (suc count) = refl

      at_most : (world : World D) (hub : Hub) → DevicesKept here.decls world → world.hub ≡ Some hub → hub.mends ≡ None → turns_left hub world.links ≤ turns_at_most hub
      at_most world hub devices up idle = turns_bounded here.decls devices.shadow (entries_read world.journal) hub world.links (devices.under hub up) idle

      kept : HistoryKept here first
      kept = starts_kept here first starts are plans legally order

      own : DevicesKept here.decls first
      own = starts_devices here first starts lawful planning

      replies : RepliesKept here first
      replies = starts_replies here first starts accepted

      answered : (turn : Turn D) → Contains (turns_of run) turn → IsReplied here only_now are plans legally order kinds lawful planning fit last turn
      answered turn among = replied here only_now are plans legally order kinds lawful planning fit script first last run kept own replies turn among

      because : (earlier later : List (Turn D)) (turn : Turn D) (met : RecFault) → turns_of run ≡ earlier ++ turn ∷ later → turn.seen ≡ Some (event.Reconcile (Some (Err met)))
          → FailsToMendBecause here (history_read first.journal) earlier turn met
      because earlier later turn met parts seen = by met seen (ends_by here only_now are plans legally order kinds lawful planning fit script first last run kept (starts_meets here first starts) turn among met seen)
        where
          among : Contains (turns_of run) turn
          among = subst (λ (l : List (Turn D)). Contains l turn) (sym parts) (among_split earlier turn later)

          by : (m : RecFault) → turn.seen ≡ Some (event.Reconcile (Some (Err m))) → EndsBy here turn.before turn.behind m → FailsToMendBecause here (history_read first.journal) earlier turn m
          by (fault.LinkFault device number) e ends =
              met_since here are plans legally order kinds lawful planning script first last run kept own (starts_rested here first starts) earlier later turn device number parts e
          by fault.DiskFault e ends = ends
          by (fault.Refused device said) e ends = λ accepts.
              unrefused here only_now are plans legally order kinds lawful planning fit script first last run kept own replies (starts_unrefused here first starts) accepts turn among device said e
          by fault.Memory e ends = tt
          by (fault.Full len) e ends = ends

      came_all : AllCame here are plans legally order kinds lawful planning (turns_of run)
      came_all = all_came here are plans legally order kinds lawful planning script first last run kept own (starts_at here first starts lawful planning) (λ device. ap (λ (n : NodeState). n.pending) (starts.nodes device))

      came : (turn : Turn D) → Contains (turns_of run) turn → IsTracked here only_now are plans legally order kinds lawful planning last turn
      came turn among = tracked here only_now are plans legally order kinds lawful planning script first last run kept own turn among

      resolved : (turn : Turn D) → Contains (turns_of run) turn → (hub : Hub) → turn.before.hub ≡ Some hub → (device : ℕ) (kind : OpKind) (reply : Mark) (count : ℕ)
          → turn.seen ≡ Some (event.Perform device kind reply count) → (one : Op) → due_on hub device ≡ Some one → ResolvesSo here.decls turn.before device one
      resolved turn among hub up device kind reply count seen one due =
          steps_resolve here kinds lawful planning turn.before turn.behind turn.meant turn.seen (came turn among).before.1 (came turn among).comes hub up device kind reply count seen one due
