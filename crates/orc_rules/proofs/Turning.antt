-- Each event keeps the journal one of a legal history, in each image and as it is read, and the hub knows it.
use Rattle.std.proofs.Common.{◌≡◌, ℕ, Bool, true, false, cond, List, [], ◌∷◌, ◌++◌, Option, None, Some, map, All, Contains, IsTrue, refl, sym, ap, subst, ◌∙◌, append-nil}
use Rattle.std.specs.Cmp.{first_so}
use Rattle.std.proofs.lemmas.Option.{same_Some}
use Rattle.std.proofs.lemmas.List.Elements.{All-contains_itself, All-nil, All-weaker}
use Rattle.orc_journal.specs.declared.outcome.Appended.TheVariants as appended
use Rattle.orc_call.specs.declared.call.Call.{Call}
use Rattle.orc_call.specs.declared.answer.Why.{Why}
use Rattle.orc_journal.specs.Committed.{as_calls, commits, history_of}
use Rattle.orc_journal.specs.Laws.{IsUnnamed, KeepsOrder, MayFollow}
use Rattle.orc_journal.specs.Orders.{is_ordered}
use Rattle.orc_journal.specs.declared.entry.Entry.{Entry}
use Rattle.orc_journal.specs.declared.entry.Entry.TheVariants as entry
use Rattle.orc_journal.proofs.Orderings.{is_ordered-push}
use Rattle.orc_plans.specs.Plans.{LegalStands, PlanStands}
use Rattle.orc_decls.specs.Declarations.{AreDecls}
use Rattle.orc_datastore.specs.Legal.{IsLegal}
use Rattle.orc_rules.specs.Admissions.{intent_entry}
use Rattle.orc_rules.specs.Due.{is_decision_due}
use Rattle.orc_rules.specs.Duties.{duty_told, duty_took}
use Rattle.orc_rules.specs.Events.{DoesUnderHub, DoesAnyway, Steps, mender_freed}
use Rattle.orc_rules.specs.Hubs.{Hub, with_changed}
use Rattle.orc_rules.specs.Journals.{HoldsEntries, IsReadBack, Journal, entries_read}
use Rattle.orc_rules.specs.Kept.{FrontsAre, HistoryKept, HubKept, IsOpenIn, JournalKept}
use Rattle.orc_rules.specs.Standing.{IsWaiting}
use Rattle.orc_rules.specs.Transactions.{in_phase, is_other, is_preparing, retired}
use Rattle.orc_rules.specs.Verdicts.{are_heard}
use Rattle.orc_rules.specs.Worlds.{Setting, World, new_hub}
use Rattle.orc_rules.specs.declared.duty.Duty.{Duty}
use Rattle.orc_rules.specs.declared.event.Event.{Event}
use Rattle.orc_rules.specs.declared.transaction.Phase.TheVariants as phase
use Rattle.orc_rules.specs.declared.transaction.Transaction.{Transaction}
use Rattle.orc_rules.specs.declared.transaction.Waiting.{Waiting}
use Rattle.orc_queue.specs.Fitting.{FitTogether}
use Rattle.orc_rules.proofs.Entering.{All-at}
use Rattle.orc_rules.proofs.Fronts.{history_of-append}
use Rattle.orc_rules.proofs.Legality.{appends_kept, front_none, no_front, one_front, reopens_kept, same_history, stays_kept}
use Rattle.orc_rules.proofs.Legally.{abort_keeps, admit_keeps, commit_keeps, queue_keeps, report_keeps, settle_keeps, turn_away_keeps, unsettled_so}
use Rattle.orc_rules.proofs.Leaving.{leaves_hub, phase_leaves}
use Rattle.orc_rules.proofs.Resettling.{row_settles, settles_known}
use Rattle.orc_rules.proofs.Standings.{commit_is_legal}
use Rattle.orc_decls.specs.declared.declarations.Decls.{Decls}

pub uncut_read : {D : Type 0} (journal : Journal D) → journal.cut ≡ [] → entries_read journal ≡ journal.synced
uncut_read journal none = on journal.cut_is_read
  where
    on : (read : Bool) → cond read (journal.synced ++ journal.cut) journal.synced ≡ journal.synced
    on true = ap (λ (l : List Entry). journal.synced ++ l) none ∙ append-nil journal.synced
    on false = refl

without_active : (decls : Decls) {entries : List Entry} {history : List Call} {active : List Transaction} {waiting : List Waiting} {taken : ℕ → Bool}
    → HubKept decls entries history active waiting taken → HubKept decls entries history [] waiting taken
without_active decls own = record {
  intents = λ i x there h. absurd cc;
  settle = λ i x there h. absurd cc;
  admitted = λ i x there h. absurd cc;
  fresh = λ i x there h. absurd cc;
  fit = λ i j x y there there' differ. absurd cc;
  apart = λ i j x y there there' h h' differ same. absurd cc;
  waits_apart = λ i x there h. absurd cc;
  waits = own.waits;
  unused = own.unused;
  numbered = own.numbered;
  waiting_apart = own.waiting_apart;
}

all_of : {P : ℕ → Type 0} (numbers : List ℕ) → ((t : ℕ) → Contains numbers t → P t) → All P numbers
all_of {P = P} numbers f = All-weaker (Contains numbers) P f numbers (All-contains_itself numbers)

module _ {D : Type 0} (here : Setting D) (are : AreDecls here.decls) (plans : PlanStands) (legally : LegalStands) (order : KeepsOrder) where
  abbrev pub HubAt : List Entry → Hub → Type 0
  HubAt entries hub = HubKept here.decls entries (history_of entries) hub.active hub.waiting hub.given

  module _ (world : World D) (hub : Hub) (ordered : IsTrue (is_ordered (entries_read world.journal)))
      (legal : IsLegal here.decls (history_of (entries_read world.journal))) (own : HubAt (entries_read world.journal) hub) (up : world.hub ≡ Some hub) where
    abbrev pub Result : List Entry → World D → Type 0
    Result row next = FrontsAre here.decls (entries_read world.journal) row × ((hub' : Hub) → next.hub ≡ Some hub' → HubAt (entries_read world.journal ++ row) hub')

    nothing : (next : World D) (x : Hub) → next.hub ≡ Some x → HubAt (entries_read world.journal) x → Result [] next
    nothing next x is kept = (
      no_front here.decls (entries_read world.journal) ordered legal,
      λ hub' e. subst (λ (l : List Entry). HubAt l hub') (sym (append-nil (entries_read world.journal))) (subst (HubAt (entries_read world.journal)) (same_Some x hub' (sym is ∙ e)) kept),
    )

    one : (next : World D) (x : Hub) (e : Entry) → next.hub ≡ Some x → MayFollow (entries_read world.journal) e → IsLegal here.decls (history_of (entries_read world.journal ++ e ∷ []))
        → HubAt (entries_read world.journal ++ e ∷ []) x → Result (e ∷ []) next
    one next x e is may legal' kept = (
      one_front here.decls (entries_read world.journal) e ordered legal (is_ordered-push (entries_read world.journal) e ordered ((order (entries_read world.journal) e ordered).1 may)) legal',
      λ hub' h. subst (HubAt (entries_read world.journal ++ e ∷ [])) (same_Some x hub' (sym is ∙ h)) kept,
    )

    -- an entry that commits nothing
    quiet : (next : World D) (x : Hub) (e : Entry) → next.hub ≡ Some x → MayFollow (entries_read world.journal) e → commits (entries_read world.journal) e ≡ []
        → HubKept here.decls (entries_read world.journal ++ e ∷ []) (history_of (entries_read world.journal)) x.active x.waiting x.given → Result (e ∷ []) next
    quiet next x e is may none kept =
        let same : history_of (entries_read world.journal) ≡ history_of (entries_read world.journal ++ e ∷ []) = sym (same_history (entries_read world.journal) e none) in
        one next x e is may (subst (IsLegal here.decls) same legal)
        (subst (λ (h : List Call). HubKept here.decls (entries_read world.journal ++ e ∷ []) h x.active x.waiting x.given) same kept)

    preparing_so : (it : Transaction) → is_decision_due hub.duties it ≡ true → is_preparing it.phase ≡ true
    preparing_so it due = first_so (is_preparing it.phase) (are_heard hub.duties it.t it.plan.held.devices) due

    pub does_keeps : (meant : Event) (row : List Entry) (next : World D) → DoesUnderHub here world hub meant row next → Result row next
    does_keeps meant row next (DoesUnderHub.begins caller) = nothing next hub up own
    does_keeps meant row next (DoesUnderHub.answers call front said asked snap why keeps) = nothing next _ refl own
    does_keeps meant row next (DoesUnderHub.queues it front snap same lawful closed apart new within made number slot) =
        nothing next _ refl (queue_keeps here.decls (entries_read world.journal) (history_of (entries_read world.journal)) hub.active hub.waiting hub.given own it
        (record { lawful = lawful; planned = record { front = within; planned = made }; fresh = new }) number.unused number.new apart.waits apart.prepares)
    does_keeps meant row next (DoesUnderHub.turns_away place it said there first idle why) =
        nothing next _ refl (turn_away_keeps here.decls (entries_read world.journal) (history_of (entries_read world.journal)) hub.active hub.waiting hub.given own place)
    does_keeps meant row next (DoesUnderHub.admits place it sets there first idle passes fresh) =
        let same : first.it ≡ it = same_Some first.it it (sym first.fits.there ∙ there) in
        let waits = All-at (λ (one : Waiting). IsUnnamed (entries_read world.journal) one.t) hub.waiting place it own.unused there in
        quiet next _ (intent_entry it) refl waits refl
        (admit_keeps here.decls (entries_read world.journal) (history_of (entries_read world.journal)) hub.active hub.waiting hub.given own place it there
        (subst (λ (w : Waiting). All (λ (other : Transaction). FitTogether w.plan.held other.plan.held) hub.active) same first.fits.active_ones)
        legal passes.unrefused passes.stands)
    does_keeps meant row next (DoesUnderHub.performs device op happened due unheard possible way) = nothing next hub up own
    does_keeps meant row next (DoesUnderHub.leaves_unsent device changes due unheard) = nothing next hub up own
    does_keeps meant row next (DoesUnderHub.reports device op reply unheard) =
        nothing next _ refl (report_keeps here.decls (entries_read world.journal) (history_of (entries_read world.journal)) hub.active hub.waiting hub.given own
        (with_changed (λ duty. duty_took duty reply (world.links device).faults) device hub.duties))
    does_keeps meant row next (DoesUnderHub.commits place it there least due prepared valid) =
        let preparing = preparing_so it due in
        let open_in : IsOpenIn (entries_read world.journal) it = own.intents place it there preparing in
        let grows : history_of (entries_read world.journal ++ entry.Decide it.t ∷ []) ≡ history_of (entries_read world.journal) ++ it.call ∷ [] =
        history_of-append (entries_read world.journal) (entry.Decide it.t) ∙ ap (λ (o : Option Call). history_of (entries_read world.journal) ++ as_calls o) open_in.call in
        let decided = commit_keeps here.decls (entries_read world.journal) (history_of (entries_read world.journal)) hub.active hub.waiting hub.given own place it there plans are preparing in
        let duties = map (duty_told it.t true) hub.duties in
        one next _ (entry.Decide it.t) refl open_in.undecided
        (subst (IsLegal here.decls) (sym grows) (commit_is_legal legally here.decls (history_of (entries_read world.journal)) it legal (own.admitted place it there preparing) valid))
        (subst (λ (h : List Call). HubKept here.decls (entries_read world.journal ++ entry.Decide it.t ∷ []) h
        (map (retired duties) (map (in_phase it.t phase.Decided) hub.active)) hub.waiting hub.given) (sym grows)
        (report_keeps here.decls (entries_read world.journal ++ entry.Decide it.t ∷ []) (history_of (entries_read world.journal) ++ it.call ∷ []) (map (in_phase it.t phase.Decided) hub.active) hub.waiting hub.given decided duties))
    does_keeps meant row next (DoesUnderHub.aborts place it said there least due why) =
        let preparing = preparing_so it due in
        let open_in : IsOpenIn (entries_read world.journal) it = own.intents place it there preparing in
        let aborted = abort_keeps here.decls (entries_read world.journal) (history_of (entries_read world.journal)) hub.active hub.waiting hub.given own place it there preparing hub.duties in
        quiet next _ (entry.Abort it.t) refl open_in.undecided refl
        (report_keeps here.decls (entries_read world.journal ++ entry.Abort it.t ∷ []) (history_of (entries_read world.journal)) (map (in_phase it.t phase.Aborted) hub.active) hub.waiting hub.given aborted (map (duty_told it.t false) hub.duties))
    does_keeps meant row next (DoesUnderHub.settles place it there least settling) =
        quiet next _ (entry.Settled it.t) refl (own.settle place it there (unsettled_so it.phase settling)) refl
        (subst (λ (xs : List Transaction). HubKept here.decls (entries_read world.journal ++ entry.Settled it.t ∷ []) (history_of (entries_read world.journal)) xs hub.waiting hub.given)
        (phase_leaves it.t phase.Left hub.active)
        (leaves_hub here.decls (entries_read world.journal ++ entry.Settled it.t ∷ []) (history_of (entries_read world.journal)) (map (in_phase it.t phase.Left) hub.active) hub.waiting hub.given
        (settle_keeps here.decls (entries_read world.journal) (history_of (entries_read world.journal)) hub.active hub.waiting hub.given own place it there settling) (is_other it.t)))
    does_keeps meant row next DoesUnderHub.stops = (no_front here.decls (entries_read world.journal) ordered legal, λ hub' e. absurd (let no : None ≡ Some hub' = e in cc))
    does_keeps meant row next (DoesUnderHub.mends numbers idle unsettled) = nothing next _ refl own
    does_keeps meant row next (DoesUnderHub.mended numbers met busy heard unsettled) =
        let kept : HubKept here.decls (entries_read world.journal) (history_of (entries_read world.journal)) [] hub.waiting hub.given = without_active here.decls own in
        let may = all_of {P = λ t. MayFollow (entries_read world.journal) (entry.Settled t)} numbers (λ t among. settles_known order (entries_read world.journal) ordered t ((unsettled.all t).0 among)) in
        let result = row_settles order here.decls hub.given hub.waiting (entries_read world.journal) numbers ordered legal unsettled.ascending may kept in
        (result.0, λ hub' e. subst (HubAt (entries_read world.journal ++ map entry.Settled numbers)) (same_Some (record hub { active = []; mends = None; duties = map mender_freed hub.duties }) hub' e) result.1)
    does_keeps meant row next (DoesUnderHub.finds_no_memory met busy heard) = nothing next _ refl own
    does_keeps meant row next (DoesUnderHub.fails_to_mend met failed heard) = nothing next _ refl own

  -- a hub with nothing under way
  pub idle_kept : (entries : List Entry) (history : List Call) (taken : ℕ → Bool) → HubKept here.decls entries history [] [] taken
  idle_kept entries history taken = record {
    intents = λ i x there h. absurd cc;
    settle = λ i x there h. absurd cc;
    admitted = λ i x there h. absurd cc;
    fresh = λ i x there h. absurd cc;
    fit = λ i j x y there there' differ. absurd cc;
    apart = λ i j x y there there' h h' differ same. absurd cc;
    waits_apart = λ i x there h. absurd cc;
    waits = All-nil (IsWaiting here.decls history);
    unused = All-nil (λ (one : Waiting). IsUnnamed entries one.t);
    numbered = All-nil (λ (one : Waiting). taken one.t ≡ true);
    waiting_apart = tt;
  }

  -- each turn
  at_end : (new next : World D) (hub : Hub) → new ≡ record next { journal = new.journal } → new.hub ≡ Some hub → next.hub ≡ Some hub
  at_end new next hub is e = sym (ap (λ (w : World D). w.hub) is) ∙ e

  -- what is done under a hub that is up
  pub under : (old next : World D) (hub : Hub) (meant : Event) (row : List Entry) → HistoryKept here old → old.hub ≡ Some hub → DoesUnderHub here old hub meant row next
      → FrontsAre here.decls old.journal.synced row × ((hub' : Hub) → next.hub ≡ Some hub' → HubAt (old.journal.synced ++ row) hub')
  under old next hub meant row kept up does =
      let own = kept.hub hub up in
      let so = front_none here.decls old.journal.synced old.journal.cut kept.journal.fronts in
      let read : old.journal.synced ≡ entries_read old.journal = sym (uncut_read old.journal own.0) in
      subst (λ (l : List Entry). FrontsAre here.decls l row × ((hub' : Hub) → next.hub ≡ Some hub' → HubAt (l ++ row) hub')) (sym read)
      (does_keeps old hub (subst (λ (l : List Entry). IsTrue (is_ordered l)) read so.0)
      (subst (λ (l : List Entry). IsLegal here.decls (history_of l)) read so.1) (subst (λ (l : List Entry). HubAt l hub) read own.1) up meant row next does)

  -- where no hub is up there is none to know it
  no_hub : (new like : World D) → JournalKept here new.journal → new ≡ like → like.hub ≡ None → HistoryKept here new
  no_hub new like journal is none = record {
    journal = journal;
    hub = λ hub e. absurd (let no : None ≡ Some hub = sym none ∙ sym (ap (λ (w : World D). w.hub) is) ∙ e in cc);
  }

  pub steps_keep : (old new : World D) (meant : Event) (seen : Option Event) → HistoryKept here old → Steps here old meant seen new → HistoryKept here new
  steps_keep old new meant seen kept (Steps.done hub row next _ up does appends is) =
      let result = under old next hub meant row kept up does in
      let whole : row ≡ appends.done = appends.parts ∙ ap (λ (l : List Entry). appends.done ++ l) appends.ends.0 ∙ append-nil appends.done in
      record {
        journal = appends_kept here old.journal new.journal row appended.Done kept.journal result.0 appends;
        hub = λ hub' e. (
          appends.ends.1,
          subst (λ (l : List Entry). HubAt l hub') (ap (λ (l : List Entry). old.journal.synced ++ l) whole ∙ sym appends.synced) (result.1 hub' (at_end new next hub' is e)),
        );
      }
  steps_keep old new meant seen kept (Steps.cut hub row next _ up does appends is) =
      no_hub new _ (appends_kept here old.journal new.journal row appended.Stopped kept.journal (under old next hub meant row kept up does).0 appends) is refl
  steps_keep old new meant seen kept (Steps.failed hub row next _ up does appends is) =
      no_hub new _ (appends_kept here old.journal new.journal row appended.Failed kept.journal (under old next hub meant row kept up does).0 appends) is refl
  steps_keep old new meant seen kept (Steps.full hub row next len _ up does appends is) =
      no_hub new _ (appends_kept here old.journal new.journal row (appended.Full len) kept.journal (under old next hub meant row kept up does).0 appends) is refl
  steps_keep old new meant seen kept (Steps.anyway _ (DoesAnyway.ticks seconds)) = record { journal = kept.journal; hub = kept.hub }
  steps_keep old new meant seen kept (Steps.anyway _ (DoesAnyway.restarts device)) = record { journal = kept.journal; hub = kept.hub }
  steps_keep old new meant seen kept (Steps.anyway _ (DoesAnyway.answers_down call front down)) = kept
  steps_keep old new meant seen kept (Steps.unopened _ down recover stays is) =
      no_hub new _ (stays_kept here old.journal new.journal kept.journal stays) is down
  steps_keep old new meant seen kept (Steps.recovers _ down recover reopens is) = record {
    journal = reopens_kept here old.journal new.journal kept.journal reopens;
    hub = λ hub e. (
      reopens.cut,
      subst (HubAt new.journal.synced) (same_Some _ hub (sym (ap (λ (w : World D). w.hub) is) ∙ e)) (idle_kept new.journal.synced (history_of new.journal.synced) (λ t. false)),
    );
  }

  -- the world as a run begins: a journal of a legal history, nothing cut, and a hub with nothing under way
  pub opened_kept : (world : World D) (duties : List Duty) (stale : List (Option Why)) → IsReadBack here.disk here.decls.text here.limit here.granted world.journal.disk → HoldsEntries here.disk here.decls.text here.limit world.journal
      → IsTrue (is_ordered world.journal.synced) → IsLegal here.decls (history_of world.journal.synced) → world.journal.cut ≡ []
      → world.hub ≡ Some (new_hub duties stale) → HistoryKept here world
  opened_kept world duties stale read_back holds ordered legal uncut up = record {
    journal = record {
      holds = holds;
      fronts = subst (λ (l : List Entry). FrontsAre here.decls world.journal.synced l) (sym uncut) (no_front here.decls world.journal.synced ordered legal);
      read_back = read_back;
    };
    hub = λ hub e. (
      uncut,
      subst (HubAt world.journal.synced) (same_Some (new_hub duties stale) hub (sym up ∙ e)) (idle_kept world.journal.synced (history_of world.journal.synced) (λ t. false)),
    );
  }
