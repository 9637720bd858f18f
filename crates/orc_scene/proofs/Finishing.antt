-- The beginning and the end of a reconciliation.
use Rattle.std.proofs.Common.{[], ◌≡◌, ◌⊎◌, inl, inr, ℕ, true, false, Option, Some, None, List, ◌∷◌, ◌++◌, All, length, refl, sym, ap, subst, ◌∙◌, append-nil}
use Rattle.std.specs.Prelude.{Result, Ok, Err, IfErr, IfOk, IsTrue, MatchOption, MatchResult, OnOk, codes, slice_get}
use Rattle.std.specs.Global.{Vec}
use Rattle.std.specs.Option.{option_map_or}
use Rattle.std.proofs.lemmas.Bool.{false≢true}
use Rattle.std.proofs.lemmas.Option.{none-some, same_Some}
use Rattle.orc_call.specs.declared.answer.RecFault.{RecFault}
use Rattle.orc_call.specs.declared.answer.RecFault.TheVariants as fault
use Rattle.orc_call.specs.declared.call.Call.{Call}
use Rattle.orc_decls.specs.declared.declarations.Decls.{Decls}
use Rattle.orc_disk.specs.Meanings.{DiskMeaning}
use Rattle.orc_disk.specs.Stops.{Stopping, inside}
use Rattle.orc_hub.specs.Hubs.{record_of}
use Rattle.orc_hub.specs.Keeps.{IsSoundHub, KeepsHub}
use Rattle.orc_hub.specs.Mends.{EndsMending, begun_to_mend}
use Rattle.orc_hub.specs.declared.hub.Hub.{Hub}
use Rattle.orc_hub_laws.specs.Named.{MendingEndIsNamed}
use Rattle.orc_hub_laws.specs.Turns.{ComesToEnd, MendingBegins, MendingEnds, world_with}
use Rattle.orc_hub_laws.specs.Under.{FailsIn, GoesOnUnder, InEach, IsWorldOf, LacksRoomFor, with_journal}
use Rattle.orc_journal.specs.declared.entry.Entry.{Entry}
use Rattle.orc_links.specs.Networks.{absent_link, heard_link}
use Rattle.orc_node.specs.LinkStates.{LinkState}
use Rattle.orc_print.specs.Printed.{is_end_among, mended_line}
use Rattle.orc_rules.specs.Acceptance.{declared_kind}
use Rattle.orc_rules.specs.Events.{DoesAnyway, DoesUnderHub, Steps, Turn, seen_failing}
use Rattle.orc_rules.specs.Hubs.{Hub as HubState}
use Rattle.orc_rules.specs.Journals.{history_read}
use Rattle.orc_rules.specs.Worlds.{IsIdle, Link, Setting, World as Seen, without_hub}
use Rattle.orc_rules.specs.declared.event.Event.{Event}
use Rattle.orc_rules.specs.declared.event.Event.TheVariants as event
use Rattle.orc_runs.specs.Ends.{EndedBecause}
use Rattle.orc_runs.specs.Laws.{RunsAreCarried}
use Rattle.orc_runs.specs.Scripts.{IsOf, Part as part}
use Rattle.orc_runs.specs.Serving.{IsRested}
use Rattle.orc_text.specs.declared.memory.Memory.{Memory}
use Rattle.orc_state.specs.Laws.{SnapshotStaysAtFront}
use Rattle.orc_state.specs.States.{IsSnapshotAt}
use Rattle.orc_scene.specs.Effects.{PrintsText, hub_in}
use Rattle.orc_scene.specs.inside.Effects.{ConcludesMending, FailsMending, GivesUpMending, LetsGo, full_at, is_down, is_stopped, place_without}
use Rattle.orc_scene.specs.Courses.{DoesTurn, EndsTurn, HasEvents, MayEndTurn, MendsDevices, TurnOrEnd}
use Rattle.orc_scene.specs.Laws.{SceneIsCarried}
use Rattle.orc_scene.specs.Snapshots.{fronts_of}
use Rattle.orc_scene.specs.Stands.{HasDisk, IsSeenAs, IsSoundScene, IsNotReconciling, decls_in, run_setting}
use Rattle.orc_scene.specs.RunEnds.{end_of_run}
use Rattle.orc_scene.specs.declared.snapshots.Snapshots.{Snapshots}
use Rattle.orc_scene.specs.declared.stop.WorldStop.{WorldStop}
use Rattle.orc_scene.specs.declared.stop.WorldStop.TheVariants as stop
use Rattle.orc_scene.specs.declared.scene.Place.{Place}
use Rattle.orc_scene.specs.declared.scene.Place.TheVariants.{Up, Down}
use Rattle.orc_scene.specs.declared.scene.Scene.{Scene}
use Rattle.orc_scene.proofs.HubTurns.{at_last_one, ends_failed, ends_full, fault_because, fronts_behind, hub_turn_done, stop_done, stop_unsaid, under_hub}
use Rattle.orc_scene.proofs.Resting.{unmended_there}
use Rattle.orc_scene.proofs.Lasted.{done, ended}
use Rattle.orc_scene.proofs.Unsaid.{all_told, last_untold}

-- every reply was heard
unheard_none : (o : Option LinkState) → (option_map_or heard_link o absent_link).unheard ≡ None
unheard_none None = refl
unheard_none (Some link) = refl

pub all_heard : {D : Type 0} (here : Setting D) (seen : Seen D) (world : Scene D) → IsSeenAs here seen world → (device : ℕ) → (seen.links device).unheard ≡ None
all_heard here seen world is device = ap (λ (f : ℕ → Link). (f device).unheard) is.links ∙ unheard_none (slice_get world.links.links device)

-- the beginning

module _ {D : Type 0} (disk : DiskMeaning D) (law : SceneIsCarried disk) (stays : SnapshotStaysAtFront) (begins : InEach disk MendingBegins)
    (old new : Scene D) (hub behind : Hub (Stopping D)) (up : old.place ≡ Up hub) where
  -- a reconciliation began
  pub mending_begun : IsIdle (record_of hub) → behind ≡ begun_to_mend hub
      → HasEvents (record old { place = Up behind }) new (old.events.items.items ++ event.Reconcile None ∷ []) → TurnOrEnd disk part.Beginning old (done tt) new [] []
  mending_begun idle made kept = λ decls granted seen is.
      (let here : Setting D = run_setting disk decls old.limit granted in
      let went : GoesOnUnder here seen (world_with behind seen) (event.Reconcile None) behind =
      begins decls (declared_kind decls) old.limit granted seen hub behind (under_hub here seen old hub is up) idle made in
      let grew : behind.state.history ≡ hub.state.history ++ [] = ap (λ (h : Hub (Stopping D)). h.state.history) made ∙ sym (append-nil hub.state.history) in
      hub_turn_done here (law decls old.limit granted is.decls) seen (world_with behind seen) (event.Reconcile None) old new hub behind is up went refl refl
      (λ caller. is.snapshots caller ∙ ap (λ (s : Snapshots). fronts_of s.taken caller) (sym kept.snapshots))
      (subst (λ (s : Snapshots). All (λ one. IsSnapshotAt here.decls (history_read went.journal) one.snapshot) s.taken) (sym kept.snapshots)
      (fronts_behind here stays seen (world_with behind seen) (event.Reconcile None) hub behind (under_hub here seen old hub is up) went [] grew old.snapshots.taken is.fronts))
      kept.limit kept.place kept.links [] [] part.Beginning tt tt (λ device. refl) kept.events_are refl)

  -- there was no memory to begin a reconciliation
  pub mending_unbegun : behind ≡ hub → new ≡ record old { place = Up behind } → TurnOrEnd disk part.Beginning old (ended stop.Memory) new [] []
  mending_unbegun same made = λ decls granted seen is.
      (let there : IsWorldOf (run_setting disk decls old.limit granted) seen hub = under_hub (run_setting disk decls old.limit granted) seen old hub is up in
      inr (record {
        memory = refl;
        disk = subst (λ (w : Scene D). HasDisk w.place seen.journal.disk) (sym made)
            (ap (λ (h : Hub (Stopping D)). h.log.journal.disk.inner) same ∙ sym (ap (λ j. j.disk) there.journal));
        events = ap (λ (w : Scene D). w.events.items.items) made;
        printed = refl;
      }))

-- the end

module _ {D : Type 0} (here : Setting D) where
  -- the end of a reconciliation leaves none begun
  does_end : (world : Seen D) (hub : HubState) (meant : Event) (row : List Entry) (next : Seen D) → DoesUnderHub here world hub meant row next → IsOf part.Ending meant → IsRested next
  does_end world hub meant row next (DoesUnderHub.mended numbers met busy heard unsettled) ends = λ h e. ap (λ (x : HubState). x.mends) (sym (same_Some _ h e))
  does_end world hub meant row next (DoesUnderHub.finds_no_memory met busy heard) ends = λ h e. ap (λ (x : HubState). x.mends) (sym (same_Some _ h e))
  does_end world hub meant row next (DoesUnderHub.fails_to_mend met failed heard) ends = λ h e. ap (λ (x : HubState). x.mends) (sym (same_Some _ h e))
  does_end world hub meant row next does ends = absurd ends

  pub steps_end : (old new : Seen D) (meant : Event) (seen : Option Event) → Steps here old meant seen new → IsOf part.Ending meant → IsRested new
  steps_end old new meant seen (Steps.done hub row next _ up does appends is) ends =
      λ h e. does_end old hub meant row next does ends h (sym (ap (λ (w : Seen D). w.hub) is) ∙ e)
  steps_end old new meant seen (Steps.cut hub row next _ up does appends is) ends =
      λ h e. absurd (none-some h (sym (ap (λ (w : Seen D). w.hub) is) ∙ e))
  steps_end old new meant seen (Steps.failed hub row next _ up does appends is) ends =
      λ h e. absurd (none-some h (sym (ap (λ (w : Seen D). w.hub) is) ∙ e))
  steps_end old new meant seen (Steps.full hub row next len _ up does appends is) ends =
      λ h e. absurd (none-some h (sym (ap (λ (w : Seen D). w.hub) is) ∙ e))
  steps_end old new meant seen (Steps.anyway _ (DoesAnyway.ticks seconds)) ends = absurd ends
  steps_end old new meant seen (Steps.anyway _ (DoesAnyway.restarts device)) ends = absurd ends
  steps_end old new meant seen (Steps.anyway _ (DoesAnyway.answers_down call front down)) ends = absurd ends
  steps_end old new meant seen (Steps.unopened _ down recover stays is) ends = absurd (subst (IsOf part.Ending) recover ends)
  steps_end old new meant seen (Steps.recovers _ down recover reopens is) ends = absurd (subst (IsOf part.Ending) recover ends)

-- after the end of a reconciliation none is begun and unfinished
pub ending_unmended : {D : Type 0} (disk : DiskMeaning D) (old new : Scene D) (before after : List ℕ) → IsSoundScene disk old → TurnOrEnd disk part.Ending old (done tt) new before after
    → IsNotReconciling new.place
ending_unmended {D = D} disk old new before after sound each =
    let here : Setting D = run_setting disk sound.0 old.limit sound.1 in
    let does : DoesTurn here sound.2 old new before after part.Ending = each sound.0 sound.1 sound.2 sound.3 in
    unmended_there here does.turn.behind new.place does.through.is.place (steps_end here does.turn.before does.turn.behind does.turn.meant does.turn.seen does.comes does.is_of)

module _ {D : Type 0} (here : Setting D) (carried : RunsAreCarried here) (stays : SnapshotStaysAtFront) (seen : Seen D) (old middle new : Scene D) (hub behind : Hub (Stopping D))
    (is : IsSeenAs here seen old) (up : old.place ≡ Up hub) (made : middle ≡ record old { place = Up behind }) (decls : behind.decls ≡ here.decls) (before after : List ℕ) where
  -- what came, or how the run ended in it
  abbrev pub EndsSo : Result (Unit {0}) WorldStop → Type 0
  EndsSo result = MatchResult result (λ value. DoesTurn here seen old new before after part.Ending) (λ why. MayEndTurn here seen old new before after part.Ending why)

  same_limit : middle.limit ≡ old.limit
  same_limit = ap (λ (w : Scene D). w.limit) made

  same_links : middle.links ≡ old.links
  same_links = ap (λ (w : Scene D). w.links) made

  same_snapshots : middle.snapshots ≡ old.snapshots
  same_snapshots = ap (λ (w : Scene D). w.snapshots) made

  same_events : middle.events.items.items ≡ old.events.items.items
  same_events = ap (λ (w : Scene D). w.events.items.items) made

  at : middle.place ≡ Up behind
  at = ap (λ (w : Scene D). w.place) made

  -- the reconciliation ended so, and the hub is still up
  went_on : (result : Result (Unit {0}) WorldStop) (told : Result (Unit {0}) RecFault) → (more : List Call) → behind.state.history ≡ hub.state.history ++ more
      → (went : GoesOnUnder here seen (world_with behind seen) (event.Reconcile (Some told)) behind)
      → new.limit ≡ middle.limit → new.place ≡ middle.place → new.links ≡ middle.links → new.snapshots ≡ middle.snapshots
      → new.events.items.items ≡ middle.events.items.items ++ event.Reconcile (Some told) ∷ []
      → OnOk result (after ≡ before ++ mended_line here.decls.names told) → IfErr result (λ why. (why ≡ stop.Memory) × (after ≡ before)) → EndsSo result
  went_on (Ok value) told more grew went limit place links snapshots events said_ok said_err =
      hub_turn_done here carried seen (world_with behind seen) (event.Reconcile (Some told)) old new hub behind is up went refl refl
      (λ caller. is.snapshots caller ∙ ap (λ (s : Snapshots). fronts_of s.taken caller) (sym (snapshots ∙ same_snapshots)))
      (subst (λ (s : Snapshots). All (λ one. IsSnapshotAt here.decls (history_read went.journal) one.snapshot) s.taken) (sym (snapshots ∙ same_snapshots))
      (fronts_behind here stays seen (world_with behind seen) (event.Reconcile (Some told)) hub behind (under_hub here seen old hub is up) went more grew old.snapshots.taken is.fronts))
      (limit ∙ same_limit) (place ∙ at) (links ∙ same_links) before after part.Ending tt tt (λ device. refl)
      (events ∙ ap (λ (es : List Event). es ++ event.Reconcile (Some told) ∷ []) same_events)
      (said_ok ∙ ap (λ (text : List ℕ). before ++ text) (sym (append-nil (mended_line here.decls.names told))))
  went_on (Err why) told more grew went limit place links snapshots events said_ok said_err =
      let turn : Turn D = record { before = seen; meant = event.Reconcile (Some told); seen = Some (event.Reconcile (Some told)); behind = with_journal went.journal (world_with behind seen) } in
      inl (record {
        turn = turn;
        first = refl;
        is_of = tt;
        called = tt;
        comes = went.comes;
        because = subst (λ (w : WorldStop). EndedBecause here (turn ∷ []) (end_of_run w)) (sym said_err.0) tt;
        ended = record {
          disk = subst (λ (p : Place D). HasDisk p went.journal.disk) (sym (place ∙ at)) (sym (ap (λ j. j.disk) went.is.journal));
          events = events ∙ ap (λ (es : List Event). es ++ event.Reconcile (Some told) ∷ []) same_events;
          at_last = at_last_one here turn;
        };
        prints = last_untold here.decls why before after turn said_err.0 said_err.1;
      })

  -- an append of it failed
  failed : (result : Result (Unit {0}) WorldStop) → FailsIn here seen (event.Reconcile (Some (Ok tt))) behind → FailsMending middle before result new after → EndsSo result
  failed (Ok value) (down, inl (stopped_there, gone)) (inl (stopped_so, stops, said_ok, said_err)) =
      stop_done here carried seen (event.Reconcile (Some (Ok tt))) old middle new behind is gone same_limit same_links same_events at decls stops before after part.Ending tt tt
      (said_ok ∙ ap (λ (text : List ℕ). before ++ text) (sym (append-nil (codes "stopped\n"))))
  failed (Err why) (down, inl (stopped_there, gone)) (inl (stopped_so, stops, said_ok, said_err)) =
      inl (subst (λ (w : WorldStop). EndsTurn here seen old new before after part.Ending w) (sym said_err.0)
      (stop_unsaid here carried seen (event.Reconcile (Some (Ok tt))) old middle new behind is gone same_limit same_links same_events at decls stops before after part.Ending tt tt said_err.1))
  failed result (down, inr (running, gone, rose)) (inl (stopped_so, stops, said_ok, said_err)) =
      absurd (false≢true (sym running ∙ sym (ap (λ (p : Place D). is_stopped p) at) ∙ stopped_so))
  failed result (down, inl (stopped_there, gone)) (inr (running, let_go, said_err, said_ok)) =
      absurd (false≢true (sym running ∙ ap (λ (p : Place D). is_stopped p) at ∙ stopped_there))
  failed (Ok value) (down, inr (unstopped, gone, rose)) (inr (running, let_go, said_err, said_ok)) = absurd said_ok
  failed (Err why) (down, inr (unstopped, gone, rose)) (inr (running, let_go, said_err, said_ok)) = on said_err.0
    where
      turn : Turn D
      turn = record { before = seen; meant = event.Reconcile (Some (Ok tt)); seen = seen_failing (event.Reconcile (Some (Ok tt))); behind = with_journal gone.journal (without_hub seen) }

      place_after : new.place ≡ Down behind.log.journal.disk.inner behind.decls
      place_after = let_go.place ∙ ap (λ (p : Place D). place_without p) at

      by : EndedBecause here (turn ∷ []) (end_of_run why) → EndsSo (Err why)
      by because = inl (ends_failed here seen (event.Reconcile (Some (Ok tt))) old new behind place_after why gone because before after part.Ending tt tt
          (let_go.events_are ∙ ap (λ (es : List Event). es ++ event.Reconcile (Some (Err fault.DiskFault)) ∷ []) same_events)
          (all_told here.decls why before after (turn ∷ []) (said_err.1 ∙ sym (append-nil before))))

      on : (why ≡ stop.JournalFault) ⊎ (why ≡ stop.Memory) → EndsSo (Err why)
      on (inl is_fault) = by (subst (λ (w : WorldStop). EndedBecause here (turn ∷ []) (end_of_run w)) (sym is_fault)
          (fault_because here seen (event.Reconcile (Some (Ok tt))) old new behind place_after gone rose))
      on (inr wanting) = by (subst (λ (w : WorldStop). EndedBecause here (turn ∷ []) (end_of_run w)) (sym wanting) tt)

  -- the end of the reconciliation had no room
  roomless : (result : Result (Unit {0}) WorldStop) (len : ℕ) → LacksRoomFor here seen (event.Reconcile (Some (Ok tt))) len behind
      → LetsGo middle new × (result ≡ Err (stop.Full len)) × (after ≡ before) → EndsSo result
  roomless result len lacks (let_go, full, printed) = subst EndsSo (sym full)
      (inl (ends_full here seen (event.Reconcile (Some (Ok tt))) old new behind (let_go.place ∙ ap (λ (p : Place D). place_without p) at) len lacks before after part.Ending tt tt
      (ap (λ e. e.items.items) let_go.events ∙ same_events) printed))

  still_up : is_down middle.place ≡ behind.down
  still_up = ap (λ (p : Place D). is_down p) at

  pub mending_so : (result : Result (Unit {0}) WorldStop) (told : Result (Unit {0}) RecFault) → (behind.down ≡ false → (more : List Call) × (behind.state.history ≡ hub.state.history ++ more))
      → ComesToEnd here seen told behind → ConcludesMending here.decls.names middle told before result new after → EndsSo result
  mending_so result told grew (inl went) (inl (down, gives_up)) = absurd (false≢true (sym went.is.up ∙ sym still_up ∙ down))
  mending_so result told grew (inl went) (inr (not_down, limit, place, links, snapshots, events, said_ok, said_err)) =
      let more = grew went.is.up in
      went_on result told more.0 more.1 went limit place links snapshots events said_ok said_err
  mending_so result told grew (inr (inl (failing, fails))) (inl (down, gives_up)) =
      failed result fails (subst (λ (o : Option ℕ). GivesUpMending o middle before result new after) (ap full_at failing) gives_up)
  mending_so result told grew (inr (inl (failing, fails))) (inr (not_down, limit, place, links, snapshots, events, said_ok, said_err)) =
      absurd (false≢true (sym not_down ∙ still_up ∙ fails.0))
  mending_so result told grew (inr (inr (len, is_full, lacks))) (inl (down, gives_up)) =
      roomless result len lacks (subst (λ (o : Option ℕ). GivesUpMending o middle before result new after) (ap full_at is_full) gives_up)
  mending_so result told grew (inr (inr (len, is_full, lacks))) (inr (not_down, limit, place, links, snapshots, events, said_ok, said_err)) =
      absurd (false≢true (sym not_down ∙ still_up ∙ lacks.0))

-- a reconciliation ended
pub mending_finished : {D : Type 0} (disk : DiskMeaning D) → SceneIsCarried disk → SnapshotStaysAtFront → InEach disk MendingEnds
    → (old middle new : Scene D) (hub behind : Hub (Stopping D)) (told : Result (Unit {0}) RecFault) (before after : List ℕ) (result : Result (Unit {0}) WorldStop)
    → old.place ≡ Up hub → middle ≡ record old { place = Up behind } → MendsDevices hub → EndsMending (inside disk) hub told behind → KeepsHub (inside disk) hub behind
    → ConcludesMending behind.decls.names middle told before result new after → TurnOrEnd disk part.Ending old result new before after
mending_finished {D = D} disk law stays ends old middle new hub behind told before after result up made mends ended_so keeps concludes = λ decls granted seen is.
    (let here : Setting D = run_setting disk decls old.limit granted in
    let there : IsWorldOf here seen hub = under_hub here seen old hub is up in
    let same_decls : behind.decls ≡ here.decls = keeps.decls ∙ there.decls in
    let comes : ComesToEnd here seen told behind =
    ends decls (declared_kind decls) old.limit granted seen hub behind told there mends.1 (all_heard here seen old is) ended_so in
    mending_so here (law decls old.limit granted is.decls) stays seen old middle new hub behind is up made same_decls before after result told keeps.history comes
    (subst (λ (d : Decls). ConcludesMending d.names middle told before result new after) same_decls concludes))

-- after it none is begun
pub ending_after : {D : Type 0} (disk : DiskMeaning D) (old new : Scene D) (before after : List ℕ) (result : Result (Unit {0}) WorldStop) → IsSoundScene disk old → TurnOrEnd disk part.Ending old result new before after
    → OnOk result (IsNotReconciling new.place)
ending_after disk old new before after (Ok value) sound each = ending_unmended disk old new before after sound each
ending_after disk old new before after (Err why) sound each = tt

-- what a call of the hub asks

module _ {D : Type 0} (disk : DiskMeaning D) (old : Scene D) (hub : Hub (Stopping D)) (sound : IsSoundScene disk old) (up : old.place ≡ Up hub) where
  pub own_hub : IsWorldOf (run_setting disk sound.0 old.limit sound.1) sound.2 hub
  own_hub = under_hub (run_setting disk sound.0 old.limit sound.1) sound.2 old hub sound.3 up

  pub hub_sound : IsSoundHub (inside disk) hub
  hub_sound = λ up_there. (sound.2.journal.synced, own_hub.sound)

  pub hub_up : hub.down ≡ false
  hub_up = own_hub.up

  -- how it ended names a declared device, if any
  pub end_named : InEach disk MendingEndIsNamed → (behind : Hub (Stopping D)) (told : Result (Unit {0}) RecFault) → EndsMending (inside disk) hub told behind → KeepsHub (inside disk) hub behind
      → IsTrue (is_end_among (length behind.decls.names) (Some told))
  end_named named behind told ended_so keeps =
      subst (λ (d : Decls). IsTrue (is_end_among (length d.names) (Some told))) (sym (keeps.decls ∙ own_hub.decls))
      (named sound.0 (declared_kind sound.0) old.limit sound.1 sound.2 hub behind told own_hub ended_so)

-- what is so of the hub that is up
pub there_up : {D : Type 0} (P : Hub (Stopping D) → Type 0) (place : Place D) (hub : Hub (Stopping D)) → place ≡ Up hub → MatchOption (hub_in place) ⊥ P → P hub
there_up {D = D} P place hub up all = subst (λ (p : Place D). MatchOption (hub_in p) ⊥ P) up all

pub up_there : {D : Type 0} (P : Hub (Stopping D) → Type 0) (place : Place D) (hub : Hub (Stopping D)) → place ≡ Up hub → P hub → MatchOption (hub_in place) ⊥ P
up_there {D = D} P place hub up is = subst (λ (p : Place D). MatchOption (hub_in p) ⊥ P) (sym up) is

-- the end of a reconciliation as it is kept and said

module _ {D : Type 0} (old new : Scene D) (told : Result (Unit {0}) RecFault) (before after : List ℕ) (result : Result (Unit {0}) WorldStop) where
  pub concluded : (text : Result (Vec ℕ) Memory) (names : List (List ℕ)) → MatchOption (decls_in old.place) ⊥ (λ decls. names ≡ decls.names) → is_down old.place ≡ false
      → HasEvents old new (old.events.items.items ++ event.Reconcile (Some told) ∷ []) → IfOk text (λ bytes. bytes.items ≡ mended_line names told) → PrintsText text before result after
      → MatchOption (decls_in old.place) ⊥ (λ decls. ConcludesMending decls.names old told before result new after)
  concluded text names named not_down kept says prints = by (decls_in old.place) named
    where
      said_ok : (r : Result (Unit {0}) WorldStop) (t : Result (Vec ℕ) Memory) (line : List ℕ) → IfOk t (λ bytes. bytes.items ≡ line)
          → OnOk r (MatchResult t (λ bytes. after ≡ before ++ bytes.items) (λ memory. ⊥)) → OnOk r (after ≡ before ++ line)
      said_ok (Ok value) (Ok bytes) line is printed = printed ∙ ap (λ (l : List ℕ). before ++ l) is
      said_ok (Ok value) (Err memory) line is printed = absurd printed
      said_ok (Err why) t line is printed = tt

      by : (o : Option Decls) → MatchOption o ⊥ (λ decls. names ≡ decls.names) → MatchOption o ⊥ (λ decls. ConcludesMending decls.names old told before result new after)
      by None none = none
      by (Some decls) same = inr (
        not_down,
        kept.limit,
        kept.place,
        kept.links,
        kept.snapshots,
        kept.events_are,
        said_ok result text (mended_line decls.names told) (subst (λ (all : List (List ℕ)). IfOk text (λ bytes. bytes.items ≡ mended_line all told)) same says) prints.0,
        prints.1,
      )

  pub concluded_down : (P : Decls → Type 0) → MatchOption (decls_in old.place) ⊥ P → is_down old.place ≡ true → (full : Option ℕ) → full ≡ full_at told → GivesUpMending full old before result new after
      → MatchOption (decls_in old.place) ⊥ (λ decls. ConcludesMending decls.names old told before result new after)
  concluded_down P some down full same gives_up = by (decls_in old.place) some
    where
      by : (o : Option Decls) → MatchOption o ⊥ P → MatchOption o ⊥ (λ decls. ConcludesMending decls.names old told before result new after)
      by None none = none
      by (Some decls) is = inl (down, subst (λ (o : Option ℕ). GivesUpMending o old before result new after) same gives_up)
