-- Snapshots and submissions in the world, by what the hub's calls give.
use Rattle.std.proofs.Common.{[], ◌≡◌, inl, inr, ℕ, Bool, true, false, cond, Option, Some, None, List, ◌∷◌, ◌++◌, All, length, refl, sym, ap, subst, ◌∙◌, append-nil}
use Rattle.std.specs.Prelude.{Err, MatchResult, Ok, Result}
use Rattle.std.specs.List.{find}
use Rattle.std.specs.Option.{option_map, option_or}
use Rattle.std.proofs.lemmas.List.Elements.{All-append, All-cons, All-nil}
use Rattle.std.proofs.lemmas.List.Folds.{find-append}
use Rattle.std.proofs.lemmas.Option.{none-some}
use Rattle.orc_call.specs.declared.answer.Answer.{Answer}
use Rattle.orc_call.specs.declared.answer.Answer.TheVariants as answer
use Rattle.orc_call.specs.declared.call.Call.{Call}
use Rattle.orc_datastore.specs.Snapshots.{Snapshot}
use Rattle.orc_decls.specs.Devices.{is_same_text}
use Rattle.orc_decls.specs.declared.declarations.Decls.{Decls}
use Rattle.orc_disk.specs.Stops.{Stopping, inside}
use Rattle.orc_hub.specs.Keeps.{KeepsHub}
use Rattle.orc_hub.specs.declared.hub.Hub.{Hub}
use Rattle.orc_hub_laws.specs.Under.{GoesOnUnder, IsWorldOf, with_journal}
use Rattle.orc_hub_laws.specs.Turns.{SnapshotBegins, world_answered}
use Rattle.orc_links.specs.Logs.{noted_on}
use Rattle.orc_links.specs.declared.links.Links.{Links}
use Rattle.orc_print.specs.Printed.{answer_line}
use Rattle.orc_rules.specs.Events.{Comes, DoesAnyway, Steps, Turn}
use Rattle.orc_rules.specs.Journals.{history_read}
use Rattle.orc_rules.specs.Worlds.{Setting, World as Seen, with_snapshot}
use Rattle.orc_rules.specs.declared.event.Event.{Event}
use Rattle.orc_rules.specs.declared.event.Event.TheVariants as event
use Rattle.orc_runs.specs.Ends.{EndedBecause}
use Rattle.orc_runs.specs.Laws.{RunsAreCarried}
use Rattle.orc_runs.specs.Scripts.{Part as part}
use Rattle.orc_state.specs.Laws.{SnapshotStaysAtFront}
use Rattle.orc_state.specs.States.{IsSnapshotAt}
use Rattle.orc_scene.specs.Effects.{hub_in}
use Rattle.orc_scene.specs.inside.Effects.{PutsSnapshot, SaysAnswer}
use Rattle.orc_scene.specs.Courses.{DoesTurn, HasEvents, MayEndTurn}
use Rattle.orc_scene.specs.Snapshots.{fronts_of, is_taken_by, taken_by_others, taken_with}
use Rattle.orc_scene.specs.Stands.{HasDisk, IsPlaceSeenAs, IsSeenAs}
use Rattle.orc_scene.specs.RunEnds.{end_of_run}
use Rattle.orc_scene.specs.declared.snapshots.Snapshots.{Snapshots}
use Rattle.orc_scene.specs.declared.snapshots.Taken.{Taken}
use Rattle.orc_scene.specs.declared.stop.WorldStop.{WorldStop}
use Rattle.orc_scene.specs.declared.scene.Place.{Place}
use Rattle.orc_scene.specs.declared.scene.Place.TheVariants.{Down, Ended, Moved, Up}
use Rattle.orc_scene.specs.declared.scene.Scene.{Scene}
use Rattle.orc_scene.proofs.Histories.{history_seen}
use Rattle.orc_scene.proofs.HubTurns.{at_last_one, find_dropped, fronts_behind, fronts_dropped, given_turn, hub_turn_done, others_stay, under_hub}
use Rattle.orc_scene.proofs.Seeing.{place_disk, seen_same}
use Rattle.orc_scene.proofs.Times.{goes_on_same}
use Rattle.orc_scene.proofs.Unsaid.{last_untold}

-- a caller's snapshot is put in the place of the one that it had
pub fronts_taken : (caller other : List ℕ) (snapshot : Snapshot) (taken : List Taken) (snapshots : List ℕ → Option ℕ) → snapshots other ≡ fronts_of taken other
    → with_snapshot snapshots caller (Some snapshot.front) other ≡ fronts_of (taken_with caller snapshot taken) other
fronts_taken caller other snapshot taken snapshots is =
    ap (λ (o : Option ℕ). cond (is_same_text other caller) (Some snapshot.front) o) is ∙ on (is_same_text other caller) refl
    ∙ sym (ap (λ (o : Option Taken). option_map (λ (x : Taken). x.snapshot.front) (option_or o (find (is_taken_by other) (one ∷ [])))) (find_dropped caller other taken))
    ∙ sym (ap (λ (o : Option Taken). option_map (λ (x : Taken). x.snapshot.front) o) (find-append (is_taken_by other) (taken_by_others caller taken) (one ∷ [])))
  where
    one : Taken
    one = record { caller = caller; snapshot = snapshot }

    found : (b : Bool) (o : Option Taken) → b ≡ false → option_map (λ (x : Taken). x.snapshot.front) o ≡ option_map (λ (x : Taken). x.snapshot.front) (option_or o (cond b (Some one) None))
    found b None apart = sym (ap (λ (c : Bool). option_map (λ (x : Taken). x.snapshot.front) (option_or None (cond c (Some one) None))) apart)
    found b (Some x) apart = refl

    on : (b : Bool) → is_same_text other caller ≡ b → cond b (Some snapshot.front) (fronts_of taken other)
        ≡ option_map (λ (x : Taken). x.snapshot.front) (option_or (cond b None (find (is_taken_by other) taken)) (find (is_taken_by other) (one ∷ [])))
    on true e = sym (ap (λ (c : Bool). option_map (λ (x : Taken). x.snapshot.front) (option_or None (cond c (Some one) None))) e)
    on false e = found (is_same_text other caller) (find (is_taken_by other) taken) e

module _ {D : Type 0} (here : Setting D) (carried : RunsAreCarried here) (stays : SnapshotStaysAtFront) where
  -- a caller took a snapshot
  pub snapshot_taken : SnapshotBegins here → (seen : Seen D) (old new : Scene D) (hub : Hub (Stopping D)) → IsSeenAs here seen old → old.place ≡ Up hub → (caller : List ℕ) (snapshot : Snapshot)
      → snapshot.front ≡ length hub.state.history → IsSnapshotAt hub.decls hub.state.history snapshot → new.limit ≡ old.limit → new.place ≡ old.place → new.links ≡ old.links
      → new.snapshots.taken ≡ taken_with caller snapshot old.snapshots.taken → new.events.items.items ≡ old.events.items.items ++ event.Begin caller snapshot.front ∷ []
      → DoesTurn here seen old new [] [] (part.Snapshot caller)
  snapshot_taken begins seen old new hub is up caller snapshot front at limit place links taken events =
      hub_turn_done here carried seen next (event.Begin caller (length hub.state.history)) old new hub hub is up went refl refl
      (λ other. ap (λ (n : ℕ). with_snapshot seen.snapshots caller (Some n) other) (sym front) ∙ fronts_taken caller other snapshot old.snapshots.taken seen.snapshots (is.snapshots other)
      ∙ ap (λ (l : List Taken). fronts_of l other) (sym taken))
      (subst (λ (l : List Taken). All P l) (sym taken) (All-append P (taken_by_others caller old.snapshots.taken) (one ∷ []) (others_stay P caller old.snapshots.taken earlier) (All-cons P one [] there (All-nil P))))
      limit (place ∙ up) links [] [] (part.Snapshot caller) refl tt (λ device. refl)
      (events ∙ ap (λ (n : ℕ). old.events.items.items ++ event.Begin caller n ∷ []) front) refl
    where
      own : IsWorldOf here seen hub
      own = under_hub here seen old hub is up

      next : Seen D
      next = record seen { snapshots = with_snapshot seen.snapshots caller (Some (length hub.state.history)) }

      went : GoesOnUnder here seen next (event.Begin caller (length hub.state.history)) hub
      went = begins seen hub caller own

      one : Taken
      one = record { caller = caller; snapshot = snapshot }

      P : Taken → Type 0
      P x = IsSnapshotAt here.decls (history_read went.journal) x.snapshot

      earlier : All P old.snapshots.taken
      earlier = fronts_behind here stays seen next (event.Begin caller (length hub.state.history)) hub hub own went [] (sym (append-nil hub.state.history)) old.snapshots.taken is.fronts

      there : P one
      there = subst (λ (h : List Call). IsSnapshotAt here.decls h snapshot) (sym (history_seen here (with_journal went.journal next) hub went.is))
          (subst (λ (d : Decls). IsSnapshotAt d hub.state.history snapshot) own.decls at)

  -- there was no memory for one, or it was taken
  pub snapshot_turn : SnapshotBegins here → (seen : Seen D) (old new : Scene D) (hub : Hub (Stopping D)) → IsSeenAs here seen old → old.place ≡ Up hub → (caller named kept : List ℕ) (snapshot : Snapshot)
      → named ≡ caller → kept ≡ caller → snapshot.front ≡ length hub.state.history → IsSnapshotAt hub.decls hub.state.history snapshot
      → (result : Result (Unit {0}) WorldStop) → PutsSnapshot old named kept snapshot result new
      → MatchResult result (λ value. DoesTurn here seen old new [] [] (part.Snapshot caller)) (λ why. MayEndTurn here seen old new [] [] (part.Snapshot caller) why)
  snapshot_turn begins seen old new hub is up caller named kept snapshot named_is kept_is front at (Ok value) puts =
      snapshot_taken begins seen old new hub is up caller snapshot front at puts.0 puts.1 puts.2 (puts.3.0 ∙ ap (λ (c : List ℕ). taken_with c snapshot old.snapshots.taken) kept_is)
      (puts.3.1 ∙ ap (λ (c : List ℕ). old.events.items.items ++ event.Begin c snapshot.front ∷ []) named_is)
  snapshot_turn begins seen old new hub is up caller named kept snapshot named_is kept_is front at (Err why) puts =
      inr (record {
        memory = puts.4.0;
        disk = subst (λ (p : Place D). HasDisk p seen.journal.disk) (sym puts.1) (place_disk here seen old.place is.place);
        events = puts.4.1;
        printed = refl;
      })

  -- a call was submitted on its caller's snapshot, and waits
  pub submission_waits : (seen : Seen D) (old new : Scene D) (hub behind : Hub (Stopping D)) → IsSeenAs here seen old → old.place ≡ Up hub → KeepsHub (inside here.disk) hub behind
      → (call : Call) (front : ℕ) → GoesOnUnder here seen (world_answered call.caller behind seen) (event.Submit call front None) behind
      → new.limit ≡ old.limit → new.place ≡ Up behind → new.links ≡ old.links → new.snapshots.taken ≡ taken_by_others call.caller old.snapshots.taken
      → new.events.items.items ≡ old.events.items.items ++ event.Submit call front None ∷ [] → (before after : List ℕ) → after ≡ before
      → DoesTurn here seen old new before after (part.Submission call)
  submission_waits seen old new hub behind is up keeps call front went limit place links taken events before after out =
      let grew : (more : List Call) × (behind.state.history ≡ hub.state.history ++ more) = keeps.history went.is.up in
      let P : Taken → Type 0 = λ x. IsSnapshotAt here.decls (history_read went.journal) x.snapshot in
      hub_turn_done here carried seen (world_answered call.caller behind seen) (event.Submit call front None) old new hub behind is up went refl refl
      (λ other. fronts_dropped call.caller other old.snapshots.taken seen.snapshots (is.snapshots other) ∙ ap (λ (l : List Taken). fronts_of l other) (sym taken))
      (subst (λ (l : List Taken). All P l) (sym taken) (others_stay P call.caller old.snapshots.taken
      (fronts_behind here stays seen (world_answered call.caller behind seen) (event.Submit call front None) hub behind (under_hub here seen old hub is up) went grew.0 grew.1 old.snapshots.taken is.fronts)))
      limit place links before after (part.Submission call) refl tt (λ device. refl) events (out ∙ sym (append-nil before))

  -- the call was answered at once
  pub submission_answered : (seen : Seen D) (old new : Scene D) (hub behind : Hub (Stopping D)) → IsSeenAs here seen old → old.place ≡ Up hub → KeepsHub (inside here.disk) hub behind
      → (call : Call) (front : ℕ) (given : Answer) → GoesOnUnder here seen (world_answered call.caller behind seen) (event.Submit call front (Some given)) behind
      → new.limit ≡ old.limit → new.place ≡ Up behind → new.links ≡ old.links → new.snapshots.taken ≡ taken_by_others call.caller old.snapshots.taken
      → new.events.items.items ≡ old.events.items.items ++ event.Submit call front (Some given) ∷ [] → (before after : List ℕ) (result : Result (Unit {0}) WorldStop)
      → SaysAnswer here.decls.names call.caller call.number given before result after
      → MatchResult result (λ value. DoesTurn here seen old new before after (part.Submission call)) (λ why. MayEndTurn here seen old new before after (part.Submission call) why)
  submission_answered seen old new hub behind is up keeps call front given went limit place links taken events before after result says =
      let grew : (more : List Call) × (behind.state.history ≡ hub.state.history ++ more) = keeps.history went.is.up in
      given_turn here carried seen old (record old { place = Up behind }) new hub behind is refl refl refl refl refl (keeps.decls ∙ (under_hub here seen old hub is up).decls)
      call.caller call.number given (event.Submit call front (Some given)) before after (part.Submission call) tt (λ turn first. refl) stays up grew.0 grew.1 went refl (λ device turn. refl)
      (record { limit = limit; place = place; links = links; taken = taken; events = events }) result says.0 says.1

  -- a call was submitted while no hub is up
  pub submission_down : (seen : Seen D) (old new : Scene D) → IsSeenAs here seen old → hub_in old.place ≡ None → (call : Call)
      → HasEvents old new (old.events.items.items ++ event.Submit call 0 (Some answer.Down) ∷ []) → (before after : List ℕ) (result : Result (Unit {0}) WorldStop)
      → SaysAnswer here.decls.names call.caller call.number answer.Down before result after
      → MatchResult result (λ value. DoesTurn here seen old new before after (part.Submission call)) (λ why. MayEndTurn here seen old new before after (part.Submission call) why)
  submission_down seen old new is down call has before after result says = on result says
    where
      told : Event
      told = event.Submit call 0 (Some answer.Down)

      turn : Turn D
      turn = record { before = seen; meant = told; seen = Some told; behind = seen }

      none : (place : Place D) → IsPlaceSeenAs here seen place → hub_in place ≡ None → seen.hub ≡ None
      none (Up hub) at empty = absurd (none-some hub (sym empty))
      none (Down disk decls) at empty = at.0
      none (Ended disk) at empty = absurd at
      none Moved at empty = absurd at

      comes : Comes here turn
      comes = Steps.anyway seen (DoesAnyway.answers_down call 0 (none old.place is.place down))

      on : (given : Result (Unit {0}) WorldStop) → SaysAnswer here.decls.names call.caller call.number answer.Down before given after
          → MatchResult given (λ value. DoesTurn here seen old new before after (part.Submission call)) (λ why. MayEndTurn here seen old new before after (part.Submission call) why)
      on (Ok value) told_so = record {
        turn = turn;
        first = refl;
        is_of = refl;
        called = tt;
        comes = comes;
        through = record {
          is = seen_same here seen old new has.limit has.place has.links has.snapshots is;
          limit = has.limit;
          events = has.events_are;
          logs = λ device. ap (λ (l : Links). noted_on l.logs device) has.links ∙ sym (append-nil (noted_on old.links.logs device));
          goes_on = (goes_on_same here turn told refl refl, tt);
        };
        prints = told_so.0 ∙ ap (λ (text : List ℕ). before ++ text) (sym (append-nil (answer_line here.decls.names call.caller call.number answer.Down)));
      }
      on (Err why) told_so = inl (record {
        turn = turn;
        first = refl;
        is_of = refl;
        called = tt;
        comes = comes;
        because = subst (λ (w : WorldStop). EndedBecause here (turn ∷ []) (end_of_run w)) (sym told_so.1.0) tt;
        ended = record {
          disk = subst (λ (p : Place D). HasDisk p seen.journal.disk) (sym has.place) (place_disk here seen old.place is.place);
          events = has.events_are;
          at_last = at_last_one here turn;
        };
        prints = last_untold here.decls why before after turn told_so.1.0 told_so.1.1;
      })
