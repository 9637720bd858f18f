-- Admissions and decisions in the world, by what the hub's calls give.
use Rattle.std.proofs.Common.{[], ◌≡◌, ◌⊎◌, inl, inr, ℕ, Bool, true, false, Option, Some, None, List, ◌∷◌, ◌++◌, All, refl, sym, ap, subst, ◌∙◌, append-nil}
use Rattle.std.specs.Global.{Vec}
use Rattle.std.specs.Prelude.{Err, IfErr, MatchResult, Ok, OnOk, Result, codes, slice_get}
use Rattle.std.proofs.lemmas.Bool.{and_parts, false≢true}
use Rattle.std.proofs.lemmas.Option.{none-some, same_Some}
use Rattle.orc_call.specs.declared.answer.Answer.{Answer}
use Rattle.orc_call.specs.declared.call.Call.{Call}
use Rattle.orc_decls.specs.declared.declarations.Decls.{Decls}
use Rattle.orc_disk.specs.Stops.{Stopping, inside}
use Rattle.orc_hub.specs.Admits.{Admits, IsNextToAdmit, waiting_name}
use Rattle.orc_hub.specs.Decisions.{Decides, DecidesOn, asker_name}
use Rattle.orc_hub.specs.Keeps.{KeepsHub}
use Rattle.orc_hub.specs.declared.hub.Admit.{Admit}
use Rattle.orc_hub.specs.declared.hub.Admit.TheVariants as admit
use Rattle.orc_hub.specs.declared.hub.Decided.{Decided}
use Rattle.orc_hub.specs.declared.hub.Decided.TheVariants as decided
use Rattle.orc_hub.specs.declared.hub.Hub.{Hub}
use Rattle.orc_io.specs.Counts.{Rose}
use Rattle.orc_hub_laws.specs.Under.{FailsIn, GoesDown, GoesOnUnder, IsWorldOf, LacksRoomFor, with_journal}
use Rattle.orc_hub_laws.specs.Turns.{AdmitIsEvent, ComesToAdmit, ComesToDecide, DecideIsEvent, MeansToDecide, world_answered, world_with}
use Rattle.orc_device.specs.declared.reply.Logged.{Logged}
use Rattle.orc_print.specs.Printed.{answer_line}
use Rattle.orc_rules.specs.Due.{is_decision_due, least_due}
use Rattle.orc_rules.specs.Events.{Turn, seen_failing}
use Rattle.orc_rules.specs.Journals.{history_read}
use Rattle.orc_rules.specs.Transactions.{is_preparing}
use Rattle.orc_rules.specs.Verdicts.{are_heard}
use Rattle.orc_rules.specs.Worlds.{Setting, World as Seen, stopped, without_hub}
use Rattle.orc_rules.specs.declared.event.Event.{Event}
use Rattle.orc_rules.specs.declared.event.Event.TheVariants as event
use Rattle.orc_rules.specs.declared.transaction.Transaction.{Transaction}
use Rattle.orc_runs.specs.Ends.{EndedBecause}
use Rattle.orc_runs.specs.Laws.{RunsAreCarried}
use Rattle.orc_runs.specs.Runs.{operation_of}
use Rattle.orc_runs.specs.Scripts.{IsCalledFor, IsOf, Part, Part as part, answer_to, call_under, said}
use Rattle.orc_script.specs.declared.step.ScriptStep.TheVariants as step
use Rattle.orc_state.specs.Laws.{SnapshotStaysAtFront}
use Rattle.orc_state.specs.States.{IsSnapshotAt}
use Rattle.orc_scene.specs.inside.Effects.{ConcludesAnswer, FailsAppend, LetsGo, LetsGoWith, Stops, is_down, is_stopped, place_without}
use Rattle.orc_scene.specs.Courses.{DoesTurn, EndsTurn, HasEvents, MayEndTurn, PrintsMost, event_list, told_in}
use Rattle.orc_scene.specs.Snapshots.{fronts_of}
use Rattle.orc_scene.specs.Stands.{IsSeenAs}
use Rattle.orc_scene.specs.RunEnds.{end_of_run}
use Rattle.orc_text.specs.declared.memory.Memory.{Memory}
use Rattle.orc_scene.specs.declared.events.Events.{Events}
use Rattle.orc_scene.specs.declared.snapshots.Snapshots.{Snapshots}
use Rattle.orc_scene.specs.declared.stop.WorldStop.{WorldStop}
use Rattle.orc_scene.specs.declared.stop.WorldStop.TheVariants as stop
use Rattle.orc_scene.specs.declared.scene.Place.{Place}
use Rattle.orc_scene.specs.declared.scene.Place.TheVariants.{Down, Up}
use Rattle.orc_scene.specs.declared.scene.Scene.{Scene}
use Rattle.orc_scene.proofs.HubTurns.{active_call, ends_failed, ends_full, failed_turn, fault_because, fronts_behind, given_turn, hub_turn_done, stop_done, stop_unsaid, stopped_turn, under_hub, waiting_call}
use Rattle.orc_scene.proofs.Unsaid.{all_told}

-- a fact that goes both ways
contrary : {A : Type 0} (b : Bool) → b ≡ true → b ≡ false → A
contrary b is isnt = absurd (false≢true (sym isnt ∙ is))

module _ {D : Type 0} (here : Setting D) (carried : RunsAreCarried here) (stays : SnapshotStaysAtFront) (seen : Seen D) (old middle new : Scene D) (hub behind : Hub (Stopping D))
    (is : IsSeenAs here seen old) (up : old.place ≡ Up hub) (keeps : KeepsHub (inside here.disk) hub behind)
    (same_limit : middle.limit ≡ old.limit) (same_links : middle.links ≡ old.links) (same_snapshots : middle.snapshots ≡ old.snapshots)
    (same_events : middle.events.items.items ≡ old.events.items.items) (at : middle.place ≡ Up behind) where
  own : IsWorldOf here seen hub
  own = under_hub here seen old hub is up

  decls_behind : behind.decls ≡ here.decls
  decls_behind = keeps.decls ∙ own.decls

  -- the hub went on, and nothing is said of it
  pub quiet_turn : (meant : Event) (one : Part) → GoesOnUnder here seen (world_with behind seen) meant behind → IsOf one meant → IsCalledFor here seen one
      → ((turn : Turn D) → said here.decls.names step.Settle turn (Some meant) ≡ []) → ((device : ℕ) (turn : Turn D) → operation_of device turn (Some meant) ≡ [])
      → HasEvents middle new (middle.events.items.items ++ meant ∷ []) → (before after : List ℕ) → after ≡ before
      → DoesTurn here seen old new before after one
  quiet_turn meant one went is_of called silent quiet has before after out =
      let turn : Turn D = record { before = seen; meant = meant; seen = Some meant; behind = with_journal went.journal (world_with behind seen) } in
      let same : new.snapshots ≡ old.snapshots = has.snapshots ∙ same_snapshots in
      let grew : (more : List Call) × (behind.state.history ≡ hub.state.history ++ more) = keeps.history went.is.up in
      hub_turn_done here carried seen (world_with behind seen) meant old new hub behind is up went refl refl
      (λ caller. is.snapshots caller ∙ ap (λ (s : Snapshots). fronts_of s.taken caller) (sym same))
      (subst (λ (s : Snapshots). All (λ one. IsSnapshotAt here.decls (history_read went.journal) one.snapshot) s.taken) (sym same)
      (fronts_behind here stays seen (world_with behind seen) meant hub behind own went grew.0 grew.1 old.snapshots.taken is.fronts))
      (has.limit ∙ same_limit) (has.place ∙ at) (has.links ∙ same_links) before after one is_of called
      (λ device. ap (λ (rows : List Logged). rows ++ []) (quiet device turn))
      (has.events_are ∙ ap (λ (es : List Event). es ++ meant ∷ []) same_events)
      (out ∙ sym (append-nil before) ∙ ap (λ (text : List ℕ). before ++ (text ++ [])) (sym (silent turn)))

  -- an entry had no room
  pub full_turn : (meant : Event) (one : Part) (len : ℕ) → LacksRoomFor here seen meant len behind → IsOf one meant → IsCalledFor here seen one → LetsGo middle new
      → (before after : List ℕ) → after ≡ before → (why : WorldStop) → why ≡ stop.Full len → MayEndTurn here seen old new before after one why
  full_turn meant one len lacks is_of called let_go before after out why full =
      subst (λ (w : WorldStop). MayEndTurn here seen old new before after one w) (sym full)
      (inl (ends_full here seen meant old new behind (let_go.place ∙ ap (λ (p : Place D). place_without p) at) len lacks before after one is_of called
      (ap (λ (e : Events). e.items.items) let_go.events ∙ same_events) out))

  module _ (caller : List ℕ) (number : ℕ) (given : Answer) (told : Event) (before after : List ℕ) (one : Part) (called : IsCalledFor here seen one)
      (line : (turn : Turn D) → turn.before ≡ seen → said here.decls.names step.Settle turn (Some told) ≡ answer_line here.decls.names caller number given)
      (result : Result (Unit {0}) WorldStop) (concludes : ConcludesAnswer here.decls.names middle caller number given told before result new after) where
    abbrev pub OneOrEnd : Type 0
    OneOrEnd = MatchResult result (λ value. DoesTurn here seen old new before after one) (λ why. MayEndTurn here seen old new before after one why)

    down_is : is_down middle.place ≡ behind.down
    down_is = ap (λ (p : Place D). is_down p) at

    stopped_is : is_stopped middle.place ≡ behind.log.journal.disk.stopped
    stopped_is = ap (λ (p : Place D). is_stopped p) at

    -- a call was answered, and the hub went on
    pub answered_turn : GoesOnUnder here seen (world_answered caller behind seen) told behind → IsOf one told → ((device : ℕ) (turn : Turn D) → operation_of device turn (Some told) ≡ [])
        → OneOrEnd
    answered_turn went is_of quiet = on concludes
      where
        on : ConcludesAnswer here.decls.names middle caller number given told before result new after → OneOrEnd
        on (inl (inl cut)) = contrary behind.down (sym down_is ∙ cut.0) went.is.up
        on (inl (inr failed)) = contrary behind.down (sym down_is ∙ failed.0) went.is.up
        on (inr so) =
            let grew : (more : List Call) × (behind.state.history ≡ hub.state.history ++ more) = keeps.history went.is.up in
            given_turn here carried seen old middle new hub behind is same_limit same_links same_snapshots same_events at decls_behind caller number given told before after one called line
            stays up grew.0 grew.1 went is_of quiet so.1 result so.2 so.3

    -- an append failed
    pub broken_turn : (meant : Event) → IsOf one meant → seen_failing meant ≡ Some told → FailsIn here seen meant behind → OneOrEnd
    broken_turn meant is_of failing (down, fails) = on concludes fails
      where
        on : ConcludesAnswer here.decls.names middle caller number given told before result new after
            → ((behind.log.journal.disk.stopped ≡ true) × GoesDown here seen (stopped seen) meant (Some event.Stop) behind)
            ⊎ ((behind.log.journal.disk.stopped ≡ false) × GoesDown here seen (without_hub seen) meant (seen_failing meant) behind
            × Rose (here.disk.faults seen.journal.disk) (here.disk.faults behind.log.journal.disk.inner)) → OneOrEnd
        on (inr so) f = contrary behind.down down (sym down_is ∙ so.0)
        on (inl (inl cut)) (inl gone) =
            stopped_turn here carried seen old middle new hub behind is same_limit same_links same_snapshots same_events at decls_behind caller number given told before after one called line
            meant is_of gone.1 cut.1.1 result cut.1.2 cut.1.3
        on (inl (inl cut)) (inr gone) = contrary behind.log.journal.disk.stopped (sym stopped_is ∙ cut.1.0) gone.0
        on (inl (inr failed)) (inl gone) = contrary behind.log.journal.disk.stopped gone.0 (sym stopped_is ∙ failed.1)
        on (inl (inr failed)) (inr gone) =
            failed_turn here carried seen old middle new hub behind is same_limit same_links same_snapshots same_events at decls_behind caller number given told before after one called line
            meant is_of failing gone.1 gone.2 failed.2 result failed.3 failed.4

  -- an append of which nothing is seen failed
  pub unsaid_turn : (meant : Event) (one : Part) → IsOf one meant → IsCalledFor here seen one → seen_failing meant ≡ None → FailsIn here seen meant behind
      → (bytes : Vec ℕ) → bytes.items ≡ [] → (before after : List ℕ) (result : Result (Unit {0}) WorldStop)
      → FailsAppend {M = Memory} middle None (Ok bytes) before result new after
      → MatchResult result (λ value. DoesTurn here seen old new before after one) (λ why. MayEndTurn here seen old new before after one why)
  unsaid_turn meant one is_of called failing (down, fails) bytes none before after result ended = on ended fails
    where
      stopped_is : is_stopped middle.place ≡ behind.log.journal.disk.stopped
      stopped_is = ap (λ (p : Place D). is_stopped p) at

      cut : GoesDown here seen (stopped seen) meant (Some event.Stop) behind → Stops middle new → (given : Result (Unit {0}) WorldStop)
          → OnOk given (after ≡ before ++ codes "stopped\n") → IfErr given (λ why. (why ≡ stop.Memory) × (after ≡ before))
          → MatchResult given (λ value. DoesTurn here seen old new before after one) (λ why. MayEndTurn here seen old new before after one why)
      cut gone stops (Ok value) said_ok said_err =
          stop_done here carried seen meant old middle new behind is gone same_limit same_links same_events at decls_behind stops before after one is_of called
          (said_ok ∙ ap (λ (text : List ℕ). before ++ text) (sym (append-nil (codes "stopped\n"))))
      cut gone stops (Err why) said_ok said_err =
          inl (subst (λ (w : WorldStop). EndsTurn here seen old new before after one w) (sym said_err.0)
          (stop_unsaid here carried seen meant old middle new behind is gone same_limit same_links same_events at decls_behind stops before after one is_of called said_err.1))

      failed : GoesDown here seen (without_hub seen) meant (seen_failing meant) behind → Rose (here.disk.faults seen.journal.disk) (here.disk.faults behind.log.journal.disk.inner)
          → LetsGoWith middle new [] → (given : Result (Unit {0}) WorldStop)
          → IfErr given (λ why. ((why ≡ stop.JournalFault) × (after ≡ before ++ bytes.items)) ⊎ ((why ≡ stop.Memory) × (after ≡ before))) → OnOk given ⊥
          → MatchResult given (λ value. DoesTurn here seen old new before after one) (λ why. MayEndTurn here seen old new before after one why)
      failed gone rose let_go (Ok value) said_err said_ok = absurd said_ok
      failed gone rose let_go (Err why) said_err said_ok = inl (ending said_err)
        where
          turn : Turn D
          turn = record { before = seen; meant = meant; seen = seen_failing meant; behind = with_journal gone.journal (without_hub seen) }

          place_after : new.place ≡ Down behind.log.journal.disk.inner behind.decls
          place_after = let_go.place ∙ ap (λ (p : Place D). place_without p) at

          events_after : new.events.items.items ≡ old.events.items.items ++ event_list (seen_failing meant)
          events_after = let_go.events_are ∙ ap (λ (es : List Event). es ++ []) same_events ∙ ap (λ (o : Option Event). old.events.items.items ++ event_list o) (sym failing)

          because : (w : WorldStop) → (w ≡ stop.JournalFault) ⊎ (w ≡ stop.Memory) → EndedBecause here (turn ∷ []) (end_of_run w)
          because w (inl is_fault) = subst (λ (x : WorldStop). EndedBecause here (turn ∷ []) (end_of_run x)) (sym is_fault) (fault_because here seen meant old new behind place_after gone rose)
          because w (inr is_memory) = subst (λ (x : WorldStop). EndedBecause here (turn ∷ []) (end_of_run x)) (sym is_memory) tt

          nothing : told_in here.decls (turn ∷ []) ≡ []
          nothing = ap (λ (o : Option Event). said here.decls.names step.Settle turn o ++ []) failing

          most : after ≡ before → PrintsMost here.decls why before after (turn ∷ [])
          most same = all_told here.decls why before after (turn ∷ []) (same ∙ sym (append-nil before) ∙ ap (λ (text : List ℕ). before ++ text) (sym nothing))

          ending : ((why ≡ stop.JournalFault) × (after ≡ before ++ bytes.items)) ⊎ ((why ≡ stop.Memory) × (after ≡ before)) → EndsTurn here seen old new before after one why
          ending (inl fault) = ends_failed here seen meant old new behind place_after why gone (because why (inl fault.0)) before after one is_of called events_after
              (most (fault.1 ∙ ap (λ (text : List ℕ). before ++ text) none ∙ append-nil before))
          ending (inr wanting) = ends_failed here seen meant old new behind place_after why gone (because why (inr wanting.0)) before after one is_of called events_after (most wanting.1)

      on : FailsAppend {M = Memory} middle None (Ok bytes) before result new after
          → ((behind.log.journal.disk.stopped ≡ true) × GoesDown here seen (stopped seen) meant (Some event.Stop) behind)
          ⊎ ((behind.log.journal.disk.stopped ≡ false) × GoesDown here seen (without_hub seen) meant (seen_failing meant) behind
          × Rose (here.disk.faults seen.journal.disk) (here.disk.faults behind.log.journal.disk.inner))
          → MatchResult result (λ value. DoesTurn here seen old new before after one) (λ why. MayEndTurn here seen old new before after one why)
      on (inl so) (inl gone) = cut gone.1 so.1 result so.2 so.3
      on (inl so) (inr gone) = contrary behind.log.journal.disk.stopped (sym stopped_is ∙ so.0) gone.0
      on (inr so) (inl gone) = contrary behind.log.journal.disk.stopped gone.0 (sym stopped_is ∙ so.0)
      on (inr so) (inr gone) = failed gone.1 gone.2 so.1 result so.2 so.3

-- what is so of the declarations of the hub is so of those of the setting
pub as_declared : {D : Type 0} (here : Setting D) (seen : Seen D) (old : Scene D) (hub behind : Hub (Stopping D)) → IsSeenAs here seen old → old.place ≡ Up hub
    → KeepsHub (inside here.disk) hub behind → (P : Decls → Type 0) → P behind.decls → P here.decls
as_declared here seen old hub behind is up keeps P so = subst P (keeps.decls ∙ (under_hub here seen old hub is up).decls) so

-- admissions

module _ {D : Type 0} (here : Setting D) (carried : RunsAreCarried here) (stays : SnapshotStaysAtFront) (law : AdmitIsEvent here) (seen : Seen D) (old middle new : Scene D) (hub behind : Hub (Stopping D))
    (is : IsSeenAs here seen old) (up : old.place ≡ Up hub) (unmended : hub.mends ≡ None) (keeps : KeepsHub (inside here.disk) hub behind)
    (same_limit : middle.limit ≡ old.limit) (same_links : middle.links ≡ old.links) (same_snapshots : middle.snapshots ≡ old.snapshots)
    (same_events : middle.events.items.items ≡ old.events.items.items) (at : middle.place ≡ Up behind) (t : ℕ) (next : IsNextToAdmit hub.active hub.waiting t)
    (before after : List ℕ) where
  comes : (result : Admit) → Admits (inside here.disk) hub result behind → ComesToAdmit here seen next.it result behind
  comes result admits = law seen hub behind next.place next.it result (under_hub here seen old hub is up) unmended next.there next.first admits

  -- the call that waits was admitted
  pub admission_begins : (number : ℕ) → Admits (inside here.disk) hub (admit.Admitted number) behind → HasEvents middle new (middle.events.items.items ++ event.Admit number None ∷ [])
      → after ≡ before → DoesTurn here seen old new before after part.Admission
  admission_begins number admits has out =
      let did : (number ≡ next.it.t) × GoesOnUnder here seen (world_with behind seen) (event.Admit next.it.t None) behind = comes (admit.Admitted number) admits in
      quiet_turn here carried stays seen old middle new hub behind is up keeps same_limit same_links same_snapshots same_events at (event.Admit next.it.t None) part.Admission did.1 tt tt
      (λ turn. refl) (λ device turn. refl)
      (subst (λ (n : ℕ). HasEvents middle new (middle.events.items.items ++ event.Admit n None ∷ [])) did.0 has) before after out

  -- the call that waits was answered
  pub admission_answers : (caller : List ℕ) (number : ℕ) (given : Answer) (result : Result (Unit {0}) WorldStop) → Admits (inside here.disk) hub (admit.Answered caller number given) behind
      → ConcludesAnswer here.decls.names middle caller number given (event.Admit t (Some given)) before result new after
      → MatchResult result (λ value. DoesTurn here seen old new before after part.Admission) (λ why. MayEndTurn here seen old new before after part.Admission why)
  admission_answers caller number given result admits concludes = on (comes (admit.Answered caller number given) admits)
    where
      own : IsWorldOf here seen hub
      own = under_hub here seen old hub is up

      line : (caller, number) ≡ waiting_name next.it → (turn : Turn D) → turn.before ≡ seen
          → said here.decls.names step.Settle turn (Some (event.Admit t (Some given))) ≡ answer_line here.decls.names caller number given
      line named turn first =
          ap (λ (w : Seen D). answer_to here.decls.names (call_under w t) given) first
          ∙ ap (λ (n : ℕ). answer_to here.decls.names (call_under seen n) given) (sym next.number)
          ∙ ap (λ (o : Option Call). answer_to here.decls.names o given) (waiting_call here seen hub own next.place next.it next.there)
          ∙ sym (ap (λ (name : List ℕ × ℕ). answer_line here.decls.names name.0 name.1 given) named)

      on : ComesToAdmit here seen next.it (admit.Answered caller number given) behind
          → MatchResult result (λ value. DoesTurn here seen old new before after part.Admission) (λ why. MayEndTurn here seen old new before after part.Admission why)
      on (named, inl went) =
          answered_turn here carried stays seen old middle new hub behind is up keeps same_limit same_links same_snapshots same_events at caller number given (event.Admit t (Some given))
          before after part.Admission tt (line named) result concludes
          (subst (λ (n : ℕ). GoesOnUnder here seen (world_answered caller behind seen) (event.Admit n (Some given)) behind) next.number went) tt (λ device turn. refl)
      on (named, inr broken) =
          broken_turn here carried stays seen old middle new hub behind is up keeps same_limit same_links same_snapshots same_events at caller number given (event.Admit t (Some given))
          before after part.Admission tt (line named) result concludes (event.Admit t None) tt (ap (λ (a : Answer). Some (event.Admit t (Some a))) (sym broken.0))
          (subst (λ (n : ℕ). FailsIn here seen (event.Admit n None) behind) next.number broken.1)

  -- its Intent had no room
  pub admission_full : (len : ℕ) → Admits (inside here.disk) hub (admit.Full len) behind → LetsGo middle new → after ≡ before → (why : WorldStop) → why ≡ stop.Full len
      → MayEndTurn here seen old new before after part.Admission why
  admission_full len admits let_go out why full =
      full_turn here carried stays seen old middle new hub behind is up keeps same_limit same_links same_snapshots same_events at (event.Admit next.it.t None) part.Admission len
      (comes (admit.Full len) admits) tt tt let_go before after out why full

-- where one fits something comes
pub admission_comes : {D : Type 0} (here : Setting D) → AdmitIsEvent here → (seen : Seen D) (old : Scene D) (hub behind : Hub (Stopping D)) → IsSeenAs here seen old → old.place ≡ Up hub
    → hub.mends ≡ None → (t : ℕ) → IsNextToAdmit hub.active hub.waiting t → Admits (inside here.disk) hub admit.Nothing behind → ⊥
admission_comes here law seen old hub behind is up unmended t next admits =
    law seen hub behind next.place next.it admit.Nothing (under_hub here seen old hub is up) unmended next.there next.first admits

-- decisions

-- the name of the one who is answered is that of a transaction under way that isn't decided, of the number that is due
decided_name : {D : Type 0} (here : Setting D) (hub behind : Hub (Stopping D)) (t : ℕ) (caller : List ℕ) (number : ℕ) (given : Answer) → hub.down ≡ false → least_due hub.duties hub.active ≡ Some t
    → Decides (inside here.disk) hub (decided.Answered caller number given) behind
    → (place : ℕ) × (it : Transaction) × (slice_get hub.active place ≡ Some it) × (it.t ≡ t) × (is_preparing it.phase ≡ true) × ((caller, number) ≡ asker_name it)
decided_name here hub behind t caller number given up least (inl down) = contrary hub.down down.0 up
decided_name here hub behind t caller number given up least (inr (inl nothing)) = absurd (none-some t (sym nothing.1 ∙ least))
decided_name {D = D} here hub behind t caller number given up least (inr (inr (still, (place, it, there, due, does)))) =
    let call = named does in (place, it, there, same_Some it.t t (sym due ∙ least), call.0, call.1)
  where
    prepares : is_decision_due hub.duties it ≡ true → is_preparing it.phase ≡ true
    prepares is = (and_parts (is_preparing it.phase) (are_heard hub.duties it.t it.plan.held.devices) is).0

    named : DecidesOn (inside here.disk) hub it (decided.Answered caller number given) behind → (is_preparing it.phase ≡ true) × ((caller, number) ≡ asker_name it)
    named (inl settled) = absurd settled.1
    named (inr (is_due, inl commits)) = (prepares is_due, commits.written.0)
    named (inr (is_due, inr gives_up)) = (prepares is_due, gives_up.written.0)

module _ {D : Type 0} (here : Setting D) (carried : RunsAreCarried here) (stays : SnapshotStaysAtFront) (law : DecideIsEvent here) (seen : Seen D) (old middle new : Scene D) (hub behind : Hub (Stopping D))
    (is : IsSeenAs here seen old) (up : old.place ≡ Up hub) (keeps : KeepsHub (inside here.disk) hub behind)
    (same_limit : middle.limit ≡ old.limit) (same_links : middle.links ≡ old.links) (same_snapshots : middle.snapshots ≡ old.snapshots)
    (same_events : middle.events.items.items ≡ old.events.items.items) (at : middle.place ≡ Up behind) (t : ℕ) (least : least_due hub.duties hub.active ≡ Some t)
    (before after : List ℕ) where
  decision_is : (result : Decided) → Decides (inside here.disk) hub result behind → ComesToDecide here seen t result behind
  decision_is result decides = law seen hub behind t result (under_hub here seen old hub is up) least decides

  -- the transaction was settled
  pub decision_settles : (number : ℕ) → Decides (inside here.disk) hub (decided.Settled number) behind → HasEvents middle new (middle.events.items.items ++ event.Settle number ∷ [])
      → after ≡ before → DoesTurn here seen old new before after part.Decisions
  decision_settles number decides has out =
      let did : (number ≡ t) × GoesOnUnder here seen (world_with behind seen) (event.Settle t) behind = decision_is (decided.Settled number) decides in
      quiet_turn here carried stays seen old middle new hub behind is up keeps same_limit same_links same_snapshots same_events at (event.Settle t) part.Decisions did.1 tt tt
      (λ turn. refl) (λ device turn. refl)
      (subst (λ (n : ℕ). HasEvents middle new (middle.events.items.items ++ event.Settle n ∷ [])) did.0 has) before after out

  -- its caller was answered
  pub decision_answers : (caller : List ℕ) (number : ℕ) (given : Answer) (result : Result (Unit {0}) WorldStop) → Decides (inside here.disk) hub (decided.Answered caller number given) behind
      → ConcludesAnswer here.decls.names middle caller number given (event.Decide t given) before result new after
      → MatchResult result (λ value. DoesTurn here seen old new before after part.Decisions) (λ why. MayEndTurn here seen old new before after part.Decisions why)
  decision_answers caller number given result decides concludes = on (decision_is (decided.Answered caller number given) decides)
    where
      own : IsWorldOf here seen hub
      own = under_hub here seen old hub is up

      line : (turn : Turn D) → turn.before ≡ seen → said here.decls.names step.Settle turn (Some (event.Decide t given)) ≡ answer_line here.decls.names caller number given
      line turn first =
          let one = decided_name here hub behind t caller number given own.up least decides in
          ap (λ (w : Seen D). answer_to here.decls.names (call_under w t) given) first
          ∙ ap (λ (n : ℕ). answer_to here.decls.names (call_under seen n) given) (sym one.3)
          ∙ ap (λ (o : Option Call). answer_to here.decls.names o given) (active_call here seen hub own is.numbered one.0 one.1 one.2 one.4)
          ∙ sym (ap (λ (name : List ℕ × ℕ). answer_line here.decls.names name.0 name.1 given) one.5)

      on : ComesToDecide here seen t (decided.Answered caller number given) behind
          → MatchResult result (λ value. DoesTurn here seen old new before after part.Decisions) (λ why. MayEndTurn here seen old new before after part.Decisions why)
      on (inl went) =
          answered_turn here carried stays seen old middle new hub behind is up keeps same_limit same_links same_snapshots same_events at caller number given (event.Decide t given)
          before after part.Decisions tt line result concludes went tt (λ device turn. refl)
      on (inr (fault, (meant, broken))) =
          broken_turn here carried stays seen old middle new hub behind is up keeps same_limit same_links same_snapshots same_events at caller number given (event.Decide t given)
          before after part.Decisions tt line result concludes (event.Decide t meant) tt (ap (λ (a : Answer). Some (event.Decide t a)) (sym fault)) broken

  -- its Settled was not written
  pub decision_breaks : Decides (inside here.disk) hub decided.Down behind → (bytes : Vec ℕ) → bytes.items ≡ [] → (result : Result (Unit {0}) WorldStop)
      → FailsAppend {M = Memory} middle None (Ok bytes) before result new after
      → MatchResult result (λ value. DoesTurn here seen old new before after part.Decisions) (λ why. MayEndTurn here seen old new before after part.Decisions why)
  decision_breaks decides bytes none result fails =
      unsaid_turn here carried stays seen old middle new hub behind is up keeps same_limit same_links same_snapshots same_events at (event.Settle t) part.Decisions tt tt refl
      (decision_is decided.Down decides) bytes none before after result fails

  -- an entry had no room
  pub decision_full : (len : ℕ) → Decides (inside here.disk) hub (decided.Full len) behind → LetsGo middle new → after ≡ before → (why : WorldStop) → why ≡ stop.Full len
      → MayEndTurn here seen old new before after part.Decisions why
  decision_full len decides let_go out why full =
      let did : (meant : Event) × MeansToDecide here t meant × LacksRoomFor here seen meant len behind = decision_is (decided.Full len) decides in
      full_turn here carried stays seen old middle new hub behind is up keeps same_limit same_links same_snapshots same_events at did.0 part.Decisions len did.2 (of_decisions did.0 did.1) tt
      let_go before after out why full
    where
      of_decisions : (meant : Event) → MeansToDecide here t meant → IsOf part.Decisions meant
      of_decisions meant (inl (given, means)) = subst (IsOf part.Decisions) (sym means) tt
      of_decisions meant (inr means) = subst (IsOf part.Decisions) (sym means) tt

-- where something is due something comes
pub decision_comes : {D : Type 0} (here : Setting D) → DecideIsEvent here → (seen : Seen D) (old : Scene D) (hub behind : Hub (Stopping D)) → IsSeenAs here seen old → old.place ≡ Up hub
    → (t : ℕ) → least_due hub.duties hub.active ≡ Some t → Decides (inside here.disk) hub decided.Nothing behind → ⊥
decision_comes here law seen old hub behind is up t least decides =
    law seen hub behind t decided.Nothing (under_hub here seen old hub is up) least decides
